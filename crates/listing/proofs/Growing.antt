-- A text with zeros behind it: the text, and what is left of the line's bytes.
use Rattle.std.specs.Prelude.{◌≡◌, ℕ, List, ◌+◌, ◌-◌, ◌<◌, ◌≤◌, length, take, drop, set, replicate}
use Rattle.std.proofs.Common.{suc, arith, ap, ◌∙◌, sym}
use Rattle.std.proofs.Math.ListN.{take-append-drop}
use Rattle.std.proofs.Math.Seq.{drop-drop, drop-set-lt, take-append_seam, drop-append_seam}
use Rattle.std.proofs.lemmas.List.{length-take-le}
use Rattle.listing.specs.Text.{line_bytes, padded}

pub holds : (text : List ℕ) → take (length text) (padded text) ≡ text
holds text = take-append_seam text (replicate (line_bytes - length text) 0)

pub zeros-behind : (text : List ℕ) → drop (length text) (padded text) ≡ replicate (line_bytes - length text) 0
zeros-behind text = drop-append_seam text (replicate (line_bytes - length text) 0)

-- a byte stored behind the first `n` leaves zeros behind it
pub zeros-left : (bytes : List ℕ) (n byte : ℕ) → n < line_bytes → drop n bytes ≡ replicate (line_bytes - n) 0 → drop (n + 1) (set bytes n byte) ≡ replicate (line_bytes - (n + 1)) 0
zeros-left bytes n byte h zeros =
    let less : n < n + 1 = omega arith in
    let e : line_bytes - n ≡ suc (line_bytes - (n + 1)) = omega arith in
    rw (drop-set-lt (n + 1) bytes n byte, ← drop-drop 1 n bytes, zeros, e)

-- the bytes of a line that has a text and zeros behind it: they are that text, padded
pub held : (bytes text : List ℕ) (n : ℕ)
    → length bytes ≡ line_bytes
    → n ≤ line_bytes
    → take n bytes ≡ text
    → drop n bytes ≡ replicate (line_bytes - n) 0
    → (n ≡ length text) × (bytes ≡ padded text)
held bytes text n whole fits e zeros =
    let len : n ≡ length text = sym (length-take-le n bytes (omega arith)) ∙ ap length e in
    (len, rw (← len, ← zeros, ← e) (sym (take-append-drop n bytes)))
