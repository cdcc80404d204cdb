-- The fields of a header, as the library reads them and as the contracts say them.
use Rattle.std.proofs.Common.{◌≡◌, ◌∙◌, ap, ℕ, ◌+◌, ◌*◌, ◌&&◌, leb, eqb, List, [], ◌∷◌, length, take, drop, arith}
use Rattle.std.specs.Int.{from_be_bytes, w32, w64}
use Rattle.std.proofs.lemmas.List.{length-take-le}
use Rattle.std.proofs.lemmas.Bool.Decides.{nat_tests}
use Rattle.std.proofs.Math.Seq.{drop-drop}
use Rattle.answer.specs.Outcome.{gives, unless}
use Rattle.answer.specs.Refusal.{wrong_file}
use Rattle.input.specs.Input.{number_after, big_endian, header_of, header_bytes, word_bytes, most_words}

pub four_bytes : (bytes : List ℕ) → length bytes ≡ 4 → from_be_bytes w32 bytes ≡ big_endian bytes
unfolding number_after
four_bytes (a ∷ b ∷ c ∷ d ∷ []) h = omega arith
four_bytes [] h = absurd (omega arith)
four_bytes (a ∷ []) h = absurd (omega arith)
four_bytes (a ∷ b ∷ []) h = absurd (omega arith)
four_bytes (a ∷ b ∷ c ∷ []) h = absurd (omega arith)
four_bytes (a ∷ b ∷ c ∷ d ∷ e ∷ bytes) h = absurd (omega arith)

-- the same at eight
pub eight_bytes : (bytes : List ℕ) → length bytes ≡ 8 → from_be_bytes w64 bytes ≡ big_endian bytes
unfolding number_after
eight_bytes (a ∷ b ∷ c ∷ d ∷ e ∷ f ∷ g ∷ h ∷ []) p = omega arith
eight_bytes [] p = absurd (omega arith)
eight_bytes (a ∷ []) p = absurd (omega arith)
eight_bytes (a ∷ b ∷ []) p = absurd (omega arith)
eight_bytes (a ∷ b ∷ c ∷ []) p = absurd (omega arith)
eight_bytes (a ∷ b ∷ c ∷ d ∷ []) p = absurd (omega arith)
eight_bytes (a ∷ b ∷ c ∷ d ∷ e ∷ []) p = absurd (omega arith)
eight_bytes (a ∷ b ∷ c ∷ d ∷ e ∷ f ∷ []) p = absurd (omega arith)
eight_bytes (a ∷ b ∷ c ∷ d ∷ e ∷ f ∷ g ∷ []) p = absurd (omega arith)
eight_bytes (a ∷ b ∷ c ∷ d ∷ e ∷ f ∷ g ∷ h ∷ i ∷ bytes) p = absurd (omega arith)

-- the first `n` elements, and the rest
abbrev pub Cut : ℕ → List ℕ → List ℕ → List ℕ → Type 0
Cut n xs front rest = (front ≡ take n xs) × (rest ≡ drop n xs) × (length rest + n ≡ length xs)

-- what the header says, in the parts that the bytes are cut into
pub header_is : {v : ℕ} {bytes rest ws rest₂ bs rest₃ rs rest₄ : List ℕ} (n b r : ℕ)
    → (bytes ≡ v ∷ rest) × (length rest + 1 ≡ length bytes)
    → Cut 4 rest ws rest₂
    → Cut 8 rest₂ bs rest₃
    → Cut 8 rest₃ rs rest₄
    → n ≡ from_be_bytes w32 ws
    → b ≡ from_be_bytes w64 bs
    → r ≡ from_be_bytes w64 rs
    → header_of bytes ≡ unless wrong_file (eqb v 1 && leb n most_words && eqb (length bytes) (header_bytes + word_bytes * n)) (gives (record { words = n; base = b; root = r }))
unfolding header_of number_after
header_is {v} {bytes} {rest} {ws} {rest₂} {bs} {rest₃} {rs} n b r first cut cut₂ cut₃ counted based rooted =
    let words_in : n ≡ number_after 0 (take 4 rest) = counted ∙ four_bytes ws (rw cut.0 (length-take-le 4 rest (omega arith))) ∙ ap big_endian cut.0 in
    let base_in : b ≡ number_after 0 (take 8 (drop 4 rest)) = based ∙ eight_bytes bs (rw cut₂.0 (length-take-le 8 rest₂ (omega arith))) ∙ ap big_endian (rw cut.1 at cut₂.0) in
    let last : rs ≡ take 8 (drop 12 rest) = cut₃.0 ∙ rw (cut₂.1, cut.1, drop-drop 8 4 rest) in
    let root_in : r ≡ number_after 0 (take 8 (drop 12 rest)) = rooted ∙ eight_bytes rs (rw cut₃.0 (length-take-le 8 rest₃ (omega arith))) ∙ ap big_endian last in
    rw (first.0, ← words_in, ← base_in, ← root_in) (grind (arith, nat_tests))
