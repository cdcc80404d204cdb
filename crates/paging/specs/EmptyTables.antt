-- Tables that hold nothing, remembered in lent bytes: a byte for each 512 words, in it a bit for each level. What stands in the bytes is free but for this: a set bit is true of
-- the image.
use Rattle.std.specs.Prelude.{ℕ, ◌+◌, ◌*◌, ◌/◌, ◌%◌, ◌^◌, ◌≤◌, ◌<◌, ◌≡◌, Bool, true, cond, ◌&&◌, List, eqb, ltb, length, get_or}
use Rattle.std.proofs.Math.Option.{Option}
use Rattle.std.specs.Int.Bits.{bit_or}
use Rattle.std.proofs.Math.ListN as list
use Rattle.mapping.specs.Walk.{Entry, HoldsNothing}
use Rattle.paging.specs.Entry.{set, entry_by}
use Rattle.paging.specs.Memory.{Segment, table_from, table_in}
use Rattle.paging.specs.Span.{within}

-- bit `n` of byte `i` says that the 512 words from 512 × i on, as a table of level `n` + 1, hold nothing
abbrev pub TrueOf : (entry : ℕ → ℕ → Entry) (memory : ℕ → Option (List ℕ)) → (words bytes : List ℕ) → Type 0
TrueOf entry memory words bytes =
    (i n : ℕ) → i < length bytes → set n (get_or bytes i 0) ≡ true → (512 * i + 512 ≤ length words) × HoldsNothing entry memory (n + 1) (table_from words (512 * i))

-- the same of the tables in lent words that have these segments, for a processor that reserves the bits of `mask`
abbrev pub TrueIn : (mask : ℕ) → List Segment → (words bytes : List ℕ) → Type 0
TrueIn mask segments words = TrueOf (entry_by mask) (table_in segments words) words

-- whether a table at a place has a byte
abbrev pub has_byte : List ℕ → ℕ → Bool
has_byte bytes p = eqb (p % 512) 0 && ltb (p / 512) (length bytes)

-- whether its bit for level `n` + 1 is set; a byte has eight
abbrev pub marked : List ℕ → (p n : ℕ) → Bool
marked bytes p n = has_byte bytes p && set (n % 8) (get_or bytes (p / 512) 0)

-- the bytes with it set
abbrev pub marking : List ℕ → (p n : ℕ) → List ℕ
marking bytes p n = cond (has_byte bytes p) (list.set bytes (p / 512) (bit_or (get_or bytes (p / 512) 0) (2 ^ (n % 8)))) bytes

-- the same if the table was gone through from page `x` on, that is all of it, and nothing was found
abbrev pub marking_whole : List ℕ → (nothing : Bool) → (p n x : ℕ) → List ℕ
marking_whole bytes nothing p n x = cond (nothing && eqb (within (n % 8 + 1) x) 0) (marking bytes p n) bytes
