-- The tables of an image: "The image is lent 64-bit words; base is the physical address of the first." (document 01, "Translation and mapped runs"). The words may be those of
-- several segments, "each with a base and a length, their words joined in one lent buffer" (document 02, Eight); one image is one segment of any length.
use Rattle.std.specs.Prelude.{ℕ, ◌+◌, ◌-◌, ◌/◌, ◌≤◌, min, ◌≡◌, Bool, cond, ◌&&◌, List, [], ◌∷◌, leb, length, take, drop}
use Rattle.std.proofs.Math.Option.{Option, none, some}

-- the physical address of a segment's first word, and how many words it has
pub record Segment : Type 0 where
  pub base : ℕ
  pub words : ℕ

-- where the words of the table at an address begin in a segment
abbrev pub word_index : ℕ → ℕ → ℕ
word_index base a = (a - base) / 8

-- "A table is inside if it is wholly in one segment."
abbrev pub inside_of : Segment → ℕ → Bool
inside_of s a = leb s.base a && leb (word_index s.base a + 512) s.words

-- where they begin in the lent words, `first` of which are before these segments
unfoldable pub place_from : (first : ℕ) → List Segment → ℕ → Option ℕ
place_from first [] a = none
place_from first (s ∷ segments) a = cond (inside_of s a) (some (first + word_index s.base a)) (place_from (first + s.words) segments a)

-- the 512 words from a place on
abbrev pub table_from : List ℕ → ℕ → List ℕ
table_from words p = take 512 (drop p words)

-- "the walk hands back the table as 512 words of the caller's own image"; none where they are not wholly inside
unfoldable pub table_where : List ℕ → Option ℕ → Option (List ℕ)
table_where words none = none
table_where words (some p) = some (table_from words p)

abbrev pub table_in : List Segment → List ℕ → ℕ → Option (List ℕ)
table_in segments words a = table_where words (place_from 0 segments a)

abbrev pub table_at : List ℕ → ℕ → ℕ → Option (List ℕ)
table_at image base = table_in (record { base = base; words = length image } ∷ []) image

-- the table as words alone: an empty list where there is none
abbrev pub table_words : Option (List ℕ) → List ℕ
table_words none = []
table_words (some t) = t

-- how many words they have
abbrev pub total : List Segment → ℕ
total [] = 0
total (s ∷ segments) = s.words + total segments

-- segments as far as so many lent words reach
unfoldable pub reaching : (lent : ℕ) → List Segment → List Segment
reaching lent [] = []
reaching lent (s ∷ segments) = record { base = s.base; words = min s.words lent } ∷ reaching (lent - s.words) segments

-- a table's place in lent words that have just these segments
abbrev pub Inside : List Segment → List ℕ → (place : ℕ) → Type 0
Inside segments words p = (p + 512 ≤ length words) × (total segments ≡ length words)
