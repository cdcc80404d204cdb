-- The segments from one on, as far as they are lent.
use Prim.Native.Nat.{ℕ, suc, ◌+◌, ◌-◌, ◌/◌, ◌<◌, ◌≤◌, min}
use mathlib.Core.Path.{◌≡◌, refl, sym, ap, ◌∙◌}
use mathlib.Core.List.{List, [], ◌∷◌}
use mathlib.Core.Option.{none, some}
use native.Mathlib.Omega.{arith}
use native.Mathlib.Numerals.{add-one}
use lib.ListN.{length, get_or, drop}
use lib.Seq.{drop-cons}
use Rattle.std.proofs.lemmas.Bool.{le-leb, lt-leb}
use Rattle.std.proofs.lemmas.List.{drop_all}
use Rattle.paging.specs.Memory as memory
use Rattle.paging.specs.Memory.{word_index, inside_of, place_from, reaching}
use Rattle.paging.proofs.Places.{place_inside, place_by_first, place_by_rest}
use Rattle.walk.specs.Segments.{segments_of}
use Rattle.walk.specs.declared.memory.Segment.{Segment}

-- a table in one segment alone: by the two tests of `words_before`
module _ (s : memory.Segment) (a : ℕ) where
  pub table_below : a < s.base → none ≡ place_from 0 (s ∷ []) a
  unfolding place_from
  table_below h = rw (lt-leb s.base a h) refl

  pub table_past : s.base ≤ a → s.words < word_index s.base a + 512 → none ≡ place_from 0 (s ∷ []) a
  unfolding place_from
  table_past b h = rw (le-leb s.base a b, lt-leb (word_index s.base a + 512) s.words h) refl

  pub table_within : (n : ℕ) → s.base ≤ a → n ≡ a - s.base → n / 8 + 512 ≤ s.words → some (n / 8) ≡ place_from 0 (s ∷ []) a
  unfolding place_from
  table_within n b e h =
      let i : word_index s.base a + 512 ≤ s.words = omega (arith, e, h) in
      rw (le-leb s.base a b, le-leb (word_index s.base a + 512) s.words i) (ap (λ (n : ℕ). some n) (omega (arith, e)))

  -- with the words behind it
  pub words_inside : (n : ℕ) → some n ≡ place_from 0 (s ∷ []) a → n + 512 ≤ s.words
  words_inside n h = omega (arith, place_inside (s ∷ []) 0 a n (sym h))

-- one of them
abbrev pub segment-at : List Segment → ℕ → Segment
segment-at list i = get_or list i (record { base = 0; words = 0 })

-- those from one on, as far as the words from `first` on reach
abbrev pub behind : (lent first : ℕ) → List Segment → ℕ → List memory.Segment
behind lent first list i = reaching (lent - first) (segments_of (drop i list))

-- the next one, as far as it is lent: in it is the table, or in those behind it
module _ (lent first words : ℕ) (list : List Segment) (i a : ℕ) (l : i < length list) (f : first ≤ lent) (e : words ≡ min (segment-at list i).words (lent - first)) where
  abbrev next : memory.Segment
  next = record { base = (segment-at list i).base; words = words }

  behind-next : behind lent first list i ≡ next ∷ behind lent (first + words) list (i + 1)
  unfolding reaching
  behind-next =
      let left = lent - first in
      let s = segment-at list i in
      let less : left - s.words ≡ lent - (first + words) = omega (arith, e, f) in
      ap (λ (m : List Segment). reaching left (segments_of m)) (drop-cons list i (record { base = 0; words = 0 }) l)
      ∙ ap (λ (n : ℕ). record { base = s.base; words = n } ∷ reaching (left - s.words) (segments_of (drop (suc i) list))) (sym e)
      ∙ ap (λ (n : ℕ). next ∷ reaching n (segments_of (drop (suc i) list))) less
      ∙ ap (λ (n : ℕ). next ∷ behind lent (first + words) list n) (sym (add-one i))

  pub found_next : (n : ℕ) → some n ≡ place_from 0 (next ∷ []) a → place_from first (behind lent first list i) a ≡ some (first + n)
  found_next n h = ap (λ (m : List memory.Segment). place_from first m a) behind-next ∙ place_by_first first next (behind lent (first + words) list (i + 1)) a n h

  pub found_behind : none ≡ place_from 0 (next ∷ []) a → place_from first (behind lent first list i) a ≡ place_from (first + words) (behind lent (first + words) list (i + 1)) a
  found_behind h = ap (λ (m : List memory.Segment). place_from first m a) behind-next ∙ place_by_rest first next (behind lent (first + words) list (i + 1)) a h

-- behind the last there is none
pub none_behind : (lent first : ℕ) (list : List Segment) (i a : ℕ) → length list ≤ i → place_from first (behind lent first list i) a ≡ none
unfolding place_from reaching
none_behind lent first list i a h = ap (λ (m : List Segment). place_from first (reaching (lent - first) (segments_of m)) a) (drop_all i list h)
