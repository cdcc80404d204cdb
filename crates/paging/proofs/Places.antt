-- The places of tables in a list of segments, and the words there.
use Prim.Native.Nat.{ℕ, ◌+◌, ◌-◌, ◌<◌, ◌≤◌, min}
use mathlib.Core.Path.{◌≡◌, refl, ap, ◌∙◌}
use mathlib.Core.Bool.{Bool, true, false, cond, ◌&&◌}
use mathlib.Core.List.{List, [], ◌∷◌}
use mathlib.Core.Option.{Option, none, some}
use native.Mathlib.Omega.{arith}
use borrow.Author.Tests.{leb-true}
use lib.Dec.{leb}
use lib.ListN.{get_or, drop}
use lib.Seq.{get_or-take, get_or-drop}
use Rattle.paging.specs.Memory.{Segment, word_index, inside_of, place_from, table_from, total, reaching}

-- the words of a table at a place
pub table-word : (words : List ℕ) (p i : ℕ) → i < 512 → get_or (table_from words p) i 0 ≡ get_or words (p + i) 0
table-word words p i h = get_or-take 512 (drop p words) i 0 h ∙ get_or-drop p words i 0

-- it is inside the words of the segments
pub place_inside : (segments : List Segment) (first a p : ℕ) → place_from first segments a ≡ some p → p + 512 ≤ first + total segments
unfolding place_from
place_inside [] first a p e = absurd (let o : ◌≡◌ {A = ℕ} 0 1 = cc in omega arith)
place_inside (s ∷ segments) first a p e = go (leb s.base a) (leb (word_index s.base a + 512) s.words) refl e (place_inside segments (first + s.words) a p)
  where
    go : (b c : Bool) → leb (word_index s.base a + 512) s.words ≡ c
        → cond (b && c) (some (first + word_index s.base a)) (place_from (first + s.words) segments a) ≡ some p
        → (place_from (first + s.words) segments a ≡ some p → p + 512 ≤ first + s.words + total segments)
        → p + 512 ≤ first + total (s ∷ segments)
    go true true h k ih = let z : first + word_index s.base a ≡ p = cc in omega (arith, leb-true (word_index s.base a + 512) s.words h)
    go true false h k ih = omega (arith, ih k)
    go false c h k ih = omega (arith, ih k)

-- the place by the first segment: in it, or in those behind it
module _ (first : ℕ) (s : Segment) (segments : List Segment) (a : ℕ) where
  pub place_here : inside_of s a ≡ true → place_from first (s ∷ segments) a ≡ some (first + word_index s.base a)
  unfolding place_from
  place_here h = ap (λ (b : Bool). cond b (some (first + word_index s.base a)) (place_from (first + s.words) segments a)) h

  pub place-behind : inside_of s a ≡ false → place_from first (s ∷ segments) a ≡ place_from (first + s.words) segments a
  unfolding place_from
  place-behind h = ap (λ (b : Bool). cond b (some (first + word_index s.base a)) (place_from (first + s.words) segments a)) h

-- the place in the first segment, or in those behind it: by the place in the first one alone
module _ (first : ℕ) (s : Segment) (segments : List Segment) (a : ℕ) where
  abbrev rest : Option ℕ
  rest = place_from (first + s.words) segments a

  here : (b : Bool) (n : ℕ) → some n ≡ cond b (some (0 + word_index s.base a)) none → cond b (some (first + word_index s.base a)) rest ≡ some (first + n)
  here true n h = let e : 0 + word_index s.base a ≡ n = cc in ap some (omega (arith, e))
  here false n h = absurd (let o : ◌≡◌ {A = ℕ} 0 1 = cc in omega arith)

  behind : (b : Bool) → none ≡ cond b (some (0 + word_index s.base a)) none → cond b (some (first + word_index s.base a)) rest ≡ rest
  behind true h = absurd (let o : ◌≡◌ {A = ℕ} 0 1 = cc in omega arith)
  behind false h = refl

  pub place_by_first : (n : ℕ) → some n ≡ place_from 0 (s ∷ []) a → place_from first (s ∷ segments) a ≡ some (first + n)
  unfolding place_from
  place_by_first n h = here (inside_of s a) n h

  pub place_by_rest : none ≡ place_from 0 (s ∷ []) a → place_from first (s ∷ segments) a ≡ rest
  unfolding place_from
  place_by_rest h = behind (inside_of s a) h

-- the segments of words that are all lent are reached whole
pub reaching-all : (segments : List Segment) (lent : ℕ) → total segments ≤ lent → reaching lent segments ≡ segments
unfolding reaching
reaching-all [] lent h = refl
reaching-all (s ∷ segments) lent h =
    let m : min s.words lent ≡ s.words = omega arith in
    ap (λ (n : ℕ). record { base = s.base; words = n } ∷ reaching (lent - s.words) segments) m
    ∙ ap (λ (l : List Segment). s ∷ l) (reaching-all segments (lent - s.words) (omega arith))

pub place-reached : (segments : List Segment) (lent a : ℕ) → total segments ≡ lent → place_from 0 (reaching lent segments) a ≡ place_from 0 segments a
place-reached segments lent a h = ap (λ (l : List Segment). place_from 0 l a) (reaching-all segments lent (omega arith))

-- what it says of a segment that holds a table
pub holds : (s : Segment) (a : ℕ) → inside_of s a ≡ true → (s.base ≤ a) × (word_index s.base a + 512 ≤ s.words)
holds s a h = go (leb s.base a) refl (leb (word_index s.base a + 512) s.words) refl h
  where
    go : (b : Bool) → leb s.base a ≡ b → (c : Bool) → leb (word_index s.base a + 512) s.words ≡ c → (b && c) ≡ true → (s.base ≤ a) × (word_index s.base a + 512 ≤ s.words)
    go true p true q k = (leb-true s.base a p, leb-true (word_index s.base a + 512) s.words q)
    go true p false q k = absurd (let o : ◌≡◌ {A = ℕ} 0 1 = cc in omega arith)
    go false p c q k = absurd (let o : ◌≡◌ {A = ℕ} 0 1 = cc in omega arith)
