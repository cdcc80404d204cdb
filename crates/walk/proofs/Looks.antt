-- The walk at a page by what an entry says, and what an entry can say.
use Prim.Native.Nat.{ℕ, ◌+◌, ◌%◌, ◌^◌, ◌≤◌}
use mathlib.Core.Path.{◌≡◌, refl, ap, ◌∙◌}
use mathlib.Core.Bool.{Bool, true, false, cond, ◌&&◌, ◌||◌}
use mathlib.Core.List.{List}
use mathlib.Core.Option.{Option}
use native.Mathlib.Omega.{arith}
use native.Mathlib.Numerals.{add-one}
use lib.Dec.{eqb, leb}
use borrow.Author.Tests.{eqb-true, eqb-false, leb-true}
use Rattle.mapping.specs.Pages.{Rights, reserved}
use Rattle.mapping.specs.Walk.{not_present, reserved_bit, maps, table, Walked, absent, broken, mapped, joined, span_pages, word_for, follow, step, walk}
use Rattle.paging.specs.Entry.{set, rights_of, large, reserves_by, first_frame, table_address, entry_by}
use Rattle.paging.proofs.Fields.{first_frame_lem}
use Rattle.walk.specs.Look.{seen}
use Rattle.walk.specs.declared.look.Look.{Look}
use Rattle.walk.specs.declared.look.Look.TheVariants as look

-- page `x` by what an entry of level `n` + 1 says, `r` the rights above its table
abbrev pub reads : (mask : ℕ) (memory : ℕ → Option (List ℕ)) → (n : ℕ) → Rights → (x : ℕ) → Look → Walked
reads mask memory n r x look.Absent = absent (n + 1)
reads mask memory n r x look.Reserved = broken (n + 1) reserved
reads mask memory n r x (look.Leaf g v) = mapped (g + x % span_pages n) (n + 1) (joined r (rights_of v))
reads mask memory n r x (look.Next a v) = follow (memory a) (n + 1) (λ t. walk (entry_by mask) memory n t (joined r (rights_of v)) x)

module _ (mask : ℕ) (memory : ℕ → Option (List ℕ)) (n : ℕ) (r : Rights) (x : ℕ) where
  -- by an entry, with its word `v`: present, reserved, a leaf
  by-entry : (v g a : ℕ) (p q l : Bool)
      → (let e = cond p (cond q reserved_bit (cond l (maps g (rights_of v)) (table a (rights_of v)))) not_present in
      step memory (λ t r'. walk (entry_by mask) memory n t r' x) n r x e ≡ reads mask memory n r x (seen v e))
  unfolding step
  by-entry v g a true true l = refl
  by-entry v g a true false true = refl
  by-entry v g a true false false = refl
  by-entry v g a false q l = refl

  -- the page by the word that a table has for it
  pub walk-word : (t : List ℕ) (v : ℕ) → word_for t n x ≡ v → walk (entry_by mask) memory (n + 1) t r x ≡ reads mask memory n r x (seen v (entry_by mask (n + 1) v))
  unfolding walk entry_by
  walk-word t v e =
      ap (λ (k : ℕ). walk (entry_by mask) memory k t r x) (add-one n)
      ∙ ap (λ (u : ℕ). step memory (λ t' r'. walk (entry_by mask) memory n t' r' x) n r x (entry_by mask (n + 1) u)) e
      ∙ by-entry v (first_frame (n + 1) v) (table_address v) (set 0 v) (reserves_by mask (n + 1) v) (eqb (n + 1) 1 || large (n + 1) v)

-- a leaf is in a table of level 1, 2 or 3 and its frames are below 2^40; a next table is named at level 2 or above
abbrev pub Sound : ℕ → Look → Type 0
Sound n look.Absent = Unit {0}
Sound n look.Reserved = Unit {0}
Sound n (look.Leaf g v) = (n ≤ 2) × (g + span_pages n ≤ 2 ^ 40)
Sound n (look.Next a v) = 1 ≤ n

pub sound-entry : (mask n v : ℕ) → Sound n (seen v (entry_by mask (n + 1) v))
unfolding entry_by
sound-entry mask n v = go (set 0 v) (reserves_by mask (n + 1) v) (eqb (n + 1) 1 || large (n + 1) v) maps-at table_at
  where
    maps-at : (eqb (n + 1) 1 || large (n + 1) v) ≡ true → n ≤ 2
    maps-at = by (eqb (n + 1) 1) refl (leb 2 (n + 1)) (leb (n + 1) 3) refl (set 7 v)
      where
        by : (p : Bool) → eqb (n + 1) 1 ≡ p → (q u : Bool) → leb (n + 1) 3 ≡ u → (z : Bool) → (p || (q && u && z)) ≡ true → n ≤ 2
        by true e q u f z m = omega (arith, eqb-true (n + 1) 1 e)
        by false e true true f z m = omega (arith, leb-true (n + 1) 3 f)
        by false e true false f z m = let i : ◌≡◌ {A = ℕ} 0 1 = cc in omega arith
        by false e false u f z m = let i : ◌≡◌ {A = ℕ} 0 1 = cc in omega arith

    table_at : (eqb (n + 1) 1 || large (n + 1) v) ≡ false → 1 ≤ n
    table_at = by (eqb (n + 1) 1) refl (large (n + 1) v)
      where
        by : (p : Bool) → eqb (n + 1) 1 ≡ p → (z : Bool) → (p || z) ≡ false → 1 ≤ n
        by true e z m = let i : ◌≡◌ {A = ℕ} 0 1 = cc in omega arith
        by false e z m = let d : (n + 1 ≡ 1) → ⊥ = eqb-false (n + 1) 1 e in omega arith

    go : (p q l : Bool) → (l ≡ true → n ≤ 2) → (l ≡ false → 1 ≤ n)
        → Sound n (seen v (cond p (cond q reserved_bit (cond l (maps (first_frame (n + 1) v) (rights_of v)) (table (table_address v) (rights_of v)))) not_present))
    go true true l f g = tt
    go true false true f g = (f refl, first_frame_lem n v (f refl))
    go true false false f g = g refl
    go false q l f g = tt
