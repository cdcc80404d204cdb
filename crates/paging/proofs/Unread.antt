-- The unread bits of an entry do not change what it says.
use Prim.Native.Nat.{ℕ, ◌+◌, ◌-◌, ◌*◌, ◌/◌, ◌%◌, ◌^◌, ◌≤◌, ◌<◌}
use mathlib.Core.Path.{◌≡◌, refl, sym, ap, ◌∙◌}
use mathlib.Core.Bool.{Bool, true, false, cond, not, ◌&&◌, ◌||◌}
use mathlib.Core.Logic.{⊎_elim}
use native.Mathlib.Omega.{arith}
use native.Mathlib.Decide.{ℕ_discrete}
use lib.Dec.{eqb, leb}
use borrow.Author.Tests.{ne_eqb, leb-true}
use Rattle.laws.specs.Width.{bit}
use Rattle.laws.proofs.Bits.{same-field}
use Rattle.laws.proofs.Cases.{by_cases}
use Rattle.mapping.specs.Walk.{Entry, not_present, reserved_bit, maps, table}
use Rattle.paging.specs.Entry.{set, rights_of, large, large_too_high, large_not_aligned, beyond_processor, reserves, first_frame, table_address, entry}
use Rattle.paging.specs.Unread.{Unread, of-absent, flags, available, above-address, large-at-1, large-12, SameRead, UnreadBits}

large-levels : (l v : ℕ) → large l v ≡ true → (2 ≤ l) × (l ≤ 3)
large-levels l v = go (leb 2 l) refl (leb l 3) refl
  where
    go : (a : Bool) → leb 2 l ≡ a → (b : Bool) → leb l 3 ≡ b → (a && b && set 7 v) ≡ true → (2 ≤ l) × (l ≤ 3)
    go true x true y e = (leb-true 2 l x, leb-true l 3 y)
    go true x false y e = absurd (let z : ◌≡◌ {A = ℕ} 0 1 = cc in omega arith)
    go false x b y e = absurd (let z : ◌≡◌ {A = ℕ} 0 1 = cc in omega arith)

module _ (l v u : ℕ) (s : SameRead l v u) where
  -- a bit that is not unread is the same
  read : (k : ℕ) → k < 64 → (Unread l v k → ⊥) → bit k v ≡ bit k u
  read k h n = ⊎_elim (λ e. e) (λ r. absurd (n r)) (s k h)

  present-read : Unread l v 0 → ⊥
  present-read r = go r refl
    where
      go : {k : ℕ} → Unread l v k → k ≡ 0 → ⊥
      go (of-absent e o) z = omega arith
      go (flags a b) z = omega arith
      go (available a b) z = omega arith
      go (above-address a b) z = omega arith
      go (large-at-1 e) z = omega arith
      go (large-12 e) z = omega arith

  same-present : set 0 v ≡ set 0 u
  same-present = ap (λ (x : ℕ). eqb x 1) (read 0 (omega arith) present-read)

  module _ (p : set 0 v ≡ true) where
    -- of an entry that is present, a bit that is named
    named : {k : ℕ} → (3 ≤ k → 6 < k) → (8 ≤ k → 11 < k) → (52 ≤ k → 62 < k) → (k ≡ 7 → l ≡ 1 → ⊥) → (k ≡ 12 → large l v ≡ true → ⊥) → Unread l v k → ⊥
    named a b c d e (of-absent f o) = let z : ◌≡◌ {A = ℕ} 0 1 = cc in omega arith
    named a b c d e (flags x y) = omega (arith, a x)
    named a b c d e (available x y) = omega (arith, b x)
    named a b c d e (above-address x y) = omega (arith, c x)
    named a b c d e (large-at-1 x) = d refl x
    named a b c d e (large-12 x) = e refl x

    same_bit : (k : ℕ) → k < 64 → (3 ≤ k → 6 < k) → (8 ≤ k → 11 < k) → (52 ≤ k → 62 < k) → (k ≡ 7 → l ≡ 1 → ⊥) → (k ≡ 12 → large l v ≡ true → ⊥) → set k v ≡ set k u
    same_bit k h a b c d e = ap (λ (x : ℕ). eqb x 1) (read k h (named a b c d e))

    -- bits of the address, bit 12 not of a large entry
    address : (k : ℕ) → 12 ≤ k → k < 52 → (k ≡ 12 → large l v ≡ true → ⊥) → bit k v ≡ bit k u
    address k a b e = read k (omega arith) (named (λ x. omega arith) (λ x. omega arith) (λ x. omega arith) (λ x. omega arith) e)

    same-rights : rights_of v ≡ rights_of u
    same-rights =
        let a = same_bit 1 (omega arith) (λ x. omega arith) (λ x. omega arith) (λ x. omega arith) (λ x. omega arith) (λ x. omega arith) in
        let b = same_bit 2 (omega arith) (λ x. omega arith) (λ x. omega arith) (λ x. omega arith) (λ x. omega arith) (λ x. omega arith) in
        let c = same_bit 63 (omega arith) (λ x. omega arith) (λ x. omega arith) (λ x. omega arith) (λ x. omega arith) (λ x. omega arith) in
        cc

    same-7 : (l ≡ 1 → ⊥) → set 7 v ≡ set 7 u
    same-7 n = same_bit 7 (omega arith) (λ x. omega arith) (λ x. omega arith) (λ x. omega arith) (λ x. n) (λ x. omega arith)

    same-large : large l v ≡ large l u
    same-large = by_cases (ℕ_discrete l 1) (λ e. rw e) (λ n. ap (λ (b : Bool). leb 2 l && leb l 3 && b) (same-7 n))

    -- the bits that a large entry and the processor reserve
    same-aligned : large_not_aligned l v ≡ large_not_aligned l u
    same-aligned = go (large l v) refl same-large
      where
        go : (b : Bool) → large l v ≡ b → large l v ≡ large l u → large_not_aligned l v ≡ large_not_aligned l u
        go false e f = let h : large l u ≡ false = cc in rw (e, h)
        go true e f =
            let h : large l u ≡ true = cc in
            let i = large-levels l v e in
            rw (e, h) (ap (λ (x : ℕ). not (eqb x 0)) (same-field 13 (9 * (l - 1) - 1) v u (λ k x y. address k (omega arith) (omega arith) (λ z. omega arith))))

    same-high : large_too_high l v ≡ large_too_high l u
    same-high = by_cases (ℕ_discrete l 1) (λ e. rw e) (λ n. ap (λ (t : Bool). leb 4 l && t) (same-7 n))

    -- what the entry maps, or the table that it names
    same-leaf : 1 ≤ l → (eqb l 1 || large l v) ≡ true → first_frame l v ≡ first_frame l u
    same-leaf o e =
        by_cases (ℕ_discrete l 1)
        (λ i. rw i (ap (λ (x : ℕ). x * 1) (same-field 12 40 v u (λ k x y. address k x y (λ z f. let q = large-levels l v f in omega arith)))))
        (λ n. let i = large-levels l v (rw (ne_eqb l 1 n) at e) in
        ap (λ (x : ℕ). x * 2 ^ (9 * (l - 1))) (same-field (12 + 9 * (l - 1)) (40 - 9 * (l - 1)) v u (λ k x y. address k (omega arith) (omega arith) (λ z. omega arith))))

    same-table : (eqb l 1 || large l v) ≡ false → table_address v ≡ table_address u
    same-table e = ap (λ (x : ℕ). x * 2 ^ 12) (same-field 12 40 v u (λ k x y. address k x y (λ z f. neither (eqb l 1) (large l v) e f)))
      where
        neither : (a b : Bool) → (a || b) ≡ false → b ≡ true → ⊥
        neither true b e f = let z : ◌≡◌ {A = ℕ} 0 1 = cc in omega arith
        neither false true e f = let z : ◌≡◌ {A = ℕ} 0 1 = cc in omega arith
        neither false false e f = let z : ◌≡◌ {A = ℕ} 0 1 = cc in omega arith

    module _ (w : ℕ) (no_execute : Bool) (a : 13 ≤ w) (b : w ≤ 52) where
      same-beyond : beyond_processor w no_execute v ≡ beyond_processor w no_execute u
      same-beyond =
          let c = same_bit 63 (omega arith) (λ x. omega arith) (λ x. omega arith) (λ x. omega arith) (λ x. omega arith) (λ x. omega arith) in
          let d = same-field w (52 - w) v u (λ k x y. address k (omega arith) (omega arith) (λ z. omega arith)) in
          rw d (ap (λ (t : Bool). not (eqb (u / 2 ^ w % 2 ^ (52 - w)) 0) || cond no_execute false t) c)

      same-reserved : reserves w no_execute l v ≡ reserves w no_execute l u
      same-reserved = let x = same-beyond in let y = same-high in let z = same-aligned in rw (x, y, z)

-- an entry by its tests: where these are the same, only what is chosen counts
same-choice : (p p' r r' q q' : Bool) (x x' y y' : Entry) → p ≡ p' → r ≡ r' → q ≡ q' → (q ≡ true → x ≡ x') → (q ≡ false → y ≡ y')
    → cond p (cond r reserved_bit (cond q x y)) not_present ≡ cond p' (cond r' reserved_bit (cond q' x' y')) not_present
same-choice p p' r r' true q' x x' y y' a b c f g = let h = f refl in rw (a, b, ← c, h)
same-choice p p' r r' false q' x x' y y' a b c f g = let h = g refl in rw (a, b, ← c, h)

pub unread-bits : UnreadBits
unfolding entry
unread-bits w no_execute l v u a b c s = go (set 0 v) refl
  where
    go : (p : Bool) → set 0 v ≡ p → entry w no_execute l v ≡ entry w no_execute l u
    go false e = simp (e, sym (same-present l v u s) ∙ e)
    go true e =
        let rights = same-rights l v u s e in
        same-choice (set 0 v) (set 0 u) (reserves w no_execute l v) (reserves w no_execute l u) (eqb l 1 || large l v) (eqb l 1 || large l u)
        (maps (first_frame l v) (rights_of v)) (maps (first_frame l u) (rights_of u)) (table (table_address v) (rights_of v)) (table (table_address u) (rights_of u))
        (same-present l v u s) (same-reserved l v u s e w no_execute a b) (ap (λ (x : Bool). eqb l 1 || x) (same-large l v u s e))
        (λ f. let g = same-leaf l v u s e c f in cc) (λ f. let g = same-table l v u s e f in cc)
