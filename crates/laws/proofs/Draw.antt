-- Draws stay within the range's items: bounds of the start and the end after each, for any start and end that are at most `top`, the topmost item.
use Prim.Native.Nat.{ℕ, ◌+◌, ◌-◌, ◌*◌, ◌/◌, ◌%◌, ◌≤◌, ◌<◌, min, max}
use mathlib.Core.Path.{◌≡◌, refl, ap}
use mathlib.Core.Bool.{false}
use mathlib.Core.List.{List, reverse}
use mathlib.Core.Option.{none, some}
use native.Mathlib.Omega.{arith}
use native.Mathlib.Decide.{dec_lt}
use native.Mathlib.Nat.{min-le_right, mul-le-mul_right, add-mul, zero-mul}
use borrow.Author.Tests.{lt-ltb, le-ltb}
use lib.Dec.{ltb}
use lib.ListN.{get_elem?}
use Rattle.laws.specs.Run.{len_below, len_through, below}
use Rattle.laws.specs.Draw.{taken, front_below, back_below, front_through, back_through, under_back_below, under_front_through}
use Rattle.laws.proofs.Cases.{by_cases, and-false}
use Rattle.laws.proofs.Align.{apart-whole}
use Rattle.laws.proofs.Run.{back_at, steps-fit, fits_below, back-within, after_last}

-- no end goes below 0
module _ (a b s n : ℕ) where
  -- what is taken is no more than the range has
  back-below-whole : taken (len_below a b s) n * s ≤ b
  back-below-whole = omega (arith, fits_below a b s, mul-le-mul_right {m = min (n + 1) (len_below a b s)} {n = len_below a b s} s (min-le_right (n + 1) (len_below a b s)))

  pub back-below-under : under_back_below a b s n ≡ false
  back-below-under = le-ltb b (taken (len_below a b s) n * s) back-below-whole

  pub front-through-under : (top : ℕ) → s ≤ top → under_front_through top a b s n ≡ false
  front-through-under top h = rw (le-ltb top s h) (and-false (ltb top (a + taken (len_through a b s) n * s)))

module _ (l : List ℕ) (a b s n : ℕ) where
  pub front-below-start : (front_below l a b s n).start ≤ max a b
  front-below-start = omega (arith, fits_below a b s, mul-le-mul_right {m = min (n + 1) (len_below a b s)} {n = len_below a b s} s (min-le_right (n + 1) (len_below a b s)))

  module _ (top : ℕ) (ha : a ≤ top) (hb : b ≤ top) (hs : s ≤ top) where
    pub front-through-start : (front_through l top a b s n).start ≤ top
    front-through-start =
        let next = a + taken (len_through a b s) n * s in
        by_cases (dec_lt top next) (λ h. rw (lt-ltb top next h) (omega arith)) (λ h. rw (le-ltb top next (omega arith)) (omega arith))

    pub front-through-end : (front_through l top a b s n).end ≤ top
    front-through-end =
        let next = a + taken (len_through a b s) n * s in
        by_cases (dec_lt top next) (λ h. rw (lt-ltb top next h) (omega arith)) (λ h. rw (le-ltb top next (omega arith)) (omega arith))

  -- `bottom` is the lowest item
  module _ (top bottom : ℕ) (ha : a ≤ top) (hb : b ≤ top) (hc : bottom + s ≤ top) (hd : bottom ≤ b) where
    pub back-through-end : (back_through l bottom a b s n).end ≤ top
    back-through-end =
        let back = taken (len_through a b s) n * s in
        by_cases (dec_lt b (bottom + back)) (λ h. rw (lt-ltb b (bottom + back) h) (omega arith)) (λ h. rw (le-ltb b (bottom + back) (omega arith)) (omega arith))

    -- where the start is raised, it was the lowest item
    pub back-through-start : (a < bottom + s → a ≡ bottom) → (back_through l bottom a b s n).start ≤ top
    back-through-start z = by_cases (dec_lt b (bottom + taken (len_through a b s) n * s)) raised kept
      where
        raised : b < bottom + taken (len_through a b s) n * s → (back_through l bottom a b s n).start ≤ top
        raised h =
            let j = taken (len_through a b s) n in
            let p : j ≡ 0 → ⊥ = λ e. omega (arith, ap (λ (x : ℕ). x * s) e, zero-mul s) in
            let w = back-within a b s n (len_through a b s) j refl refl p in
            rw (lt-ltb b (bottom + taken (len_through a b s) n * s) h) (omega (arith, z (omega (arith, after_last j s p))))

        kept : (b < bottom + taken (len_through a b s) n * s → ⊥) → (back_through l bottom a b s n).start ≤ top
        kept h = rw (le-ltb b (bottom + taken (len_through a b s) n * s) (omega arith)) ha

-- the end that a draw from the back leaves is the item drawn, where both ends are multiples of the size
pub end-at-item : (l : List ℕ) (a b s n x : ℕ) → 0 < s → a % s ≡ 0 → b % s ≡ 0 → get_elem? (reverse (below a b s)) n ≡ some x → (back_below l a b s n).end ≡ x
unfolding len_below
end-at-item l a b s n x p za zb h = by_cases (dec_lt n ((b - a) / s)) found (λ m. absurd (none-at m))
  where
    none-at : (n < (b - a) / s → ⊥) → ⊥
    none-at m =
        let i : none ≡ some x = rw (back_at a s ((b - a) / s) n, le-ltb n ((b - a) / s) (omega arith)) at h in
        let z : ◌≡◌ {A = ℕ} 0 1 = cc in
        omega arith

    found : n < (b - a) / s → b - taken ((b - a) / s) n * s ≡ x
    found m =
        let e = apart-whole s a b za zb in
        let i : some (a + ((b - a) / s - 1 - n) * s) ≡ some x = rw (back_at a s ((b - a) / s) n, lt-ltb n ((b - a) / s) m) at h in
        let j : a + ((b - a) / s - 1 - n) * s ≡ x = cc in
        let t : min (n + 1) ((b - a) / s) ≡ n + 1 = omega arith in
        let u : (b - a) / s - 1 - n + (n + 1) ≡ (b - a) / s = omega arith in
        let v = add-mul ((b - a) / s - 1 - n) (n + 1) s in
        let w : (b - a) / s * s ≡ ((b - a) / s - 1 - n) * s + (n + 1) * s = rw u at v in
        rw t (omega (arith, steps-fit n ((b - a) / s) s m))
