-- Draws with n = 0, which are `next` and `next_back`: what they come to, by whether the range has an item, and whether they meet the gap.
use Prim.Native.Nat.{ℕ, ◌+◌, ◌-◌, ◌*◌, ◌/◌, ◌%◌, ◌≤◌, ◌<◌, min}
use mathlib.Core.Path.{◌≡◌, refl}
use mathlib.Core.Bool.{Bool, true, false}
use mathlib.Core.Option.{none, some}
use native.Mathlib.Omega.{arith}
use native.Mathlib.Nat.{zero-mul, one-mul, add-mul, add-zero, sub-zero, div-eq_of_lt, le-div_iff_mul-le, div-add-mod', mul-le-mul_right, min-eq_left}
use borrow.Author.Tests.{lt-ltb, le-ltb, ltb-true, leb-true, eq-eqb, ne_eqb}
use lib.Dec.{ltb, leb, eqb}
use Rattle.laws.specs.Width.{half, first_high}
use Rattle.laws.specs.Run.{len_below, len_through, below, through}
use Rattle.laws.specs.Draw.{front_below, back_below, front_through, back_through, gap_front, gap_back}
use Rattle.laws.proofs.Cases.{all_three}
use Rattle.laws.proofs.Run.{run_at, back_at, through-none}
use Rattle.laws.proofs.Gap.{PageEnds}
use Rattle.laws.proofs.Kept.{front-below-half, back-below-half}

-- what a number is past a whole number of sizes, and one size more
pub rest-room : (x s : ℕ) → 0 < s → s ≤ x → x % s + s ≤ x
rest-room x s p h = omega (arith, div-add-mod' x s, mul-le-mul_right {m = 1} {n = x / s} s ((le-div_iff_mul-le p).1 (rw one-mul h)), one-mul s)

-- of an exclusive range
module _ (a b s : ℕ) where
  pub next-below-none : b - a < s → record { item = none; start = a; end = b } ≡ front_below (below a b s) a b s 0
  unfolding len_below
  next-below-none h = rw (div-eq_of_lt h, run_at, zero-mul, add-zero)

  pub next-back-below-none : b - a < s → record { item = none; start = a; end = b } ≡ back_below (below a b s) a b s 0
  unfolding len_below
  next-back-below-none h = rw (div-eq_of_lt h, back_at, zero-mul, sub-zero)

  one_below : 0 < s → s ≤ b - a → 1 ≤ (b - a) / s
  one_below p h = (le-div_iff_mul-le p).1 (rw one-mul h)

  pub next-below-some : 0 < s → s ≤ b - a → record { item = some a; start = a + s; end = b } ≡ front_below (below a b s) a b s 0
  unfolding len_below
  next-below-some p h =
      let k = one_below p h in
      rw (run_at, lt-ltb 0 ((b - a) / s) k, min-eq_left k, zero-mul, one-mul, add-zero)

  -- the last item is the one below the end, less what the end is past a whole number of sizes
  pub next-back-below-some : 0 < s → s ≤ b - a → record { item = some (b - s - (b - a) % s); start = a; end = b - s } ≡ back_below (below a b s) a b s 0
  unfolding len_below
  next-back-below-some p h =
      let k = one_below p h in
      let e : a + ((b - a) / s - 1 - 0) * s ≡ b - s - (b - a) % s = last_of ((b - a) / s) k (div-add-mod' (b - a) s) in
      rw (back_at, lt-ltb 0 ((b - a) / s) k, min-eq_left k, one-mul, e)
    where
      last_of : (k : ℕ) → 1 ≤ k → k * s + (b - a) % s ≡ b - a → a + (k - 1 - 0) * s ≡ b - s - (b - a) % s
      last_of k l e =
          let u : k - 1 - 0 + 1 ≡ k = omega arith in
          let v = add-mul (k - 1 - 0) 1 s in
          let x : k * s ≡ (k - 1 - 0) * s + 1 * s = rw u at v in
          omega (arith, one-mul s)

-- of an inclusive range
module _ (a b s : ℕ) where
  one-through : a ≤ b → 0 < len_through a b s
  unfolding len_through
  one-through h = rw (le-ltb b a h) (omega arith)

  pub next-through-none : (top : ℕ) → a ≤ top → b < a → record { item = none; start = a; end = b } ≡ front_through (through a b s) top a b s 0
  next-through-none top t h = rw (run_at, through-none a b s h, zero-mul, add-zero, le-ltb top a t)

  pub next-back-through-none : (bottom : ℕ) → bottom ≤ b → b < a → record { item = none; start = a; end = b } ≡ back_through (through a b s) bottom a b s 0
  next-back-through-none bottom d h = rw (back_at, through-none a b s h, zero-mul, add-zero, sub-zero, le-ltb b bottom d)

  pub next-through-top : (top : ℕ) → a ≤ b → top < a + s → record { item = some a; start = top; end = top - s } ≡ front_through (through a b s) top a b s 0
  next-through-top top h t =
      let k = one-through h in
      rw (run_at, lt-ltb 0 (len_through a b s) k, min-eq_left k, zero-mul, one-mul, add-zero, lt-ltb top (a + s) t)

  pub next-through-some : (top : ℕ) → a ≤ b → a + s ≤ top → record { item = some a; start = a + s; end = b } ≡ front_through (through a b s) top a b s 0
  next-through-some top h t =
      let k = one-through h in
      rw (run_at, lt-ltb 0 (len_through a b s) k, min-eq_left k, zero-mul, one-mul, add-zero, le-ltb top (a + s) t)

  last-at : a ≤ b → a + (len_through a b s - 1 - 0) * s ≡ b - (b - a) % s
  unfolding len_through
  last-at h =
      let e : (b - a) / s + 1 - 1 - 0 ≡ (b - a) / s = omega arith in
      rw (le-ltb b a h, e) (omega (arith, div-add-mod' (b - a) s))

  pub next-back-through-first : (bottom : ℕ) → a ≤ b → b < bottom + s → record { item = some (b - (b - a) % s); start = a + s; end = bottom } ≡ back_through (through a b s) bottom a b s 0
  next-back-through-first bottom h t =
      let k = one-through h in
      rw (back_at, lt-ltb 0 (len_through a b s) k, min-eq_left k, one-mul, last-at h, lt-ltb b (bottom + s) t)

  pub next-back-through-some : (bottom : ℕ) → a ≤ b → bottom + s ≤ b → record { item = some (b - (b - a) % s); start = a; end = b - s } ≡ back_through (through a b s) bottom a b s 0
  next-back-through-some bottom h t =
      let k = one-through h in
      rw (back_at, lt-ltb 0 (len_through a b s) k, min-eq_left k, one-mul, last-at h, le-ltb b (bottom + s) t)

-- a test that tells whether two numbers are equal
told : (x y : ℕ) (g : Bool) → (g ≡ true → x ≡ y) → (g ≡ false → x ≡ y → ⊥) → eqb x y ≡ g
told x y true f h = eq-eqb x y (f refl)
told x y false f h = ne_eqb x y (h refl)

-- of pages, a draw meets the gap exactly where the start left would be the first number past the low half, or the end left the number one page below the high half; of an
-- inclusive range, where moreover the other end is in the other half. There is room for a page in the gap.
module _ (w s a b : ℕ) (p : PageEnds w s a b) (wide : half w + s ≤ first_high w) where
  -- the last low page
  is-last-low : a < half w → (half w - a) / s ≤ 1 → a + s ≡ half w
  is-last-low h l = omega (arith, p.to-gap, p.low-start h, mul-le-mul_right {m = (half w - a) / s} {n = 1} s l, one-mul s)

  -- the first high page
  is-first-high : first_high w ≤ b → (b - first_high w) / s ≤ 0 → b ≡ first_high w
  is-first-high h l = omega (arith, p.above, mul-le-mul_right {m = (b - first_high w) / s} {n = 0} s l, zero-mul s)

  one-taken : s ≤ b - a → min 1 (len_below a b s) ≡ 1
  unfolding len_below
  one-taken h = min-eq_left (one_below a b s p.some h)

  pub next-below-gap : eqb (a + min 1 (len_below a b s) * s) (half w) ≡ gap_front w a b s 0
  unfolding gap_front
  next-below-gap = told (a + min 1 (len_below a b s) * s) (half w) (gap_front w a b s 0) meets (λ g u. omega (arith, front-below-half w s a b p g (omega arith), p.some))
    where
      meets : gap_front w a b s 0 ≡ true → a + min 1 (len_below a b s) * s ≡ half w
      meets g =
          let (x, (y, z)) = all_three (ltb a (half w)) (leb (first_high w) b) (leb ((half w - a) / s) 1) g in
          let l = is-last-low (ltb-true a (half w) x) (leb-true ((half w - a) / s) 1 z) in
          let m = leb-true (first_high w) b y in
          rw (one-taken (omega arith), one-mul) l

  pub next-back-below-gap : eqb (b - min 1 (len_below a b s) * s) (first_high w - s) ≡ gap_back w a b s 0
  unfolding gap_back
  next-back-below-gap = told (b - min 1 (len_below a b s) * s) (first_high w - s) (gap_back w a b s 0) meets (λ g u. omega (arith, back-below-half w s a b p g (omega arith), p.some))
    where
      meets : gap_back w a b s 0 ≡ true → b - min 1 (len_below a b s) * s ≡ first_high w - s
      meets g =
          let (x, (y, z)) = all_three (leb (first_high w) b) (ltb a (half w)) (leb ((b - first_high w) / s) 0) g in
          let l = is-first-high (leb-true (first_high w) b x) (leb-true ((b - first_high w) / s) 0 z) in
          let m = ltb-true a (half w) y in
          rw (one-taken (omega arith), one-mul, l)
