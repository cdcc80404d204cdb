-- What a draw leaves of an accepted range can be drawn from again: its ends are multiples of the size, and pages in their halves; it meets the gap where the whole range does.
use Prim.Native.Nat.{ℕ, suc, ◌+◌, ◌-◌, ◌*◌, ◌/◌, ◌%◌, ◌≤◌, ◌<◌, min, max}
use mathlib.Core.Path.{◌≡◌, refl, sym, ap, ◌∙◌}
use mathlib.Core.Bool.{Bool, true, false, ◌&&◌}
use mathlib.Core.List.{List}
use native.Mathlib.Omega.{arith}
use native.Mathlib.Decide.{ℕ_discrete, dec_lt, dec_le}
use native.Mathlib.Nat.{add-mul-mod_self_right, mod-eq-zero_of_dvd, dvd_of_mod-eq-zero, dvd-sub, dvd-mul_left, one-mul, zero-mul, sub-add-eq, mul-le-mul_right, div-mul-le_self, min-eq_left, min-le_right, le-div_iff_mul-le, le_trans}
use borrow.Author.Tests.{lt-ltb, le-ltb, le-leb, lt-leb, leb-false}
use lib.Dec.{ltb, leb}
use Rattle.laws.specs.Width.{half, first_high, InOneHalf, both_low, both_high}
use Rattle.laws.specs.Run.{len_below, len_through}
use Rattle.laws.specs.Draw.{Draw, taken, front_below, back_below, front_through, back_through, bottom_of, gap_front, gap_back}
use Rattle.laws.proofs.Cases.{by_cases, and-false}
use Rattle.laws.proofs.Run.{len-left, through-is, through-none, fits_below}
use Rattle.laws.proofs.Draw.{front-below-start, back-through-start}
use Rattle.laws.proofs.PagesLeft.{front, back, moved, front-start, front-end, front-start-top, front-end-top, back_start, back_end, back-end-bottom}
use Rattle.laws.proofs.Halves.{by_start, by_end, top-low, top-high, bottom-high, bottom-over, bottom-zero, end-top, start-bottom}
use Rattle.laws.proofs.Gap.{PageEnds, not-gap, div-le}

-- multiples of `s`, some sizes on and back
more : (a s j : ℕ) → a % s ≡ 0 → (a + j * s) % s ≡ 0
more a s j h = add-mul-mod_self_right a j s ∙ h

less : (b s j : ℕ) → b % s ≡ 0 → (b - j * s) % s ≡ 0
less b s j h = mod-eq-zero_of_dvd s (dvd-sub s (dvd_of_mod-eq-zero s h) (dvd-mul_left s j))

-- both ends of what a draw leaves
pub record Multiples (s : ℕ) (d : Draw) : Type 0 where
  pub start : d.start % s ≡ 0
  pub end : d.end % s ≡ 0

module _ (l : List ℕ) (a b s n : ℕ) (za : a % s ≡ 0) (zb : b % s ≡ 0) where
  pub front-below-multiples : Multiples s (front_below l a b s n)
  front-below-multiples = record { start = more a s (taken (len_below a b s) n) za; end = zb }

  pub back-below-multiples : Multiples s (back_below l a b s n)
  back-below-multiples = record { start = za; end = less b s (taken (len_below a b s) n) zb }

  pub front-through-multiples : (top : ℕ) → top % s ≡ 0 → Multiples s (front_through l top a b s n)
  front-through-multiples top zt =
      let next = a + taken (len_through a b s) n * s in
      by_cases (dec_lt top next)
      (λ h. rw (lt-ltb top next h) (record { start = zt; end = rw one-mul at (less top s 1 zt) }))
      (λ h. rw (le-ltb top next (omega arith)) (record { start = more a s (taken (len_through a b s) n) za; end = zb }))

  pub back-through-multiples : (bottom : ℕ) → bottom % s ≡ 0 → Multiples s (back_through l bottom a b s n)
  back-through-multiples bottom zc =
      let back = taken (len_through a b s) n * s in
      by_cases (dec_lt b (bottom + back))
      (λ h. rw (lt-ltb b (bottom + back) h) (record { start = rw one-mul at (more a s 1 za); end = zc }))
      (λ h. rw (le-ltb b (bottom + back) (omega arith)) (record { start = za; end = less b s (taken (len_through a b s) n) zb }))

-- one item fewer, and one place less far
one_less : (d m n : ℕ) → m ≡ n + 1 → leb (d - 1) n ≡ leb d m
one_less d m n e =
    by_cases (dec_le d m) (λ h. le-leb (d - 1) n (omega arith) ∙ sym (le-leb d m h)) (λ h. lt-leb (d - 1) n (omega arith) ∙ sym (lt-leb d m (omega arith)))

-- a draw that does not meet the gap, and one less far
less-far : (x y : Bool) (d m k : ℕ) → k ≤ m → (x && (y && leb d m)) ≡ false → (x && (y && leb d k)) ≡ false
less-far true true d m k h e = let l = leb-false d m e in lt-leb d k (omega arith)
less-far true false d m k h e = refl
less-far false y d m k h e = refl

module _ (w s a b n : ℕ) where
  pub front-first : gap_front w a b s (suc n) ≡ false → gap_front w a b s 0 ≡ false
  unfolding gap_front
  front-first g = less-far (ltb a (half w)) (leb (first_high w) b) ((half w - a) / s) (suc n + 1) 1 (omega arith) g

  pub back-first : gap_back w a b s (suc n) ≡ false → gap_back w a b s 0 ≡ false
  unfolding gap_back
  back-first g = less-far (leb (first_high w) b) (ltb a (half w)) ((b - first_high w) / s) (suc n) 0 (omega arith) g

  -- only a range from the low half to the high one meets the gap
  pub front-low : b < first_high w → gap_front w a b s n ≡ false
  unfolding gap_front
  front-low k = simp (lt-leb (first_high w) b k, and-false)

  pub front-high : half w ≤ a → gap_front w a b s n ≡ false
  unfolding gap_front
  front-high h = rw (le-ltb a (half w) h)

  pub back-low : b < first_high w → gap_back w a b s n ≡ false
  unfolding gap_back
  back-low k = rw (lt-leb (first_high w) b k)

  pub back-high : half w ≤ a → gap_back w a b s n ≡ false
  unfolding gap_back
  back-high h = simp (le-ltb a (half w) h, and-false)

  -- so an empty one does not
  module _ (p : PageEnds w s a b) where
    pub front-none : b ≤ a → gap_front w a b s n ≡ false
    front-none h = by_cases (dec_lt a (half w)) (λ k. front-low (omega (arith, p.halves))) (λ k. front-high (omega arith))

    pub back-none : b ≤ a → gap_back w a b s n ≡ false
    back-none h = by_cases (dec_lt a (half w)) (λ k. back-low (omega (arith, p.halves))) (λ k. back-high (omega arith))

-- the pages of a range from `a` to `b`, after a draw with n = 0
module _ (w s a b : ℕ) (p : PageEnds w s a b) where
  -- where two pages fit before the gap
  two-fit : 1 < (half w - a) / s → a + s + s ≤ half w
  two-fit h = omega (arith, mul-le-mul_right {m = 2} {n = (half w - a) / s} s h, div-mul-le_self (half w - a) s)

  -- one page fewer up to the gap
  one_on : (a' : ℕ) → a' ≡ a + 1 * s → (half w - a') / s ≡ (half w - a) / s - 1
  one_on a' e = rw (e, sub-add-eq, len-left (half w - a) s 1 p.some)

  front-crossing : a < half w → first_high w ≤ b → gap_front w a b s 0 ≡ false → (1 < (half w - a) / s) × (min 1 (len_below a b s) ≡ 1)
  unfolding gap_front len_below
  front-crossing h k g =
      let d = (half w - a) / s in
      let f : 1 < d = leb-false d 1 (not-gap w s a b p (ltb a (half w)) (leb (first_high w) b) (leb d 1) g (lt-ltb a (half w) h) (le-leb (first_high w) b k)) in
      let m : d ≤ (b - a) / s = div-le w s a b p (half w - a) (b - a) (omega (arith, p.halves)) in
      (f, min-eq_left (omega arith))

  pub front-below-gap : gap_front w a b s 0 ≡ false → (n : ℕ) → gap_front w (a + min 1 (len_below a b s) * s) b s n ≡ gap_front w a b s (suc n)
  unfolding gap_front
  front-below-gap g n =
      by_cases (dec_lt a (half w)) (λ h. by_cases (dec_lt b (first_high w)) away (λ k. crossing h (omega arith)))
      (λ h. rw (le-ltb (a + min 1 (len_below a b s) * s) (half w) (omega arith), le-ltb a (half w) (omega arith)))
    where
      away : b < first_high w → gap_front w (a + min 1 (len_below a b s) * s) b s n ≡ gap_front w a b s (suc n)
      away k = simp (lt-leb (first_high w) b k, and-false)

      crossing : a < half w → first_high w ≤ b → gap_front w (a + min 1 (len_below a b s) * s) b s n ≡ gap_front w a b s (suc n)
      crossing h k =
          let (f, j) = front-crossing h k g in
          let t = two-fit f in
          rw (j, lt-ltb (a + 1 * s) (half w) (omega (arith, p.some)), lt-ltb a (half w) h, le-leb (first_high w) b k, one_on (a + 1 * s) refl, one_less ((half w - a) / s) (suc n + 1) (n + 1) (omega arith))

  -- and it is still in its half
  pub front-below-half : gap_front w a b s 0 ≡ false → half w ≤ a + min 1 (len_below a b s) * s → first_high w ≤ a + min 1 (len_below a b s) * s
  front-below-half g u =
      by_cases (dec_lt a (half w)) (λ h. by_cases (dec_lt b (first_high w)) (λ k. absurd (away h k)) (λ k. absurd (crossing h (omega arith))))
      (λ h. let l = p.high-start (omega arith) in omega arith)
    where
      away : a < half w → b < first_high w → ⊥
      away h k =
          let l : b < half w = by_cases (dec_lt b (half w)) (λ x. x) (λ x. let y = p.high_end (omega arith) in absurd (omega arith)) in
          omega (arith, fits_below a b s, mul-le-mul_right {m = min 1 (len_below a b s)} {n = len_below a b s} s (min-le_right 1 (len_below a b s)))

      crossing : a < half w → first_high w ≤ b → ⊥
      crossing h k =
          let (f, j) = front-crossing h k g in
          let t = two-fit f in
          let v : half w ≤ a + 1 * s = rw j at u in
          omega (arith, p.some)

  back-crossing : first_high w ≤ b → a < half w → gap_back w a b s 0 ≡ false → (0 < (b - first_high w) / s) × (min 1 (len_below a b s) ≡ 1)
  unfolding gap_back len_below
  back-crossing k h g =
      let c = (b - first_high w) / s in
      let f : 0 < c = leb-false c 0 (not-gap w s a b p (leb (first_high w) b) (ltb a (half w)) (leb c 0) g (le-leb (first_high w) b k) (lt-ltb a (half w) h)) in
      let m : c ≤ (b - a) / s = div-le w s a b p (b - first_high w) (b - a) (omega (arith, p.halves)) in
      (f, min-eq_left (omega arith))

  -- one page fits above the gap
  one-fits : first_high w ≤ b → 0 < (b - first_high w) / s → first_high w + s ≤ b
  one-fits k h = omega (arith, mul-le-mul_right {m = 1} {n = (b - first_high w) / s} s h, div-mul-le_self (b - first_high w) s)

  one-back : (b - 1 * s - first_high w) / s ≡ (b - first_high w) / s - 1
  one-back = let e : b - 1 * s - first_high w ≡ b - first_high w - 1 * s = omega arith in rw e (len-left (b - first_high w) s 1 p.some)

  pub back-below-gap : gap_back w a b s 0 ≡ false → (n : ℕ) → gap_back w a (b - min 1 (len_below a b s) * s) s n ≡ gap_back w a b s (suc n)
  unfolding gap_back
  back-below-gap g n =
      by_cases (dec_lt b (first_high w)) (λ k. rw (lt-leb (first_high w) (b - min 1 (len_below a b s) * s) (omega arith), lt-leb (first_high w) b k))
      (λ k. by_cases (dec_lt a (half w)) (crossing (omega arith)) (λ h. simp (le-ltb a (half w) (omega arith), and-false)))
    where
      crossing : first_high w ≤ b → a < half w → gap_back w a (b - min 1 (len_below a b s) * s) s n ≡ gap_back w a b s (suc n)
      crossing k h =
          let (f, j) = back-crossing k h g in
          let t = one-fits k f in
          rw (j, le-leb (first_high w) (b - 1 * s) (omega arith), lt-ltb a (half w) h, le-leb (first_high w) b k, one-back, one_less ((b - first_high w) / s) (suc n) n (omega arith))

  pub back-below-half : gap_back w a b s 0 ≡ false → half w ≤ b - min 1 (len_below a b s) * s → first_high w ≤ b - min 1 (len_below a b s) * s
  back-below-half g u =
      by_cases (dec_lt a (half w)) (λ h. crossing (p.high_end (omega arith)) h)
      (λ h. omega (arith, p.high-start (omega arith), p.high_end (omega arith), fits_below a b s, mul-le-mul_right {m = min 1 (len_below a b s)} {n = len_below a b s} s (min-le_right 1 (len_below a b s))))
    where
      crossing : first_high w ≤ b → a < half w → first_high w ≤ b - min 1 (len_below a b s) * s
      crossing k h =
          let (f, j) = back-crossing k h g in
          let t = one-fits k f in
          rw j (omega arith)

  -- the same of an inclusive range, of whose items a draw with n = 0 takes one if it is over the gap
  pub through-one : a < half w → first_high w ≤ b → min 1 (len_through a b s) ≡ 1
  unfolding len_below
  through-one h k =
      let m : 1 ≤ (b + s - a) / s = (le-div_iff_mul-le p.some).1 (rw one-mul (omega (arith, p.halves))) in
      rw (through-is a b s p.some) (min-eq_left m)

  module _ (l : List ℕ) where
    -- what the draw leaves, over the gap
    front-moved : a < half w → first_high w ≤ b → gap_front w a b s 0 ≡ false → ((front w s a b p l 0).start ≡ a + 1 * s) × ((front w s a b p l 0).end ≡ b)
    front-moved h k g =
        let (f, j) = front-crossing h k g in
        let e : a + min 1 (len_through a b s) * s ≡ a + 1 * s = ap (λ (x : ℕ). a + x * s) (through-one h k) in
        let (u, v) = moved w s a b p l 0 (omega (arith, e, two-fit f, end-top w s a b p, p.halves)) in
        (u ∙ e, v)

    back-moved : a < half w → first_high w ≤ b → gap_back w a b s 0 ≡ false → ((back w s a b p l 0).start ≡ a) × ((back w s a b p l 0).end ≡ b - 1 * s)
    back-moved h k g =
        let (f, j) = back-crossing k h g in
        let t = one-fits k f in
        let o = bottom-over w a b (omega (arith, p.halves)) in
        let z : ltb b (0 + 1 * s) ≡ false = le-ltb b (0 + 1 * s) (omega arith) in
        (rw (o, through-one h k, z), rw (o, through-one h k, z))

    pub front-through-gap : gap_front w a b s 0 ≡ false → (n : ℕ) → gap_front w (front w s a b p l 0).start (front w s a b p l 0).end s n ≡ gap_front w a b s (suc n)
    unfolding gap_front
    front-through-gap g n =
        by_start p
        (λ h k.
        front-low w s (front w s a b p l 0).start (front w s a b p l 0).end n (omega (arith, front-end-top w s a b p l 0, top-low w a b s h k, p.some, p.room, p.halves))
        ∙ sym (front-low w s a b (suc n) (omega (arith, p.halves))))
        over
        (λ h.
        front-high w s (front w s a b p l 0).start (front w s a b p l 0).end n (omega (arith, front-start w s a b p l 0, p.halves))
        ∙ sym (front-high w s a b (suc n) (omega (arith, p.halves))))
      where
        over : a < half w → first_high w ≤ b → gap_front w (front w s a b p l 0).start (front w s a b p l 0).end s n ≡ gap_front w a b s (suc n)
        over h k =
            let (f, j) = front-crossing h k g in
            let t = two-fit f in
            let (u, v) = front-moved h k g in
            rw (u, v)
            (rw (lt-ltb (a + 1 * s) (half w) (omega (arith, p.some)), lt-ltb a (half w) h, le-leb (first_high w) b k, one_on (a + 1 * s) refl, one_less ((half w - a) / s) (suc n + 1) (n + 1) (omega arith)))

    pub back-through-gap : gap_back w a b s 0 ≡ false → (n : ℕ) → gap_back w (back w s a b p l 0).start (back w s a b p l 0).end s n ≡ gap_back w a b s (suc n)
    unfolding gap_back
    back-through-gap g n =
        by_end p
        (λ k. back-low w s (back w s a b p l 0).start (back w s a b p l 0).end n (omega (arith, back_end w s a b p l 0, p.halves)) ∙ sym (back-low w s a b (suc n) (omega (arith, p.halves))))
        over
        (λ h k.
        back-high w s (back w s a b p l 0).start (back w s a b p l 0).end n (omega (arith, back_start w s a b p l 0, p.halves))
        ∙ sym (back-high w s a b (suc n) (omega (arith, p.halves))))
      where
        over : a < half w → first_high w ≤ b → gap_back w (back w s a b p l 0).start (back w s a b p l 0).end s n ≡ gap_back w a b s (suc n)
        over h k =
            let (f, j) = back-crossing k h g in
            let t = one-fits k f in
            let (u, v) = back-moved h k g in
            rw (u, v) (rw (le-leb (first_high w) (b - 1 * s) (omega arith), lt-ltb a (half w) h, le-leb (first_high w) b k, one-back, one_less ((b - first_high w) / s) (suc n) n (omega arith)))

    -- both ends are still in a half
    pub front-through-half : gap_front w a b s 0 ≡ false
        → (half w ≤ (front w s a b p l 0).start → first_high w ≤ (front w s a b p l 0).start) × (half w ≤ (front w s a b p l 0).end → first_high w ≤ (front w s a b p l 0).end)
    front-through-half g =
        by_start p
        (λ h k. let e = top-low w a b s h k in ((λ u. absurd (omega (arith, front-start-top w s a b p l 0, p.some, p.room))), (λ u. absurd (omega (arith, front-end-top w s a b p l 0, p.some, p.room)))))
        (λ h k.
        let (f, j) = front-crossing h k g in
        let (x, y) = front-moved h k g in
        ((λ u. absurd (omega (arith, two-fit f, p.some))), (λ u. omega arith)))
        (λ h.
        let e = top-high w a b s (omega (arith, p.halves)) in
        ((λ u. omega (arith, front-start w s a b p l 0)), (λ u. by_cases (ℕ_discrete (front w s a b p l 0).end b) (λ q. rw q (p.high_end (omega arith))) (λ m. omega (arith, front-end w s a b p l 0 m, p.two, p.halves)))))

    pub back-through-half : gap_back w a b s 0 ≡ false
        → (half w ≤ (back w s a b p l 0).start → first_high w ≤ (back w s a b p l 0).start) × (half w ≤ (back w s a b p l 0).end → first_high w ≤ (back w s a b p l 0).end)
    back-through-half g =
        by_end p (λ k. (start-half k, (λ u. absurd (omega (arith, back_end w s a b p l 0)))))
        (λ h k.
        let (f, j) = back-crossing k h g in
        let (x, y) = back-moved h k g in
        ((λ u. absurd (omega arith)), (λ u. omega (arith, one-fits k f))))
        (λ h k. ((λ u. omega (arith, back_start w s a b p l 0)), (λ u. omega (arith, back-end-bottom w s a b p l 0, bottom-high w a b h k))))
      where
        -- a low end: the start is raised from one that is not above it
        start-half : b < half w → half w ≤ (back w s a b p l 0).start → first_high w ≤ (back w s a b p l 0).start
        start-half k u = by_cases (dec_lt b (bottom_of w a b + min 1 (len_through a b s) * s)) raised (λ m. kept (omega arith))
          where
            small : min 1 (len_through a b s) * s ≤ s
            small = omega (arith, mul-le-mul_right {m = min 1 (len_through a b s)} {n = 1} s (omega arith))

            raised : b < bottom_of w a b + min 1 (len_through a b s) * s → first_high w ≤ (back w s a b p l 0).start
            raised m =
                let o = bottom-zero w a b (omega (arith, p.halves)) in
                let n : a ≤ b = by_cases (dec_lt b a) (λ i. absurd (omega (arith, rw (through-none a b s i) at m, zero-mul s))) (λ i. omega arith) in
                let x : (back w s a b p l 0).start ≡ a + s = rw (lt-ltb b (bottom_of w a b + min 1 (len_through a b s) * s) m) in
                absurd (omega (arith, small, p.two))

            kept : bottom_of w a b + min 1 (len_through a b s) * s ≤ b → first_high w ≤ (back w s a b p l 0).start
            kept m =
                let x : (back w s a b p l 0).start ≡ a = rw (le-ltb b (bottom_of w a b + min 1 (len_through a b s) * s) m) in
                rw x (p.high-start (omega arith))

-- what a draw leaves of a range in one half is in that half
module _ (w s a b : ℕ) (p : PageEnds w s a b) (l : List ℕ) (n : ℕ) where
  taken-fits : a + taken (len_below a b s) n * s ≤ max a b
  taken-fits = front-below-start l a b s n

  pub front-below-in-half : InOneHalf w a b → InOneHalf w (front_below l a b s n).start (front_below l a b s n).end
  front-below-in-half (both_low h k) = both_low (omega (arith, taken-fits)) k
  front-below-in-half (both_high h k) = both_high (omega arith) k

  pub back-below-in-half : InOneHalf w a b → InOneHalf w (back_below l a b s n).start (back_below l a b s n).end
  back-below-in-half (both_low h k) = both_low h (omega arith)
  back-below-in-half (both_high h k) = both_high h (omega (arith, taken-fits))

  pub front-through-in-half : InOneHalf w a b → InOneHalf w (front w s a b p l n).start (front w s a b p l n).end
  front-through-in-half (both_low h k) =
      let e = top-low w a b s h k in
      both_low (omega (arith, front-start-top w s a b p l n, p.some, p.room)) (omega (arith, front-end-top w s a b p l n, p.some, p.room))
  front-through-in-half (both_high h k) =
      let e = top-high w a b s (omega (arith, p.halves)) in
      both_high (le_trans h (front-start w s a b p l n)) (by_cases (ℕ_discrete (front w s a b p l n).end b) (λ q. rw q k) (λ m. omega (arith, front-end w s a b p l n m, p.two, p.halves)))

  pub back-through-in-half : InOneHalf w a b → InOneHalf w (back w s a b p l n).start (back w s a b p l n).end
  back-through-in-half (both_low h k) =
      let e = bottom-zero w a b (omega (arith, p.halves)) in
      let u = back-through-start l a b s n (half w - s) (bottom_of w a b) (omega (arith, p.low-start h)) (omega (arith, p.low_end k)) (omega (arith, p.two)) (omega arith) (start-bottom w s a b p) in
      both_low (omega (arith, p.some, p.room)) (omega (arith, back_end w s a b p l n))
  back-through-in-half (both_high h k) = let e = bottom-high w a b h k in both_high (le_trans h (back_start w s a b p l n)) (omega (arith, back-end-bottom w s a b p l n))
