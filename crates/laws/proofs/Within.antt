-- Draws of inclusive ranges of pages as drawn up to the topmost page and down to 0: what they leave of a range in one half is put right where the last low page or the first high one
-- is drawn. There is room for a page in the gap.
use Prim.Native.Nat.{ℕ, ◌+◌, ◌-◌, ◌*◌, ◌/◌, ◌≤◌, ◌<◌}
use mathlib.Core.Path.{◌≡◌, sym, ap, ◌∙◌}
use mathlib.Core.Bool.{true, false, ◌&&◌, cond}
use mathlib.Core.List.{List, reverse}
use native.Mathlib.Omega.{arith}
use native.Mathlib.Decide.{ℕ_discrete, dec_lt}
use native.Mathlib.Nat.{zero-mul, one-mul, mul-le-mul_right, lt_of_mul-lt-mul_right}
use borrow.Author.Tests.{lt-ltb, le-ltb, le-leb, lt-leb, leb-false, eq-eqb, ne_eqb}
use lib.Dec.{ltb, leb, eqb}
use lib.ListN.{get_elem?}
use Rattle.laws.specs.Width.{half, first_high}
use Rattle.laws.specs.Run.{len_through}
use Rattle.laws.specs.Draw.{Draw, taken, front_through, back_through, top_page, top_of, bottom_of, gap_front, gap_back}
use Rattle.laws.proofs.Cases.{by_cases, and-false}
use Rattle.laws.proofs.Run.{steps-fit}
use Rattle.laws.proofs.Gap.{PageEnds, not-gap}
use Rattle.laws.proofs.Halves.{by_start, by_end, top-low, top-high, top-over, bottom-high, bottom-over, bottom-zero}
use Rattle.laws.proofs.PagesLeft.{next-within}
use Rattle.laws.proofs.Kept.{through-one}

-- a draw that goes up to the topmost page, or down to address 0: where it would leave the start or the end in the gap, the last page of its half is drawn, and start and end are set by
-- that page. What the code makes of a draw on numbers; its private contracts cite it.
abbrev pub within_low_half : ℕ → ℕ → Draw → Draw
within_low_half w s d = cond (eqb d.start (half w)) (record { item = d.item; start = half w - s; end = half w - s - s }) d

abbrev pub within_high_half : ℕ → ℕ → Draw → Draw
within_high_half w s d = cond (eqb d.end (first_high w - s)) (record { item = d.item; start = first_high w + s; end = first_high w }) d

module _ (w s a b : ℕ) (p : PageEnds w s a b) (wide : half w + s ≤ first_high w) (l : List ℕ) where
  module _ (n : ℕ) where
    abbrev count : ℕ
    count = taken (len_through a b s) n

    -- a start that is left in the low half, is on a page of it
    before-gap : a < half w → a + count * s < half w → a + count * s + s ≤ half w
    before-gap h k = omega (arith, steps-fit count ((half w - a) / s) s (lt_of_mul-lt-mul_right s (omega (arith, p.to-gap))), p.to-gap)

    -- and of a range over the gap it is
    over-front : a < half w → first_high w ≤ b → gap_front w a b s n ≡ false → a + count * s < half w
    unfolding gap_front
    over-front h k g =
        let d = (half w - a) / s in
        let f : n + 1 < d = leb-false d (n + 1) (not-gap w s a b p (ltb a (half w)) (leb (first_high w) b) (leb d (n + 1)) g (lt-ltb a (half w) h) (le-leb (first_high w) b k)) in
        omega (arith, steps-fit count d s (omega arith), p.to-gap, p.some)

    -- the start, where it is no lower than the range's
    start-high : first_high w ≤ a → (front_through l (top_page s) a b s n).start ≡ half w → ⊥
    start-high h e =
        by_cases (dec_lt (top_page s) (a + count * s)) (λ k. let u : top_page s ≡ half w = rw (lt-ltb (top_page s) (a + count * s) k) at e in omega (arith, p.first, p.some))
        (λ k. let u : a + count * s ≡ half w = rw (le-ltb (top_page s) (a + count * s) (omega arith)) at e in omega (arith, p.some))

    start-below : a + count * s ≤ half w → (front_through l (top_page s) a b s n).start ≡ a + count * s
    start-below h = rw (le-ltb (top_page s) (a + count * s) (omega (arith, p.two, p.halves)))

    front-past : gap_front w a b s n ≡ false → (front_through l (top_page s) a b s n).start ≡ half w
        → record { item = get_elem? l n; start = half w - s; end = half w - s - s } ≡ front_through l (top_of w a b s) a b s n
    front-past g e =
        by_start p low (λ h k. let u = over-front h k g in absurd (omega (arith, sym (start-below (omega arith)) ∙ e))) (λ h. absurd (start-high h e))
      where
        low : a < half w → b < half w → record { item = get_elem? l n; start = half w - s; end = half w - s - s } ≡ front_through l (top_of w a b s) a b s n
        low h k =
            let u : a + count * s ≤ half w = omega (arith, next-within w s a b p l n, p.low_end k) in
            let v : a + count * s ≡ half w = sym (start-below u) ∙ e in
            rw (top-low w a b s h k, lt-ltb (half w - s) (a + count * s) (omega (arith, p.some, p.room)))

    front-inside : gap_front w a b s n ≡ false → ((front_through l (top_page s) a b s n).start ≡ half w → ⊥) → front_through l (top_page s) a b s n ≡ front_through l (top_of w a b s) a b s n
    front-inside g e = by_start p low (λ h k. rw (top-over w a b s (omega (arith, p.halves)))) (λ h. rw (top-high w a b s (omega (arith, p.halves))))
      where
        low : a < half w → b < half w → front_through l (top_page s) a b s n ≡ front_through l (top_of w a b s) a b s n
        low h k =
            let u : a + count * s ≤ half w = omega (arith, next-within w s a b p l n, p.low_end k) in
            let v : a + count * s ≡ half w → ⊥ = λ q. e (start-below u ∙ q) in
            let t = before-gap h (omega arith) in
            rw (top-low w a b s h k, le-ltb (half w - s) (a + count * s) (omega arith), le-ltb (top_page s) (a + count * s) (omega (arith, p.two, p.halves)))

    -- so a draw up to the topmost page, set by the last low one, is that up to the range's own
    pub low-half-kept : gap_front w a b s n ≡ false → within_low_half w s (front_through l (top_page s) a b s n) ≡ front_through l (top_of w a b s) a b s n
    low-half-kept g =
        let start = (front_through l (top_page s) a b s n).start in
        by_cases (ℕ_discrete start (half w)) (λ q. rw (eq-eqb start (half w) q) (front-past g q)) (λ q. rw (ne_eqb start (half w) q) (front-inside g q))

    -- an end that is left in the high half, is on a page of it
    after-gap : first_high w ≤ b → first_high w < b - count * s + s → count * s ≤ b → first_high w + count * s ≤ b
    after-gap k h f = omega (arith, p.above, mul-le-mul_right {m = count} {n = (b - first_high w) / s} s fewer)
      where
        fewer : count ≤ (b - first_high w) / s
        fewer =
            let c = (b - first_high w) / s in
            by_cases (dec_lt c count) (λ m. absurd (omega (arith, steps-fit c count s m, p.above))) (λ m. omega arith)

    -- and of a range over the gap it is
    over-back : a < half w → first_high w ≤ b → gap_back w a b s n ≡ false → first_high w + count * s ≤ b
    unfolding gap_back
    over-back h k g =
        let c = (b - first_high w) / s in
        let f : n < c = leb-false c n (not-gap w s a b p (leb (first_high w) b) (ltb a (half w)) (leb c n) g (le-leb (first_high w) b k) (lt-ltb a (half w) h)) in
        omega (arith, mul-le-mul_right {m = count} {n = c} s (omega arith), p.above)

    -- a range in the high half
    high-taken : first_high w ≤ a → count * s ≤ b
    high-taken h = omega (arith, next-within w s a b p l n, p.room, p.halves)

    end-above : count * s ≤ b → (back_through l 0 a b s n).end ≡ b - count * s
    end-above h = rw (le-ltb b (0 + count * s) (omega arith))

    end-low : b < half w → (back_through l 0 a b s n).end ≡ first_high w - s → ⊥
    end-low k e = by_cases (dec_lt b (0 + count * s)) (λ h. let u : 0 ≡ first_high w - s = rw (lt-ltb b (0 + count * s) h) at e in omega (arith, p.some, p.room)) (λ h. let u : b - count * s ≡ first_high w - s = rw (le-ltb b (0 + count * s) (omega arith)) at e in omega arith)

    back-past : gap_back w a b s n ≡ false → (back_through l 0 a b s n).end ≡ first_high w - s
        → record { item = get_elem? (reverse l) n; start = first_high w + s; end = first_high w } ≡ back_through l (bottom_of w a b) a b s n
    back-past g e = by_end p (λ k. absurd (end-low k e)) (λ h k. let u = over-back h k g in absurd (omega (arith, sym (end-above (omega arith)) ∙ e, p.some, p.room, p.halves))) high
      where
        high : first_high w ≤ a → first_high w ≤ b → record { item = get_elem? (reverse l) n; start = first_high w + s; end = first_high w } ≡ back_through l (bottom_of w a b) a b s n
        high h k =
            let u : b - count * s ≡ first_high w - s = sym (end-above (high-taken h)) ∙ e in
            let v : a ≡ first_high w = omega (arith, next-within w s a b p l n, high-taken h, p.some, p.room, p.halves) in
            rw (bottom-high w a b h k, lt-ltb b (first_high w + count * s) (omega (arith, p.some, p.room, p.halves)), v)

    back-inside : gap_back w a b s n ≡ false → ((back_through l 0 a b s n).end ≡ first_high w - s → ⊥) → back_through l 0 a b s n ≡ back_through l (bottom_of w a b) a b s n
    back-inside g e = by_end p (λ k. rw (bottom-zero w a b (omega (arith, p.halves)))) (λ h k. rw (bottom-over w a b (omega (arith, p.halves)))) high
      where
        high : first_high w ≤ a → first_high w ≤ b → back_through l 0 a b s n ≡ back_through l (bottom_of w a b) a b s n
        high h k =
            let f = high-taken h in
            let u : b - count * s ≡ first_high w - s → ⊥ = λ q. e (end-above f ∙ q) in
            let v : first_high w - s ≤ b - count * s = omega (arith, next-within w s a b p l n) in
            let t = after-gap k (omega (arith, p.some, p.room, p.halves)) f in
            rw (bottom-high w a b h k, le-ltb b (first_high w + count * s) t, le-ltb b (0 + count * s) (omega arith))

    -- and the same from the back
    pub high-half-kept : gap_back w a b s n ≡ false → within_high_half w s (back_through l 0 a b s n) ≡ back_through l (bottom_of w a b) a b s n
    high-half-kept g =
        let end = (back_through l 0 a b s n).end in
        by_cases (ℕ_discrete end (first_high w - s)) (λ q. rw (eq-eqb end (first_high w - s) q) (back-past g q)) (λ q. rw (ne_eqb end (first_high w - s) q) (back-inside g q))

  -- with n = 0, a draw meets the gap exactly where the start left would be the first number past the low half, or the end left the number one page below the high half, and the
  -- other end is in the other half
  pub next-through-gap : (eqb (front_through l (top_page s) a b s 0).start (half w) && leb (first_high w) b) ≡ gap_front w a b s 0
  unfolding gap_front
  next-through-gap =
      by_start p (λ h k. rw (lt-leb (first_high w) b (omega (arith, p.halves)), and-false, and-false)) over
      (λ h. rw (ne_eqb (front_through l (top_page s) a b s 0).start (half w) (start-high 0 h), le-ltb a (half w) (omega (arith, p.halves))))
    where
      over : a < half w → first_high w ≤ b → (eqb (front_through l (top_page s) a b s 0).start (half w) && leb (first_high w) b) ≡ (ltb a (half w) && (leb (first_high w) b && leb ((half w - a) / s) 1))
      over h k =
          let d = (half w - a) / s in
          let e : (front_through l (top_page s) a b s 0).start ≡ a + 1 * s = start-below 0 (rw (through-one w s a b p h k) (omega (arith, p.low-start h, one-mul s))) ∙ ap (λ (x : ℕ). a + x * s) (through-one w s a b p h k) in
          rw (e, lt-ltb a (half w) h, le-leb (first_high w) b k) (last-low (dec_lt d 2))
        where
          last-low : Dec ((half w - a) / s < 2) → (eqb (a + 1 * s) (half w) && true) ≡ leb ((half w - a) / s) 1
          last-low (yes m) =
              let i : a + 1 * s ≡ half w = omega (arith, p.to-gap, p.low-start h, mul-le-mul_right {m = (half w - a) / s} {n = 1} s (omega arith), one-mul s) in
              rw (eq-eqb (a + 1 * s) (half w) i, le-leb ((half w - a) / s) 1 (omega arith))
          last-low (no m) =
              let i : a + 1 * s ≡ half w → ⊥ = λ q. omega (arith, p.to-gap, steps-fit 1 ((half w - a) / s) s (omega arith), p.some) in
              rw (ne_eqb (a + 1 * s) (half w) i, lt-leb ((half w - a) / s) 1 (omega arith))

  pub next-back-through-gap : (eqb (back_through l 0 a b s 0).end (first_high w - s) && ltb a (half w)) ≡ gap_back w a b s 0
  unfolding gap_back
  next-back-through-gap =
      by_end p (λ k. rw (ne_eqb (back_through l 0 a b s 0).end (first_high w - s) (end-low 0 k), lt-leb (first_high w) b (omega (arith, p.halves)))) over
      (λ h k. rw (le-ltb a (half w) (omega (arith, p.halves)), and-false, and-false))
    where
      over : a < half w → first_high w ≤ b → (eqb (back_through l 0 a b s 0).end (first_high w - s) && ltb a (half w)) ≡ (leb (first_high w) b && (ltb a (half w) && leb ((b - first_high w) / s) 0))
      over h k =
          let e : (back_through l 0 a b s 0).end ≡ b - 1 * s = end-above 0 (rw (through-one w s a b p h k) (omega (arith, p.room, p.halves, one-mul s))) ∙ ap (λ (x : ℕ). b - x * s) (through-one w s a b p h k) in
          rw (e, lt-ltb a (half w) h, le-leb (first_high w) b k) (first-high (dec_lt 0 ((b - first_high w) / s)))
        where
          first-high : Dec (0 < (b - first_high w) / s) → (eqb (b - 1 * s) (first_high w - s) && true) ≡ leb ((b - first_high w) / s) 0
          first-high (yes m) =
              let i : b - 1 * s ≡ first_high w - s → ⊥ = λ q. omega (arith, p.above, steps-fit 0 ((b - first_high w) / s) s m, p.some, p.room, p.halves, one-mul s, zero-mul s) in
              rw (ne_eqb (b - 1 * s) (first_high w - s) i, lt-leb ((b - first_high w) / s) 0 m)
          first-high (no m) =
              let i : b - 1 * s ≡ first_high w - s = omega (arith, p.above, mul-le-mul_right {m = (b - first_high w) / s} {n = 0} s (omega arith), one-mul s, zero-mul s) in
              rw (eq-eqb (b - 1 * s) (first_high w - s) i, le-leb ((b - first_high w) / s) 0 (omega arith))
