-- Draws of inclusive ranges are those of document 01 alone, but for what it refuses 10 of a range in one half.
use Prim.Native.Nat.{ℕ, ◌+◌, ◌-◌, ◌*◌, ◌/◌, ◌≤◌, ◌<◌}
use mathlib.Core.Path.{◌≡◌, sym, ◌∙◌}
use mathlib.Core.Bool.{false}
use mathlib.Core.List.{List}
use native.Mathlib.Omega.{arith}
use native.Mathlib.Decide.{dec_lt}
use native.Mathlib.Nat.{zero-add, mul-le-mul_right, lt_of_mul-lt-mul_right}
use borrow.Author.Tests.{lt-ltb, le-ltb, le-leb, lt-leb, leb-false}
use lib.Dec.{ltb, leb}
use Rattle.laws.specs.Width.{half, first_high, InOneHalf, both_low, both_high}
use Rattle.laws.specs.Run.{len_through}
use Rattle.laws.specs.Draw.{taken, front_through, back_through, top_page, top_of, bottom_of, gap_front, gap_back}
use Rattle.laws.specs.Before as before
use Rattle.laws.proofs.Cases.{by_cases}
use Rattle.laws.proofs.Run.{steps-fit}
use Rattle.laws.proofs.Gap.{PageEnds, not-gap}
use Rattle.laws.proofs.Halves.{by_start, by_end, top-low, top-high, top-over, bottom-high, bottom-over, bottom-zero, start-bottom}
use Rattle.laws.proofs.PagesLeft.{next-within}
use Rattle.laws.proofs.Kept.{front-low, back-high}

-- the lowest item at 0
pub back-from-zero : (l : List ℕ) (a b s n : ℕ) → back_through l 0 a b s n ≡ before.back_through l a b s n
back-from-zero l a b s n = rw (zero-add (taken (len_through a b s) n * s))

module _ (w s a b : ℕ) (p : PageEnds w s a b) (l : List ℕ) (n : ℕ) where
  abbrev drawn : ℕ
  drawn = taken (len_through a b s) n * s

  -- in the low half: a draw that was not refused leaves the start at or below the last page
  low-within : a < half w → b < half w → before.gap_front_through w a b s n ≡ false → a + drawn + s ≤ half w
  unfolding before.gap_front_through
  low-within h k g = omega (arith, steps-fit (taken (len_through a b s) n) ((half w - a) / s) s fewer, p.to-gap)
    where
      fewer : taken (len_through a b s) n < (half w - a) / s
      fewer =
          by_cases (dec_lt b (half w - s))
          (λ m. lt_of_mul-lt-mul_right s (omega (arith, next-within w s a b p l n, p.to-gap)))
          (λ m.
          let d = (half w - a) / s in
          let f : n + 1 < d = leb-false d (n + 1) (not-gap w s a b p (ltb a (half w)) (leb (half w - s) b) (leb d (n + 1)) g (lt-ltb a (half w) h) (le-leb (half w - s) b (omega arith))) in
          omega arith)

  pub front-as-before : (InOneHalf w a b → before.gap_front_through w a b s n ≡ false)
      → (gap_front w a b s n ≡ before.gap_front_through w a b s n) × (front_through l (top_of w a b s) a b s n ≡ front_through l (top_page s) a b s n)
  unfolding gap_front before.gap_front_through
  front-as-before f =
      by_start p low
      (λ h k. (rw (le-leb (first_high w) b k, le-leb (half w - s) b (omega (arith, p.halves))), rw (top-over w a b s (omega (arith, p.halves)))))
      (λ h. (rw (le-ltb a (half w) (omega (arith, p.halves))), rw (top-high w a b s (omega (arith, p.halves)))))
    where
      low : a < half w → b < half w → (gap_front w a b s n ≡ before.gap_front_through w a b s n) × (front_through l (top_of w a b s) a b s n ≡ front_through l (top_page s) a b s n)
      low h k =
          let g = f (both_low h k) in
          let i = low-within h k g in (
            front-low w s a b n (omega (arith, p.halves)) ∙ sym g,
            rw (top-low w a b s h k, le-ltb (half w - s) (a + drawn) (omega arith), le-ltb (top_page s) (a + drawn) (omega (arith, p.halves))),
          )

  -- in the high half: one that was not refused leaves the end at or above the first page
  high-within : first_high w ≤ a → first_high w ≤ b → before.gap_back_through w a b s n ≡ false → first_high w + drawn ≤ b
  unfolding before.gap_back_through
  high-within h k g =
      by_cases (dec_lt (first_high w) a) (λ m. omega (arith, next-within w s a b p l n, above m))
      (λ m.
      let c = (b - first_high w) / s in
      let f : n < c = leb-false c n (not-gap w s a b p (leb (first_high w) b) (leb a (first_high w)) (leb c n) g (le-leb (first_high w) b k) (le-leb a (first_high w) (omega arith))) in
      omega (arith, mul-le-mul_right {m = taken (len_through a b s) n} {n = c} s (omega arith), p.above))
    where
      above : first_high w < a → first_high w + s ≤ a
      above m = by_cases (dec_lt a (first_high w + s)) (λ i. let e = bottom-high w a b h k in absurd (omega (arith, start-bottom w s a b p (omega arith)))) (λ i. omega arith)

  pub back-as-before : (InOneHalf w a b → before.gap_back_through w a b s n ≡ false)
      → (gap_back w a b s n ≡ before.gap_back_through w a b s n) × (back_through l (bottom_of w a b) a b s n ≡ before.back_through l a b s n)
  unfolding gap_back before.gap_back_through
  back-as-before f =
      by_end p
      (λ k. (rw (lt-leb (first_high w) b (omega (arith, p.halves))), rw (bottom-zero w a b (omega (arith, p.halves))) (back-from-zero l a b s n)))
      (λ h k. (rw (lt-ltb a (half w) h, le-leb a (first_high w) (omega (arith, p.halves))), rw (bottom-over w a b (omega (arith, p.halves))) (back-from-zero l a b s n)))
      high
    where
      high : first_high w ≤ a → first_high w ≤ b → (gap_back w a b s n ≡ before.gap_back_through w a b s n) × (back_through l (bottom_of w a b) a b s n ≡ before.back_through l a b s n)
      high h k =
          let g = f (both_high h k) in
          let i = high-within h k g in (
            back-high w s a b n (omega (arith, p.halves)) ∙ sym g,
            rw (bottom-high w a b h k, le-ltb b (first_high w + drawn) i, le-ltb b drawn (omega arith)),
          )
