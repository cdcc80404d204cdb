-- The topmost and the lowest page of an inclusive range: its ends never pass them.
use Prim.Native.Nat.{ℕ, ◌+◌, ◌-◌, ◌*◌, ◌/◌, ◌≤◌, ◌<◌}
use mathlib.Core.Path.{◌≡◌, sym, ap, ◌∙◌}
use native.Mathlib.Omega.{arith}
use native.Mathlib.Decide.{dec_lt}
use native.Mathlib.Nat.{div-eq_of_lt, zero-mul}
use borrow.Author.Tests.{lt-ltb, le-ltb, le-leb, lt-leb}
use Rattle.laws.specs.Width.{half, first_high}
use Rattle.laws.specs.Draw.{top_page, top_of, bottom_of}
use Rattle.laws.proofs.Cases.{by_cases, and-false}
use Rattle.laws.proofs.Gap.{PageEnds}

-- by the halves of the ends, told apart first by the start or first by the end
module _ {w s a b : ℕ} {C : Type 0} (p : PageEnds w s a b) where
  pub by_start : (a < half w → b < half w → C) → (a < half w → first_high w ≤ b → C) → (first_high w ≤ a → C) → C
  by_start low over high = by_cases (dec_lt a (half w)) (λ h. by_cases (dec_lt b (half w)) (low h) (λ k. over h (p.high_end (omega arith)))) (λ h. high (p.high-start (omega arith)))

  pub by_end : (b < half w → C) → (a < half w → first_high w ≤ b → C) → (first_high w ≤ a → first_high w ≤ b → C) → C
  by_end low over high =
      by_cases (dec_lt b (half w)) low
      (λ k. by_cases (dec_lt a (half w)) (λ h. over h (p.high_end (omega arith))) (λ h. high (p.high-start (omega arith)) (p.high_end (omega arith))))

-- the topmost page, by the halves of any two numbers
module _ (w a b s : ℕ) where
  pub top-low : a < half w → b < half w → top_of w a b s ≡ half w - s
  unfolding top_of
  top-low h k = rw (lt-ltb a (half w) h, lt-ltb b (half w) k)

  pub top-high : half w ≤ a → top_of w a b s ≡ top_page s
  unfolding top_of
  top-high h = rw (le-ltb a (half w) h)

  pub top-over : half w ≤ b → top_of w a b s ≡ top_page s
  unfolding top_of
  top-over k = rw (le-ltb b (half w) k, and-false)

-- and the lowest
module _ (w a b : ℕ) where
  pub bottom-high : first_high w ≤ a → first_high w ≤ b → bottom_of w a b ≡ first_high w
  unfolding bottom_of
  bottom-high h k = rw (le-leb (first_high w) a h, le-leb (first_high w) b k)

  pub bottom-over : a < first_high w → bottom_of w a b ≡ 0
  unfolding bottom_of
  bottom-over h = rw (lt-leb (first_high w) a h)

  pub bottom-zero : b < first_high w → bottom_of w a b ≡ 0
  unfolding bottom_of
  bottom-zero k = rw (lt-leb (first_high w) b k, and-false)

module _ (w s a b : ℕ) (p : PageEnds w s a b) where
  pub start-top : a ≤ top_of w a b s
  start-top = by_start p (λ h k. rw (top-low w a b s h k) (omega (arith, p.low-start h))) (λ h k. rw (top-over w a b s (omega (arith, p.halves))) (omega (arith, p.first))) (λ h. rw (top-high w a b s (omega (arith, p.halves))) (omega (arith, p.first)))

  pub end-top : b ≤ top_of w a b s
  end-top = by_start p (λ h k. rw (top-low w a b s h k) (omega (arith, p.low_end k))) (λ h k. rw (top-over w a b s (omega (arith, p.halves))) (omega (arith, p.last))) (λ h. rw (top-high w a b s (omega (arith, p.halves))) (omega (arith, p.last)))

  -- two pages fit up to it
  pub size-top : s ≤ top_of w a b s
  size-top = by_start p (λ h k. rw (top-low w a b s h k) (omega (arith, p.two))) (λ h k. rw (top-over w a b s (omega (arith, p.halves))) (omega (arith, p.two, p.halves))) (λ h. rw (top-high w a b s (omega (arith, p.halves))) (omega (arith, p.two, p.halves)))

  pub top-within : top_of w a b s ≤ top_page s
  top-within = by_start p (λ h k. rw (top-low w a b s h k) (omega (arith, p.halves))) (λ h k. rw (top-over w a b s (omega (arith, p.halves))) (omega arith)) (λ h. rw (top-high w a b s (omega (arith, p.halves))) (omega arith))

  pub bottom-start : bottom_of w a b ≤ a
  bottom-start = by_end p (λ k. rw (bottom-zero w a b (omega (arith, p.halves))) (omega arith)) (λ h k. rw (bottom-over w a b (omega (arith, p.halves))) (omega arith)) (λ h k. rw (bottom-high w a b h k) h)

  pub bottom-end : bottom_of w a b ≤ b
  bottom-end = by_end p (λ k. rw (bottom-zero w a b (omega (arith, p.halves))) (omega arith)) (λ h k. rw (bottom-over w a b (omega (arith, p.halves))) (omega arith)) (λ h k. rw (bottom-high w a b h k) k)

  pub bottom-room : bottom_of w a b + s ≤ top_page s
  bottom-room = by_end p (λ k. rw (bottom-zero w a b (omega (arith, p.halves))) (omega (arith, p.two, p.halves))) (λ h k. rw (bottom-over w a b (omega (arith, p.halves))) (omega (arith, p.two, p.halves))) (λ h k. rw (bottom-high w a b h k) (omega (arith, p.two, p.halves)))

  -- a start less than one page above it is on it
  pub start-bottom : a < bottom_of w a b + s → a ≡ bottom_of w a b
  start-bottom h =
      by_end p (λ k. zero (bottom-zero w a b (omega (arith, p.halves)))) (λ l k. zero (bottom-over w a b (omega (arith, p.halves))))
      (λ l k. let e = bottom-high w a b l k in omega (arith, none_of (a - first_high w) p.from-gap (omega arith)))
    where
      none_of : (x : ℕ) → x / s * s ≡ x → x < s → x ≡ 0
      none_of x e l = sym e ∙ ap (λ (y : ℕ). y * s) (div-eq_of_lt l) ∙ zero-mul s

      zero : bottom_of w a b ≡ 0 → a ≡ bottom_of w a b
      zero e = omega (arith, none_of a p.whole (omega arith))
