-- Draws to the last page of the low half and to the first of the high one give and leave what they should, over the width.
use Prim.Native.Nat.{ℕ, ◌+◌, ◌-◌, ◌*◌, ◌/◌, ◌≤◌}
use mathlib.Core.Path.{◌≡◌}
use mathlib.Core.Bool.{false}
use mathlib.Core.List.{reverse}
use mathlib.Core.Option.{some}
use native.Mathlib.Omega.{arith}
use native.Mathlib.Nat.{zero-mul, add-zero}
use borrow.Author.Tests.{lt-ltb, le-ltb}
use lib.ListN.{get_elem?}
use Rattle.laws.specs.Run.{len_through, through}
use Rattle.laws.specs.Draw.{gap_front, gap_back}
use Rattle.laws.proofs.Run.{run_at, back_at}
use Rattle.laws.proofs.Gap.{PageEnds}
use Rattle.laws.proofs.Length as lengths
use Rattle.laws.proofs.Kept.{front-low, back-high}
use Rattle.laws.proofs.Halves.{top-low, bottom-high}
use Rattle.laws.proofs.PagesLeft.{front-at-top, back-at-bottom}
use Rattle.range.specs.declared.range_inclusive.RangeInclusive.{RangeInclusive}
use Rattle.laws.specs.Width.{PageWidth}
use Rattle.page.specs.Page.{start, bytes}
use Rattle.page.specs.Range.{len_inclusive}
use Rattle.page.specs.Half.{EndsLowHalf, StartsHighHalf, DrawnToHalfEnd}
use Rattle.page.specs.declared.page.Page.{Page}
use Rattle.page.proofs.Ranges.{accepted, numbers_inclusive_in, nth-inclusive-settled, nth-back-inclusive-settled}

-- the last item of an inclusive range whose ends are whole sizes apart, and the last from the back
module _ (a b s n : ℕ) (k : len_through a b s ≡ n + 1) where
  last-item : a ≤ b → (b - a) / s * s ≡ b - a → get_elem? (through a b s) n ≡ some b
  unfolding len_through
  last-item h e =
      let q : (b - a) / s + 1 ≡ n + 1 = rw (le-ltb b a h) at k in
      let m : (b - a) / s ≡ n = omega arith in
      let t : n * s ≡ b - a = rw m at e in
      let u : a + n * s ≡ b = omega arith in
      rw (k, run_at, lt-ltb n (n + 1) (omega arith), u)

  first-item : get_elem? (reverse (through a b s)) n ≡ some a
  first-item =
      let m : n + 1 - 1 - n ≡ 0 = omega arith in
      rw (k, back_at, lt-ltb n (n + 1) (omega arith), m, zero-mul s, add-zero)

module _ (v : PageWidth) (r : RangeInclusive Page) (n : ℕ) where
  abbrev w : ℕ
  w = v.bits

  abbrev a : ℕ
  a = start r.start

  abbrev b : ℕ
  b = start r.end

  abbrev z : ℕ
  z = bytes r.start

  ends : EndsLowHalf w r → PageEnds w z a b
  ends h = (accepted v r.start r.end h.given).ends

  -- its length counts no gap
  low-length : EndsLowHalf w r → len_inclusive w r ≡ len_through a b z
  low-length h =
      let x = accepted v r.start r.end h.given in
      let l = h.last in
      lengths.through-apart w z a b v.width x.first-address x.last-address x.ends (λ o. omega (arith, o.end_high, x.ends.some, x.ends.halves))

  no-front-gap : EndsLowHalf w r → gap_front w a b z n ≡ false
  no-front-gap h = let p = ends h in let l = h.last in front-low w z a b n (omega (arith, p.some, p.halves))

  high-ends : StartsHighHalf w r → PageEnds w z a b
  high-ends h = (accepted v r.start r.end h.given).ends

  high-length : StartsHighHalf w r → len_inclusive w r ≡ len_through a b z
  high-length h =
      let x = accepted v r.start r.end h.given in
      let l = h.first in
      lengths.through-apart w z a b v.width x.first-address x.last-address x.ends (λ o. omega (arith, o.start_low, x.ends.halves))

  no-back-gap : StartsHighHalf w r → gap_back w a b z n ≡ false
  no-back-gap h = let p = high-ends h in let l = h.first in back-high w z a b n (omega (arith, p.halves))

pub drawn-to-half-end : (v : PageWidth) → DrawnToHalfEnd v.bits
drawn-to-half-end v =
    record {
      front = λ r n h k.
          rw (← nth-inclusive-settled v r n h.given (no-front-gap v r n h), last-item (start r.start) (start r.end) (bytes r.start) n (rw (low-length v r n h) at k) h.not_empty (ends v r n h).apart);
      front-left = λ r n h k.
          let p = ends v r n h in
          let l = h.last in
          let t = top-low v.bits (start r.start) (start r.end) (bytes r.start) (omega (arith, p.some, h.not_empty)) (omega (arith, p.some)) in
          let (x, y) = front-at-top v.bits (bytes r.start) (start r.start) (start r.end) p (numbers_inclusive_in r.start r.end) n h.not_empty (omega arith) (rw (low-length v r n h) at k) in
          rw (← nth-inclusive-settled v r n h.given (no-front-gap v r n h)) (rw (x, y));
      back = λ r n h k. rw (← nth-back-inclusive-settled v r n h.given (no-back-gap v r n h), first-item (start r.start) (start r.end) (bytes r.start) n (rw (high-length v r n h) at k));
      back-left = λ r n h k.
          let p = high-ends v r n h in
          let l = h.first in
          let t = bottom-high v.bits (start r.start) (start r.end) (omega arith) (omega (arith, h.not_empty)) in
          let (x, y) = back-at-bottom v.bits (bytes r.start) (start r.start) (start r.end) p (numbers_inclusive_in r.start r.end) n h.not_empty (omega arith) (rw (high-length v r n h) at k) in
          rw (← nth-back-inclusive-settled v r n h.given (no-back-gap v r n h)) (rw (x, y));
    }
