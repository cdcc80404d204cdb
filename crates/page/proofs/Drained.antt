-- A range in one half is drained, over the width: no draw of it is refused, and each of its pages comes once.
use Prim.Native.Nat.{ℕ}
use mathlib.Core.Path.{◌≡◌}
use mathlib.Core.Bool.{false}
use mathlib.Core.List.{[]}
use mathlib.Core.Option.{some}
use native.Mathlib.Omega.{arith}
use Rattle.laws.specs.Width.{InOneHalf, both_low, both_high, PageWidth}
use Rattle.laws.specs.Draw as draw
use Rattle.laws.specs.Drawing.{Side, front, back, Drawn, Drained}
use Rattle.laws.proofs.Gap.{PageEnds}
use Rattle.laws.proofs.Kept as kept
use Rattle.laws.proofs.Drained.{drained}
use Rattle.range.specs.declared.range.Range.{Range}
use Rattle.range.specs.declared.range_inclusive.RangeInclusive.{RangeInclusive}
use Rattle.page.specs.Page.{start, bytes, page_at}
use Rattle.page.specs.Range.{refusal, pages_of, pages_inclusive_of, IsInOneHalf, IsInOneHalfInclusive, nth_from, nth_inclusive_from}
use Rattle.page.specs.declared.page.Page.{Page}
use Rattle.page.proofs.Ranges as ranges
use Rattle.page.proofs.Drawn.{Pages, accepted-left, front-pages, back-pages, front-inclusive-pages, back-inclusive-pages, given-range, given-inclusive, out, out_inclusive, pages-one-by-one, pages-inclusive-one-by-one, pages-once, pages-inclusive-once}

-- of a range in one half no draw meets the gap, and what is left is again a range in one half
module _ (v : PageWidth) (x y : Page) (e : refusal v.bits x y ≡ 0) where
  abbrev w : ℕ
  w = v.bits

  ends : PageEnds w (bytes x) (start x) (start y)
  ends = (ranges.accepted v x y e).ends

  front-free : InOneHalf w (start x) (start y) → draw.gap_front w (start x) (start y) (bytes x) 0 ≡ false
  front-free (both_low h k) = kept.front-low w (bytes x) (start x) (start y) 0 (omega (arith, ends.halves))
  front-free (both_high h k) = kept.front-high w (bytes x) (start x) (start y) 0 (omega (arith, ends.halves))

  back-free : InOneHalf w (start x) (start y) → draw.gap_back w (start x) (start y) (bytes x) 0 ≡ false
  back-free (both_low h k) = kept.back-low w (bytes x) (start x) (start y) 0 (omega (arith, ends.halves))
  back-free (both_high h k) = kept.back-high w (bytes x) (start x) (start y) 0 (omega (arith, ends.halves))

  again : (d : draw.Draw) → Pages w (bytes x) d → InOneHalf w d.start d.end → (refusal w (page_at x.size d.start) (page_at y.size d.end) ≡ 0) × InOneHalf w d.start d.end
  again d q i = (accepted-left v x y d e q, i)

module _ (v : PageWidth) where
  next : (side : Side) (r : Range Page) → IsInOneHalf v.bits r → (d : Drawn (Range Page)) × (nth_from v.bits side 0 r ≡ some d) × IsInOneHalf v.bits d.range
  next front r h =
      let (e, i) = h in
      let x = r.start in
      let y = r.end in
      let g = front-free v x y e i in
      (out front 0 r, (given-range v front).gives 0 r (e, g), again v x y e _ (front-pages v x y e g) (kept.front-below-in-half v.bits (bytes x) (start x) (start y) (ends v x y e) [] 0 i))
  next back r h =
      let (e, i) = h in
      let x = r.start in
      let y = r.end in
      let g = back-free v x y e i in
      (out back 0 r, (given-range v back).gives 0 r (e, g), again v x y e _ (back-pages v x y e g) (kept.back-below-in-half v.bits (bytes x) (start x) (start y) (ends v x y e) [] 0 i))

  next-inclusive : (side : Side) (r : RangeInclusive Page) → IsInOneHalfInclusive v.bits r → (d : Drawn (RangeInclusive Page)) × (nth_inclusive_from v.bits side 0 r ≡ some d) × IsInOneHalfInclusive v.bits d.range
  next-inclusive front r h =
      let (e, i) = h in
      let x = r.start in
      let y = r.end in
      let g = front-free v x y e i in
      (out_inclusive v.bits front 0 r, (given-inclusive v front).gives 0 r (e, g), again v x y e _ (front-inclusive-pages v x y e g) (kept.front-through-in-half v.bits (bytes x) (start x) (start y) (ends v x y e) [] 0 i))
  next-inclusive back r h =
      let (e, i) = h in
      let x = r.start in
      let y = r.end in
      let g = back-free v x y e i in
      (out_inclusive v.bits back 0 r, (given-inclusive v back).gives 0 r (e, g), again v x y e _ (back-inclusive-pages v x y e g) (kept.back-through-in-half v.bits (bytes x) (start x) (start y) (ends v x y e) [] 0 i))

  pub pages-drained : Drained (IsInOneHalf v.bits) (pages_of v.bits) (nth_from v.bits)
  pages-drained = drained next (pages-one-by-one v) (pages-once v)

  pub pages-inclusive-drained : Drained (IsInOneHalfInclusive v.bits) (pages_inclusive_of v.bits) (nth_inclusive_from v.bits)
  pages-inclusive-drained = drained next-inclusive (pages-inclusive-one-by-one v) (pages-inclusive-once v)
