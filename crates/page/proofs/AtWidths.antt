-- The laws of ranges of pages, at the two widths.
use Prim.Native.Nat.{ℕ, ◌+◌, ◌*◌, ◌/◌, ◌%◌}
use mathlib.Core.Path.{◌≡◌}
use native.Mathlib.Omega.{arith}
use Rattle.answer.specs.Outcome.{gives}
use Rattle.laws.specs.Drawing.{EachOnce, OneByOne, Drained}
use Rattle.laws.specs.Length.{CountsPages, ListsPages}
use Rattle.laws.specs.Number.{number}
use Rattle.laws.specs.Steps.{steps}
use Rattle.laws.proofs.Number as numbers
use Rattle.table.specs.Level.{power_of, bytes_of}
use Rattle.table.specs.declared.size.PageSize.{PageSize}
use Rattle.table.proofs.Sizes.{bounds}
use Rattle.addr.specs.Widths.{width_of}
use Rattle.addr.specs.declared.width.Width.{Width}
use Rattle.addr.proofs.Widths.{page-width, widths, wide}
use Rattle.page.specs.Before.{AsBefore, LengthChangesNoDraw, LengthAsBefore}
use Rattle.page.specs.Gap.{RefusedAtGap}
use Rattle.page.specs.Half.{DrawnToHalfEnd}
use Rattle.page.specs.Length.{Length}
use Rattle.page.specs.Range.{IsAccepted, IsAcceptedInclusive, IsEmpty, IsEmptyInclusive, IsInOneHalf, IsInOneHalfInclusive, len, len_inclusive, pages_of, pages_inclusive_of, nth_from, nth_inclusive_from, next_from, next_inclusive_from}
use Rattle.page.proofs.Before as before
use Rattle.page.proofs.Drained as drained
use Rattle.page.proofs.Drawn as drawn
use Rattle.page.proofs.Gap as gap
use Rattle.page.proofs.Half as half
use Rattle.page.proofs.Length as length

module _ (x : Width) where
  pub as_before : AsBefore (width_of x)
  as_before = before.as_before (page-width x)

  pub length-changes-no-draw : LengthChangesNoDraw (width_of x)
  length-changes-no-draw = before.length-changes-no-draw (page-width x)

  pub pages-one-by-one : OneByOne (IsAccepted (width_of x)) IsEmpty (len (width_of x)) (nth_from (width_of x))
  pages-one-by-one = drawn.pages-one-by-one (page-width x)

  pub pages-inclusive-one-by-one : OneByOne (IsAcceptedInclusive (width_of x)) IsEmptyInclusive (len_inclusive (width_of x)) (nth_inclusive_from (width_of x))
  pages-inclusive-one-by-one = drawn.pages-inclusive-one-by-one (page-width x)

  pub pages-once : EachOnce (pages_of (width_of x)) (next_from (width_of x))
  pages-once = drawn.pages-once (page-width x)

  pub pages-inclusive-once : EachOnce (pages_inclusive_of (width_of x)) (next_inclusive_from (width_of x))
  pages-inclusive-once = drawn.pages-inclusive-once (page-width x)

  pub pages-drained : Drained (IsInOneHalf (width_of x)) (pages_of (width_of x)) (nth_from (width_of x))
  pages-drained = drained.pages-drained (page-width x)

  pub pages-inclusive-drained : Drained (IsInOneHalfInclusive (width_of x)) (pages_inclusive_of (width_of x)) (nth_inclusive_from (width_of x))
  pages-inclusive-drained = drained.pages-inclusive-drained (page-width x)

  pub drawn-to-half-end : DrawnToHalfEnd (width_of x)
  drawn-to-half-end = half.drawn-to-half-end (page-width x)

  -- how many pages of a size are in a range, and which
  pub counts : (s : PageSize) → CountsPages (width_of x) (bytes_of s)
  counts s = length.counts (page-width x) s

  pub lists : (s : PageSize) → ListsPages (width_of x) (bytes_of s)
  lists s = length.lists (page-width x) s

  -- steps of pages are steps of their numbers
  pub steps-number : (s : PageSize) (a b d : ℕ) → a % bytes_of s ≡ 0 → b % bytes_of s ≡ 0 → steps (width_of x) a b ≡ gives d
      → (d / bytes_of s * bytes_of s ≡ d) × (number (width_of x) (bytes_of s) b ≡ number (width_of x) (bytes_of s) a + d / bytes_of s)
  steps-number s = numbers.steps-number (width_of x) (power_of s) (widths x) (omega (arith, bounds s, wide x))

  pub refused-at-gap : RefusedAtGap (width_of x)
  refused-at-gap = gap.refused-at-gap (width_of x)

  pub length-of : Length (width_of x)
  length-of = length.length-of (page-width x)

  pub length-as-before : LengthAsBefore (width_of x)
  length-as-before = length.length-as-before (page-width x)
