-- Draws of pages by draws on the numbers of their range, where nothing refuses them.
use Prim.Native.Nat.{ℕ}
use mathlib.Core.Path.{◌≡◌}
use mathlib.Core.Bool.{false}
use mathlib.Core.List.{List}
use Rattle.laws.specs.Run.{below, through, len_below, len_through}
use Rattle.laws.specs.Draw as draw
use Rattle.laws.specs.Kind.{settled}
use Rattle.laws.proofs.Kind.{guarded_gives}
use Rattle.range.specs.Ranges.{made, made_inclusive}
use Rattle.range.specs.declared.range.Range.{Range}
use Rattle.range.specs.declared.range_inclusive.RangeInclusive.{RangeInclusive}
use Rattle.laws.specs.Width.{PageWidth}
use Rattle.page_draw.specs.Draws.{nth_below, nth_back_below, nth_through, nth_back_through}
use Rattle.page_draw.proofs.Accepted as ends
use Rattle.page_draw.proofs.Accepted.{Accepted}
use Rattle.page_draw.proofs.Settled as numbers
use Rattle.page.specs.Page.{start, bytes}
use Rattle.page.specs.Range.{refusal, pages, nth_of, nth_back_of, nth_inclusive_of, nth_back_inclusive_of}
use Rattle.page.specs.declared.page.Page.{Page}

-- what an accepted range is: two pages of one size
module _ (v : PageWidth) (x y : Page) (e : refusal v.bits x y ≡ 0) where
  pub accepted : Accepted v.bits (start x) (bytes x) (start y) (bytes y)
  accepted = ends.accepted v (start x) x.size (start y) y.size e

-- the draws on the numbers of a range from `x` to `y`, of the items `l`
module _ (x y : Page) (n : ℕ) where
  abbrev pub front : (List ℕ) → draw.Draw
  front l = draw.front_below l (start x) (start y) (bytes x) n

  abbrev pub back : (List ℕ) → draw.Draw
  back l = draw.back_below l (start x) (start y) (bytes x) n

-- of an inclusive range, at the width `w`
module _ (w : ℕ) (x y : Page) (n : ℕ) where
  abbrev pub front_inclusive : (List ℕ) → draw.Draw
  front_inclusive l = draw.front_through l (draw.top_of w (start x) (start y) (bytes x)) (start x) (start y) (bytes x) n

  abbrev pub back_inclusive : (List ℕ) → draw.Draw
  back_inclusive l = draw.back_through l (draw.bottom_of w (start x) (start y)) (start x) (start y) (bytes x) n

-- the numbers of a range from `x` to `y`
abbrev pub numbers_in : Page → Page → List ℕ
numbers_in x y = below (start x) (start y) (bytes x)

abbrev pub numbers_inclusive_in : Page → Page → List ℕ
numbers_inclusive_in x y = through (start x) (start y) (bytes x)

-- how many numbers of one page each have room in a range, the gap included
abbrev pub numbers_len : Range Page → ℕ
numbers_len r = len_below (start r.start) (start r.end) (bytes r.start)

abbrev pub numbers_len_inclusive : RangeInclusive Page → ℕ
numbers_len_inclusive r = len_through (start r.start) (start r.end) (bytes r.start)

-- each draw away from the gap: by the numbers of the range alone
module _ (v : PageWidth) (r : Range Page) (n : ℕ) (e : refusal v.bits r.start r.end ≡ 0) where
  pub nth-settled : draw.gap_front v.bits (start r.start) (start r.end) (bytes r.start) n ≡ false → settled pages made r.start r.end (front r.start r.end n (numbers_in r.start r.end)) ≡ nth_of v.bits r n
  nth-settled g =
      guarded_gives pages made r.start r.end (nth_below v.bits (start r.start) (bytes r.start) (start r.end) (bytes r.end) n) (front r.start r.end n (numbers_in r.start r.end))
      (numbers.front-exclusive v (start r.start) r.start.size (start r.end) r.end.size n e g)

  pub nth-back-settled : draw.gap_back v.bits (start r.start) (start r.end) (bytes r.start) n ≡ false → settled pages made r.start r.end (back r.start r.end n (numbers_in r.start r.end)) ≡ nth_back_of v.bits r n
  nth-back-settled g =
      guarded_gives pages made r.start r.end (nth_back_below v.bits (start r.start) (bytes r.start) (start r.end) (bytes r.end) n) (back r.start r.end n (numbers_in r.start r.end))
      (numbers.back-exclusive v (start r.start) r.start.size (start r.end) r.end.size n e g)

module _ (v : PageWidth) (r : RangeInclusive Page) (n : ℕ) (e : refusal v.bits r.start r.end ≡ 0) where
  pub nth-inclusive-settled : draw.gap_front v.bits (start r.start) (start r.end) (bytes r.start) n ≡ false
      → settled pages made_inclusive r.start r.end (front_inclusive v.bits r.start r.end n (numbers_inclusive_in r.start r.end)) ≡ nth_inclusive_of v.bits r n
  nth-inclusive-settled g =
      guarded_gives pages made_inclusive r.start r.end (nth_through v.bits (start r.start) (bytes r.start) (start r.end) (bytes r.end) n)
      (front_inclusive v.bits r.start r.end n (numbers_inclusive_in r.start r.end)) (numbers.front-inclusive v (start r.start) r.start.size (start r.end) r.end.size n e g)

  pub nth-back-inclusive-settled : draw.gap_back v.bits (start r.start) (start r.end) (bytes r.start) n ≡ false
      → settled pages made_inclusive r.start r.end (back_inclusive v.bits r.start r.end n (numbers_inclusive_in r.start r.end)) ≡ nth_back_inclusive_of v.bits r n
  nth-back-inclusive-settled g =
      guarded_gives pages made_inclusive r.start r.end (nth_back_through v.bits (start r.start) (bytes r.start) (start r.end) (bytes r.end) n)
      (back_inclusive v.bits r.start r.end n (numbers_inclusive_in r.start r.end)) (numbers.back-inclusive v (start r.start) r.start.size (start r.end) r.end.size n e g)
