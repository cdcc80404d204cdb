-- Exactly where a draw of pages is refused 10: "Refusal 10 stays for ranges with start low and end high, under the conditions of 01" (document 02, request One).
use Rattle.std.specs.Prelude.{ℕ, ◌+◌, ◌≤◌, ◌<◌, ◌≡◌}
use Rattle.answer.specs.Outcome.{Outcome, refuses}
use Rattle.answer.specs.Refusal.{draw_meets_gap}
use Rattle.laws.specs.Width.{half, first_high}
use Rattle.laws.specs.Draw.{pages_to_gap, pages_from_gap}
use Rattle.laws.specs.Item.{Item}
use Rattle.range.specs.declared.range.Range.{Range}
use Rattle.range.specs.declared.range_inclusive.RangeInclusive.{RangeInclusive}
use Rattle.page.specs.Page.{start, bytes}
use Rattle.page.specs.Range.{refusal, nth_of, nth_back_of, nth_inclusive_of, nth_back_inclusive_of}
use Rattle.page.specs.declared.page.Page.{Page}

abbrev pub Exactly : Type 0 → Type 0 → Type 0
Exactly A B = (A → B) × (B → A)

-- the range from `x` to `y` is accepted, its start is low, its end high, and "n ≥ d − 1"
pub record GapFromFront (w : ℕ) (x y : Page) (n : ℕ) : Type 0 where
  pub given : refusal w x y ≡ 0
  pub start_low : start x < half w
  pub end_high : first_high w ≤ start y
  pub reached : pages_to_gap w (start x) (bytes x) ≤ n + 1

-- the same with "n ≥ k"
pub record GapFromBack (w : ℕ) (x y : Page) (n : ℕ) : Type 0 where
  pub given : refusal w x y ≡ 0
  pub start_low : start x < half w
  pub end_high : first_high w ≤ start y
  pub reached : pages_from_gap w (start y) (bytes x) ≤ n

abbrev pub meets_gap : Outcome Item → Type 0
meets_gap a = a ≡ refuses draw_meets_gap

pub record RefusedAtGap (w : ℕ) : Type 0 where
  pub nth : (r : Range Page) (n : ℕ) → Exactly (meets_gap (nth_of w r n).answer) (GapFromFront w r.start r.end n)
  pub nth-back : (r : Range Page) (n : ℕ) → Exactly (meets_gap (nth_back_of w r n).answer) (GapFromBack w r.start r.end n)
  pub nth-inclusive : (r : RangeInclusive Page) (n : ℕ) → Exactly (meets_gap (nth_inclusive_of w r n).answer) (GapFromFront w r.start r.end n)
  pub nth-back-inclusive : (r : RangeInclusive Page) (n : ℕ) → Exactly (meets_gap (nth_back_inclusive_of w r n).answer) (GapFromBack w r.start r.end n)
