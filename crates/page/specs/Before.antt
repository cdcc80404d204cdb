-- Draws, `len` and `size` of ranges of pages as document 01 alone has them (laws `Before`), and what is as before: "Every draw answered before answers as before" (document 02,
-- request One); `len` and `size` of every range but those over the gap (request Three). What these requests have not changed is shared with today's definitions.
use Rattle.std.specs.Prelude.{ℕ, ◌+◌, ◌-◌, ◌/◌, ◌^◌, ◌≡◌}
use Rattle.answer.specs.Outcome.{gives}
use Rattle.laws.specs.Width.{InOneHalf, OverGap}
use Rattle.laws.specs.Run.{pages_below, pages_through}
use Rattle.laws.specs.Draw as draw
use Rattle.laws.specs.Before as before
use Rattle.laws.specs.Kind.{GuardedDraw, RangeDraw}
use Rattle.range.specs.Ranges as ranges
use Rattle.range.specs.declared.range.Range.{Range}
use Rattle.range.specs.declared.range_inclusive.RangeInclusive.{RangeInclusive}
use Rattle.page_draw.specs.Draws.{draw_refusal}
use Rattle.page.specs.Page.{start, bytes}
use Rattle.page.specs.Range as now
use Rattle.page.specs.Range.{pages, refusal}
use Rattle.page.specs.Gap.{Exactly, meets_gap}
use Rattle.page.specs.Length.{of_ends, len_of, len_inclusive_of, size_of, size_inclusive_of}
use Rattle.page.specs.declared.page.Page.{Page}

-- on the numbers of a range, as in page_draw `Draws`, with the length of document 01, which counts the gap
abbrev pub nth_below : ℕ → ℕ → ℕ → ℕ → ℕ → ℕ → GuardedDraw
nth_below w a y b z n = record { refusal = draw_refusal w a y b z (before.gap_front_below w a b y n); draw = draw.front_below (pages_below w a b y) a b y n }

abbrev pub nth_back_below : ℕ → ℕ → ℕ → ℕ → ℕ → ℕ → GuardedDraw
nth_back_below w a y b z n = record { refusal = draw_refusal w a y b z (before.gap_back_below w a b y n); draw = draw.back_below (pages_below w a b y) a b y n }

abbrev pub nth_through : ℕ → ℕ → ℕ → ℕ → ℕ → ℕ → GuardedDraw
nth_through w a y b z n = record { refusal = draw_refusal w a y b z (before.gap_front_through w a b y n); draw = draw.front_through (pages_through w a b y) (draw.top_page y) a b y n }

abbrev pub nth_back_through : ℕ → ℕ → ℕ → ℕ → ℕ → ℕ → GuardedDraw
nth_back_through w a y b z n = record { refusal = draw_refusal w a y b z (before.gap_back_through w a b y n); draw = before.back_through (pages_through w a b y) a b y n }

-- of a range
abbrev pub nth_of : ℕ → Range Page → ℕ → RangeDraw (Range Page)
nth_of w = ranges.nth_of pages (nth_below w)

abbrev pub nth_back_of : ℕ → Range Page → ℕ → RangeDraw (Range Page)
nth_back_of w = ranges.nth_of pages (nth_back_below w)

abbrev pub nth_inclusive_of : ℕ → RangeInclusive Page → ℕ → RangeDraw (RangeInclusive Page)
nth_inclusive_of w = ranges.nth_inclusive_of pages (nth_through w)

abbrev pub nth_back_inclusive_of : ℕ → RangeInclusive Page → ℕ → RangeDraw (RangeInclusive Page)
nth_back_inclusive_of w = ranges.nth_inclusive_of pages (nth_back_through w)

-- the answer and the range left are those of before: of every exclusive range, and of every inclusive one unless it is in one half and was refused 10
pub record AsBefore (w : ℕ) : Type 0 where
  pub nth : (r : Range Page) (n : ℕ) → now.nth_of w r n ≡ nth_of w r n
  pub nth-back : (r : Range Page) (n : ℕ) → now.nth_back_of w r n ≡ nth_back_of w r n
  pub nth-inclusive : (r : RangeInclusive Page) (n : ℕ) → (InOneHalf w (start r.start) (start r.end) → meets_gap (nth_inclusive_of w r n).answer → ⊥)
      → now.nth_inclusive_of w r n ≡ nth_inclusive_of w r n
  pub nth-back-inclusive : (r : RangeInclusive Page) (n : ℕ) → (InOneHalf w (start r.start) (start r.end) → meets_gap (nth_back_inclusive_of w r n).answer → ⊥)
      → now.nth_back_inclusive_of w r n ≡ nth_back_inclusive_of w r n

-- draws of inclusive ranges as request One alone has left them: with the length of document 01
abbrev pub counted_through : ℕ → ℕ → ℕ → ℕ → ℕ → ℕ → GuardedDraw
counted_through w a y b z n = record { refusal = draw_refusal w a y b z (draw.gap_front w a b y n); draw = draw.front_through (pages_through w a b y) (draw.top_of w a b y) a b y n }

abbrev pub counted_back_through : ℕ → ℕ → ℕ → ℕ → ℕ → ℕ → GuardedDraw
counted_back_through w a y b z n = record { refusal = draw_refusal w a y b z (draw.gap_back w a b y n); draw = draw.back_through (pages_through w a b y) (draw.bottom_of w a b) a b y n }

-- the length of request Three changes no draw: `AsBefore` says it of exclusive ranges, this of inclusive ones
pub record LengthChangesNoDraw (w : ℕ) : Type 0 where
  pub nth-inclusive : (r : RangeInclusive Page) (n : ℕ) → now.nth_inclusive_of w r n ≡ ranges.nth_inclusive_of pages (counted_through w) r n
  pub nth-back-inclusive : (r : RangeInclusive Page) (n : ℕ) → now.nth_back_inclusive_of w r n ≡ ranges.nth_inclusive_of pages (counted_back_through w) r n

-- a range from a low start to a high end that is not refused
pub record IsOverGap (w : ℕ) (x y : Page) : Type 0 where
  pub given : refusal w x y ≡ 0
  pub over : OverGap w (start x) (start y)

-- `len` and `size` are as before everywhere but over the gap, so also of a range that is empty or refused
pub record LengthAsBefore (w : ℕ) : Type 0 where
  pub len : (r : Range Page) → Exactly (len_of w r ≡ of_ends w before.count_below r.start r.end) (IsOverGap w r.start r.end → ⊥)
  pub len-inclusive : (r : RangeInclusive Page) → Exactly (len_inclusive_of w r ≡ of_ends w before.count_through r.start r.end) (IsOverGap w r.start r.end → ⊥)
  pub size : (r : Range Page) → Exactly (size_of w r ≡ of_ends w before.bytes_below r.start r.end) (IsOverGap w r.start r.end → ⊥)
  pub size-inclusive : (r : RangeInclusive Page) → Exactly (size_inclusive_of w r ≡ of_ends w before.bytes_through r.start r.end) (IsOverGap w r.start r.end → ⊥)
  -- "Where start and end are in one half", no range is over the gap
  pub in-one-half : (x y : Page) → InOneHalf w (start x) (start y) → IsOverGap w x y → ⊥
  -- over it `len` counted as many pages more as the gap has room for
  pub gap-counted : (r : Range Page) → IsOverGap w r.start r.end → of_ends w before.count_below r.start r.end ≡ gives (now.len w r + (2 ^ 64 - 2 ^ w) / bytes r.start)
  pub gap-counted-inclusive : (r : RangeInclusive Page) → IsOverGap w r.start r.end → of_ends w before.count_through r.start r.end ≡ gives (now.len_inclusive w r + (2 ^ 64 - 2 ^ w) / bytes r.start)
