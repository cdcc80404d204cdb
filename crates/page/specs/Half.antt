-- What a draw gives and leaves that comes to the last page of the low half, or to the first of the high one: "a front draw gives it and lowers end by one page", "a back draw gives it
-- and raises start by one page" (document 02, request One), for every size, and for longer ranges: "Longer draws follow from these."
use Rattle.std.specs.Prelude.{ℕ, ◌+◌, ◌-◌, ◌≤◌, ◌≡◌}
use Rattle.answer.specs.Outcome.{gives}
use Rattle.laws.specs.Width.{half, first_high}
use Rattle.laws.specs.Item.{item}
use Rattle.range.specs.declared.range_inclusive.RangeInclusive.{RangeInclusive}
use Rattle.page.specs.Page.{start, bytes, page_at}
use Rattle.page.specs.Range.{IsAcceptedInclusive, len_inclusive, nth_inclusive_of, nth_back_inclusive_of}
use Rattle.page.specs.declared.page.Page.{Page}

-- a range that ends with the last low page of its size, and one that starts with the first high page
pub record EndsLowHalf (w : ℕ) (r : RangeInclusive Page) : Type 0 where
  pub given : IsAcceptedInclusive w r
  pub not_empty : start r.start ≤ start r.end
  pub last : start r.end + bytes r.start ≡ half w

pub record StartsHighHalf (w : ℕ) (r : RangeInclusive Page) : Type 0 where
  pub given : IsAcceptedInclusive w r
  pub not_empty : start r.start ≤ start r.end
  pub first : start r.start ≡ first_high w

pub record DrawnToHalfEnd (w : ℕ) : Type 0 where
  -- its last page is drawn from the front; that draw, and each with n ≥ `len`, sets start on it and end one page below it
  pub front : (r : RangeInclusive Page) (n : ℕ) → EndsLowHalf w r → len_inclusive w r ≡ n + 1 → (nth_inclusive_of w r n).answer ≡ gives (item (start r.end) (bytes r.start))
  pub front-left : (r : RangeInclusive Page) (n : ℕ) → EndsLowHalf w r → len_inclusive w r ≤ n + 1
      → (nth_inclusive_of w r n).range ≡ record { start = page_at r.start.size (start r.end); end = page_at r.end.size (start r.end - bytes r.start) }
  -- its first page is drawn from the back; that draw, and each with n ≥ `len`, sets end on it and start one page above it
  pub back : (r : RangeInclusive Page) (n : ℕ) → StartsHighHalf w r → len_inclusive w r ≡ n + 1 → (nth_back_inclusive_of w r n).answer ≡ gives (item (start r.start) (bytes r.start))
  pub back-left : (r : RangeInclusive Page) (n : ℕ) → StartsHighHalf w r → len_inclusive w r ≤ n + 1
      → (nth_back_inclusive_of w r n).range ≡ record { start = page_at r.start.size (start r.start + bytes r.start); end = page_at r.end.size (start r.start) }
