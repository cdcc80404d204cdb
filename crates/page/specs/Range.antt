-- What the calls on ranges of pages answer, over the width `w`. A draw answers the page, none or the refusal's number, and the range left; on a refusal that is the
-- range taken. The sentences are those of document 01, "Ranges"; those of document 02 on draws stand at page_draw `Draws`.
use Rattle.std.specs.Prelude.{ℕ, ◌≤◌, ◌<◌, ◌≡◌, List, eqb, Result}
use Rattle.std.proofs.Math.Option.{Option}
use Rattle.answer.specs.Outcome.{Outcome, gives, unless}
use Rattle.answer.specs.Answers.{outcome_of}
use Rattle.answer.specs.Refusal.{sizes_differ}
use Rattle.answer.specs.declared.refusal.Refusal.{Refusal}
use Rattle.laws.specs.Width.{InOneHalf}
use Rattle.laws.specs.Run.{pages_below, pages_through, page_len_below, page_len_through}
use Rattle.laws.specs.Drawing.{Side, front, back, Drawn}
use Rattle.laws.specs.Kind.{Kind, RangeDraw, drawn_of}
use Rattle.laws.specs.Address.{virt}
use Rattle.laws.specs.Item.{item, given_items, items_refusal}
use Rattle.laws.specs.Range.{Ends, ends}
use Rattle.range.specs.Ranges as ranges
use Rattle.range.specs.declared.range.Range.{Range}
use Rattle.range.specs.declared.range_inclusive.RangeInclusive.{RangeInclusive}
use Rattle.page_draw.specs.Draws.{nth_below, nth_back_below, nth_through, nth_back_through}
use Rattle.page.specs.Page.{start, bytes, item_of, page_at}
use Rattle.page.specs.declared.page.Page.{Page}

-- pages, as ranges take them
abbrev pub pages : Kind Page
pages = record { item = item_of; placed = λ x. page_at x.size }

-- what a result with a range stands for
abbrev pub range_of : Result (Range Page) Refusal → Outcome Ends
range_of = outcome_of (ranges.ends_of pages)

abbrev pub range_inclusive_of : Result (RangeInclusive Page) Refusal → Outcome Ends
range_inclusive_of = outcome_of (ranges.ends_inclusive_of pages)

-- "`as_4kib_page_range` (exclusive pages): 7 unless the size is 2 MiB": the same start and end, as 4 KiB pages
abbrev pub as_4kib : ℕ → ℕ → ℕ → ℕ → ℕ → Outcome Ends
as_4kib w a y b z = given_items (virt w) a y b z (unless sizes_differ (eqb y 0x20_0000) (gives (ends (item a 0x1000) (item b 0x1000))))

-- the number that refuses two pages
abbrev pub refusal : ℕ → Page → Page → ℕ
refusal w x y = items_refusal (virt w) (start x) (bytes x) (start y) (bytes y)

-- the draws of a range
abbrev pub nth_of : ℕ → Range Page → ℕ → RangeDraw (Range Page)
nth_of w = ranges.nth_of pages (nth_below w)

abbrev pub nth_back_of : ℕ → Range Page → ℕ → RangeDraw (Range Page)
nth_back_of w = ranges.nth_of pages (nth_back_below w)

abbrev pub nth_inclusive_of : ℕ → RangeInclusive Page → ℕ → RangeDraw (RangeInclusive Page)
nth_inclusive_of w = ranges.nth_inclusive_of pages (nth_through w)

abbrev pub nth_back_inclusive_of : ℕ → RangeInclusive Page → ℕ → RangeDraw (RangeInclusive Page)
nth_back_inclusive_of w = ranges.nth_inclusive_of pages (nth_back_through w)

-- where the pages of a range start
abbrev pub pages_of : ℕ → Range Page → List ℕ
pages_of w r = pages_below w (start r.start) (start r.end) (bytes r.start)

abbrev pub pages_inclusive_of : ℕ → RangeInclusive Page → List ℕ
pages_inclusive_of w r = pages_through w (start r.start) (start r.end) (bytes r.start)

-- the ranges that no call refuses
abbrev pub IsAccepted : ℕ → Range Page → Type 0
IsAccepted w r = refusal w r.start r.end ≡ 0

abbrev pub IsAcceptedInclusive : ℕ → RangeInclusive Page → Type 0
IsAcceptedInclusive w r = refusal w r.start r.end ≡ 0

-- of these, those whose start and end are in one half
abbrev pub IsInOneHalf : ℕ → Range Page → Type 0
IsInOneHalf w r = IsAccepted w r × InOneHalf w (start r.start) (start r.end)

abbrev pub IsInOneHalfInclusive : ℕ → RangeInclusive Page → Type 0
IsInOneHalfInclusive w r = IsAcceptedInclusive w r × InOneHalf w (start r.start) (start r.end)

-- "An exclusive range is empty if start ≥ end, an inclusive one if start > end"
abbrev pub IsEmpty : Range Page → Type 0
IsEmpty r = start r.end ≤ start r.start

abbrev pub IsEmptyInclusive : RangeInclusive Page → Type 0
IsEmptyInclusive r = start r.end < start r.start

-- how many pages a range has: "From now on `len` of a page range is the number of real pages" (document 02, request Three)
abbrev pub len : ℕ → Range Page → ℕ
len w r = page_len_below w (start r.start) (start r.end) (bytes r.start)

abbrev pub len_inclusive : ℕ → RangeInclusive Page → ℕ
len_inclusive w r = page_len_through w (start r.start) (start r.end) (bytes r.start)

-- a draw as what it gives and leaves; "`next` and `next_back` are n = 0"
abbrev pub nth_from : ℕ → Side → ℕ → Range Page → Option (Drawn (Range Page))
nth_from w front n r = drawn_of (nth_of w r n)
nth_from w back n r = drawn_of (nth_back_of w r n)

abbrev pub nth_inclusive_from : ℕ → Side → ℕ → RangeInclusive Page → Option (Drawn (RangeInclusive Page))
nth_inclusive_from w front n r = drawn_of (nth_inclusive_of w r n)
nth_inclusive_from w back n r = drawn_of (nth_back_inclusive_of w r n)

abbrev pub next_from : ℕ → Side → Range Page → Option (Drawn (Range Page))
next_from w side r = nth_from w side 0 r

abbrev pub next_inclusive_from : ℕ → Side → RangeInclusive Page → Option (Drawn (RangeInclusive Page))
next_inclusive_from w side r = nth_inclusive_from w side 0 r
