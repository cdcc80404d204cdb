-- Ranges and draws in the convention: a range is two words, a draw four.
use Rattle.std.specs.Prelude.{ℕ, List, [], ◌∷◌}
use Rattle.answer.specs.Outcome.{Outcome, gives, none, refuses}
use Rattle.laws.specs.Item.{Item}
use Rattle.laws.specs.Kind.{RangeDraw}
use Rattle.laws.specs.Range.{Ends}
use Rattle.table.specs.declared.size.PageSize.{PageSize}
use Rattle.range.specs.declared.range.Range.{Range}
use Rattle.range.specs.declared.range_inclusive.RangeInclusive.{RangeInclusive}
use Rattle.frame.specs.declared.frame.PhysFrame.{PhysFrame}
use Rattle.page.specs.declared.page.Page.{Page}
use Rattle.frame.specs.Frame.{frame_at}
use Rattle.page.specs.Page.{page_at}
use Rattle.status.specs.Convention.{in_words}
use Rattle.convention.specs.Choice.{size_with}

-- start and end
abbrev pub pair : Outcome Ends → Outcome (List ℕ)
pair o = in_words (λ e. e.first.start ∷ e.last.start ∷ []) o

-- 1 and the item, or 0 and 0; then start and end of the range left, `a` and `b`
abbrev pub draw_words : Outcome Item → ℕ → ℕ → Outcome (List ℕ)
draw_words (gives x) a b = gives (1 ∷ x.start ∷ a ∷ b ∷ [])
draw_words none a b = gives (0 ∷ 0 ∷ a ∷ b ∷ [])
draw_words (refuses k) a b = refuses k

abbrev pub frame_draw_words : RangeDraw (Range PhysFrame) → Outcome (List ℕ)
frame_draw_words d = draw_words d.answer d.range.start.start_address.0 d.range.end.start_address.0

abbrev pub frame_draw_inclusive_words : RangeDraw (RangeInclusive PhysFrame) → Outcome (List ℕ)
frame_draw_inclusive_words d = draw_words d.answer d.range.start.start_address.0 d.range.end.start_address.0

abbrev pub page_draw_words : RangeDraw (Range Page) → Outcome (List ℕ)
page_draw_words d = draw_words d.answer d.range.start.start_address.0 d.range.end.start_address.0

abbrev pub page_draw_inclusive_words : RangeDraw (RangeInclusive Page) → Outcome (List ℕ)
page_draw_inclusive_words d = draw_words d.answer d.range.start.start_address.0 d.range.end.start_address.0

-- the range with these starts and sizes in bytes, `at` the item of a size that starts at a number
abbrev pub range_at : {T : Type 0} → (PageSize → ℕ → T) → ℕ → ℕ → ℕ → ℕ → Range T
range_at at a y b z = record { start = at (size_with y) a; end = at (size_with z) b }

abbrev pub range_inclusive_at : {T : Type 0} → (PageSize → ℕ → T) → ℕ → ℕ → ℕ → ℕ → RangeInclusive T
range_inclusive_at at a y b z = record { start = at (size_with y) a; end = at (size_with z) b }

abbrev pub frame_range_at : ℕ → ℕ → ℕ → ℕ → Range PhysFrame
frame_range_at = range_at frame_at

abbrev pub frame_range_inclusive_at : ℕ → ℕ → ℕ → ℕ → RangeInclusive PhysFrame
frame_range_inclusive_at = range_inclusive_at frame_at

abbrev pub page_range_at : ℕ → ℕ → ℕ → ℕ → Range Page
page_range_at = range_at page_at

abbrev pub page_range_inclusive_at : ℕ → ℕ → ℕ → ℕ → RangeInclusive Page
page_range_inclusive_at = range_inclusive_at page_at
