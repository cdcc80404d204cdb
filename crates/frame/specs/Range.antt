-- What the calls on ranges of frames answer. A draw answers the frame, none or the refusal's number, and the range left; on a refusal that is the range taken.
-- The sentences are those of document 01, "Ranges".
use Rattle.std.specs.Prelude.{ℕ, ◌-◌, ◌≤◌, ◌<◌, ◌≡◌, Bool, false, cond, ◌||◌, List, leb, Result}
use Rattle.std.proofs.Math.Option.{Option}
use Rattle.answer.specs.Outcome.{Outcome}
use Rattle.answer.specs.Answers.{outcome_of}
use Rattle.answer.specs.Refusal.{draw_leaves_memory}
use Rattle.answer.specs.declared.refusal.Refusal.{Refusal}
use Rattle.laws.specs.Run.{below, through, len_below, len_through}
use Rattle.laws.specs.Draw as draw
use Rattle.laws.specs.Drawing.{Side, front, back, Drawn}
use Rattle.laws.specs.Kind.{Kind, GuardedDraw, RangeDraw, drawn_of}
use Rattle.laws.specs.Address.{phys, phys_size}
use Rattle.laws.specs.Item.{first_refusal, items_refusal}
use Rattle.laws.specs.Range.{Ends}
use Rattle.range.specs.Ranges as ranges
use Rattle.range.specs.declared.range.Range.{Range}
use Rattle.range.specs.declared.range_inclusive.RangeInclusive.{RangeInclusive}
use Rattle.frame.specs.Frame.{start, bytes, item_of, frame_at}
use Rattle.frame.specs.declared.frame.PhysFrame.{PhysFrame}

-- frames, as ranges take them
abbrev pub frames : Kind PhysFrame
frames = record { item = item_of; placed = λ x. frame_at x.size }

-- what a result with a range stands for
abbrev pub range_of : Result (Range PhysFrame) Refusal → Outcome Ends
range_of = outcome_of (ranges.ends_of frames)

abbrev pub range_inclusive_of : Result (RangeInclusive PhysFrame) Refusal → Outcome Ends
range_inclusive_of = outcome_of (ranges.ends_inclusive_of frames)

-- the topmost frame of a size
abbrev pub top_frame : ℕ → ℕ
top_frame z = phys_size - z

-- the number that refuses two frames
abbrev pub refusal : PhysFrame → PhysFrame → ℕ
refusal x y = items_refusal (phys 52) (start x) (bytes x) (start y) (bytes y)

-- "Frame draws: 11 if a start or end would leave 0 to 2^52 − 1": above it, or, where `under` says so, below it
abbrev pub leaves_memory : Bool → draw.Draw → ℕ
leaves_memory under d = cond (under || (leb phys_size d.start || leb phys_size d.end)) draw_leaves_memory 0

-- the draw `d` of the range from `a` to `b`, whose sizes are `y` and `z`, by whether its end would be below 0: "a range handed to any call is tested the same way first"
abbrev pub frame_draw : ℕ → ℕ → ℕ → ℕ → Bool → draw.Draw → GuardedDraw
frame_draw a y b z under d = record { refusal = first_refusal (items_refusal (phys 52) a y b z) (leaves_memory under d); draw = d }

-- the draws of the range from `a` to `b`, whose sizes are `y` and `z`, on numbers
unfoldable pub nth_below : ℕ → ℕ → ℕ → ℕ → ℕ → GuardedDraw
nth_below a y b z n = frame_draw a y b z false (draw.front_below (below a b y) a b y n)

unfoldable pub nth_back_below : ℕ → ℕ → ℕ → ℕ → ℕ → GuardedDraw
nth_back_below a y b z n = frame_draw a y b z (draw.under_back_below a b y n) (draw.back_below (below a b y) a b y n)

unfoldable pub nth_through : ℕ → ℕ → ℕ → ℕ → ℕ → GuardedDraw
nth_through a y b z n = frame_draw a y b z (draw.under_front_through (top_frame y) a b y n) (draw.front_through (through a b y) (top_frame y) a b y n)

unfoldable pub nth_back_through : ℕ → ℕ → ℕ → ℕ → ℕ → GuardedDraw
nth_back_through a y b z n = frame_draw a y b z false (draw.back_through (through a b y) 0 a b y n)

-- the draws of a range
abbrev pub nth_of : Range PhysFrame → ℕ → RangeDraw (Range PhysFrame)
nth_of = ranges.nth_of frames nth_below

abbrev pub nth_back_of : Range PhysFrame → ℕ → RangeDraw (Range PhysFrame)
nth_back_of = ranges.nth_of frames nth_back_below

abbrev pub nth_inclusive_of : RangeInclusive PhysFrame → ℕ → RangeDraw (RangeInclusive PhysFrame)
nth_inclusive_of = ranges.nth_inclusive_of frames nth_through

abbrev pub nth_back_inclusive_of : RangeInclusive PhysFrame → ℕ → RangeDraw (RangeInclusive PhysFrame)
nth_back_inclusive_of = ranges.nth_inclusive_of frames nth_back_through

-- where the frames of a range start
abbrev pub frames_of : Range PhysFrame → List ℕ
frames_of r = below (start r.start) (start r.end) (bytes r.start)

abbrev pub frames_inclusive_of : RangeInclusive PhysFrame → List ℕ
frames_inclusive_of r = through (start r.start) (start r.end) (bytes r.start)

-- the ranges that no call refuses; "An exclusive range is empty if start ≥ end, an inclusive one if start > end"; `len`
abbrev pub IsAccepted : Range PhysFrame → Type 0
IsAccepted r = refusal r.start r.end ≡ 0

abbrev pub IsAcceptedInclusive : RangeInclusive PhysFrame → Type 0
IsAcceptedInclusive r = refusal r.start r.end ≡ 0

abbrev pub IsEmpty : Range PhysFrame → Type 0
IsEmpty r = start r.end ≤ start r.start

abbrev pub IsEmptyInclusive : RangeInclusive PhysFrame → Type 0
IsEmptyInclusive r = start r.end < start r.start

abbrev pub len : Range PhysFrame → ℕ
len r = len_below (start r.start) (start r.end) (bytes r.start)

abbrev pub len_inclusive : RangeInclusive PhysFrame → ℕ
len_inclusive r = len_through (start r.start) (start r.end) (bytes r.start)

-- a draw as what it gives and leaves; "`next` and `next_back` are n = 0"
abbrev pub nth_from : Side → ℕ → Range PhysFrame → Option (Drawn (Range PhysFrame))
nth_from front n r = drawn_of (nth_of r n)
nth_from back n r = drawn_of (nth_back_of r n)

abbrev pub nth_inclusive_from : Side → ℕ → RangeInclusive PhysFrame → Option (Drawn (RangeInclusive PhysFrame))
nth_inclusive_from front n r = drawn_of (nth_inclusive_of r n)
nth_inclusive_from back n r = drawn_of (nth_back_inclusive_of r n)

abbrev pub next_from : Side → Range PhysFrame → Option (Drawn (Range PhysFrame))
next_from side r = nth_from side 0 r

abbrev pub next_inclusive_from : Side → RangeInclusive PhysFrame → Option (Drawn (RangeInclusive PhysFrame))
next_inclusive_from side r = nth_inclusive_from side 0 r
