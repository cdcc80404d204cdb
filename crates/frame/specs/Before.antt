-- Draws of frames as document 01 has them, and that they answer as before: "Every draw answered before answers as before" (document 02, request One). Only the last has changed its
-- text: the lowest item, 0, is now an argument. `len` and `size` answer as before too: request Three is of page ranges alone.
use Rattle.std.specs.Prelude.{ℕ, ◌≡◌, false}
use Rattle.answer.specs.Outcome.{Outcome}
use Rattle.laws.specs.Address.{Addresses, phys}
use Rattle.laws.specs.Run.{below, through}
use Rattle.laws.specs.Draw as draw
use Rattle.laws.specs.Before as before
use Rattle.laws.specs.Kind.{GuardedDraw}
use Rattle.laws.specs.Range.{count_below, count_through, bytes_below, bytes_through}
use Rattle.range.specs.Ranges as ranges
use Rattle.range.specs.declared.range.Range.{Range}
use Rattle.range.specs.declared.range_inclusive.RangeInclusive.{RangeInclusive}
use Rattle.frame.specs.Range.{frames, top_frame, frame_draw, nth_of, nth_back_of, nth_inclusive_of, nth_back_inclusive_of}
use Rattle.frame.specs.declared.frame.PhysFrame.{PhysFrame}

unfoldable pub nth_below : ℕ → ℕ → ℕ → ℕ → ℕ → GuardedDraw
nth_below a y b z n = frame_draw a y b z false (draw.front_below (below a b y) a b y n)

unfoldable pub nth_back_below : ℕ → ℕ → ℕ → ℕ → ℕ → GuardedDraw
nth_back_below a y b z n = frame_draw a y b z (draw.under_back_below a b y n) (draw.back_below (below a b y) a b y n)

unfoldable pub nth_through : ℕ → ℕ → ℕ → ℕ → ℕ → GuardedDraw
nth_through a y b z n = frame_draw a y b z (draw.under_front_through (top_frame y) a b y n) (draw.front_through (through a b y) (top_frame y) a b y n)

unfoldable pub nth_back_through : ℕ → ℕ → ℕ → ℕ → ℕ → GuardedDraw
nth_back_through a y b z n = frame_draw a y b z false (before.back_through (through a b y) a b y n)

pub record AsBefore : Type 0 where
  pub nth : (r : Range PhysFrame) (n : ℕ) → nth_of r n ≡ ranges.nth_of frames nth_below r n
  pub nth-back : (r : Range PhysFrame) (n : ℕ) → nth_back_of r n ≡ ranges.nth_of frames nth_back_below r n
  pub nth-inclusive : (r : RangeInclusive PhysFrame) (n : ℕ) → nth_inclusive_of r n ≡ ranges.nth_inclusive_of frames nth_through r n
  pub nth-back-inclusive : (r : RangeInclusive PhysFrame) (n : ℕ) → nth_back_inclusive_of r n ≡ ranges.nth_inclusive_of frames nth_back_through r n

-- what a call answers of the range from `x` to `y`
abbrev pub of_ends : (Addresses → ℕ → ℕ → ℕ → ℕ → Outcome ℕ) → PhysFrame → PhysFrame → Outcome ℕ
of_ends = ranges.of_ends frames (phys 52)

pub record LengthAsBefore : Type 0 where
  pub len : (r : Range PhysFrame) → of_ends count_below r.start r.end ≡ of_ends before.count_below r.start r.end
  pub len-inclusive : (r : RangeInclusive PhysFrame) → of_ends count_through r.start r.end ≡ of_ends before.count_through r.start r.end
  pub size : (r : Range PhysFrame) → of_ends bytes_below r.start r.end ≡ of_ends before.bytes_below r.start r.end
  pub size-inclusive : (r : RangeInclusive PhysFrame) → of_ends bytes_through r.start r.end ≡ of_ends before.bytes_through r.start r.end
