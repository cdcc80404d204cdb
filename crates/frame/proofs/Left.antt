-- What a draw of frames leaves: the range left stands for the frames without those drawn, counted from the end they are drawn from.
use Prim.Native.Nat.{ℕ, ◌+◌}
use mathlib.Core.Path.{◌≡◌, ap, ◌∙◌}
use mathlib.Core.List.{reverse}
use mathlib.Core.Option.{Option, none, some}
use native.Mathlib.Omega.{arith}
use lib.ListN.{get_elem?, drop}
use Rattle.answer.specs.Outcome.{gives}
use Rattle.laws.specs.Item.{Item, item}
use Rattle.laws.specs.Kind.{item_answer}
use Rattle.laws.proofs.Draw.{end-at-item}
use Rattle.laws.proofs.Left.{front-below-left, back-below-left, front-through-left, back-through-left}
use Rattle.range.specs.declared.range.Range.{Range}
use Rattle.range.specs.declared.range_inclusive.RangeInclusive.{RangeInclusive}
use Rattle.frame.specs.Frame.{start, bytes}
use Rattle.frame.specs.Range.{top_frame, refusal, frames, nth_of, nth_back_of, nth_inclusive_of, nth_back_inclusive_of, frames_of, frames_inclusive_of}
use Rattle.frame.specs.declared.frame.PhysFrame.{PhysFrame}
use Rattle.frame.proofs.Ranges.{accepted_frames, nth-settled, nth-back-settled, nth-inclusive-settled, nth-back-inclusive-settled}

-- where the frame that is answered starts
answer-start : (x : PhysFrame) (o : Option ℕ) (i : Item) → item_answer frames x o ≡ gives i → o ≡ some i.start
answer-start x none i h = cc
answer-start x (some a) i h = let q : item a (bytes x) ≡ i = cc in ap (λ (j : Item). some j.start) q

module _ (r : Range PhysFrame) (n : ℕ) (e : refusal r.start r.end ≡ 0) where
  pub nth_left : frames_of (nth_of r n).range ≡ drop (n + 1) (frames_of r)
  nth_left =
      let x = accepted_frames r.start r.end e in
      rw (← nth-settled r n e) (front-below-left (frames_of r) (start r.start) (start r.end) (bytes r.start) n x.some)

  pub nth-back-left : reverse (frames_of (nth_back_of r n).range) ≡ drop (n + 1) (reverse (frames_of r))
  nth-back-left =
      let x = accepted_frames r.start r.end e in
      rw (← nth-back-settled r n e) (back-below-left (frames_of r) (start r.start) (start r.end) (bytes r.start) n x.some)

  -- the end left is the frame drawn
  pub nth-back-end : (i : Item) → (nth_back_of r n).answer ≡ gives i → start (nth_back_of r n).range.end ≡ i.start
  nth-back-end i h =
      let x = accepted_frames r.start r.end e in
      let q = ap (λ d. d.answer) (nth-back-settled r n e) ∙ h in
      rw (← nth-back-settled r n e)
      (end-at-item (frames_of r) (start r.start) (start r.end) (bytes r.start) n i.start x.some x.whole x.last-whole (answer-start r.start (get_elem? (reverse (frames_of r)) n) i q))

module _ (r : RangeInclusive PhysFrame) (n : ℕ) (e : refusal r.start r.end ≡ 0) where
  pub nth-inclusive-left : frames_inclusive_of (nth_inclusive_of r n).range ≡ drop (n + 1) (frames_inclusive_of r)
  nth-inclusive-left =
      let x = accepted_frames r.start r.end e in
      rw (← nth-inclusive-settled r n e)
      (front-through-left (frames_inclusive_of r) (start r.start) (start r.end) (bytes r.start) (top_frame (bytes r.start)) n x.some (omega arith) (omega arith) (omega arith))

  pub nth-back-inclusive-left : reverse (frames_inclusive_of (nth_back_inclusive_of r n).range) ≡ drop (n + 1) (reverse (frames_inclusive_of r))
  nth-back-inclusive-left =
      let x = accepted_frames r.start r.end e in
      rw (← nth-back-inclusive-settled r n e)
      (back-through-left (frames_inclusive_of r) (start r.start) (start r.end) (bytes r.start) 0 n x.some (omega arith))
