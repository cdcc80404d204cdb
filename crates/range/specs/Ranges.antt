-- What the calls on ranges in code stand for.
use Rattle.std.specs.Prelude.{ℕ, Option, Result}
use Rattle.answer.specs.Outcome.{Outcome}
use Rattle.answer.specs.Answers.{optional_of}
use Rattle.answer.specs.declared.refusal.Refusal.{Refusal}
use Rattle.laws.specs.Address.{Addresses}
use Rattle.laws.specs.Kind.{Kind, GuardedDraw, RangeDraw, drawn}
use Rattle.laws.specs.Range.{Ends, ends}
use Rattle.range.specs.declared.range.Range.{Range}
use Rattle.range.specs.declared.range_inclusive.RangeInclusive.{RangeInclusive}

-- a range without its end, and one with it
abbrev pub made : {T : Type 0} → T → T → Range T
made x y = record { start = x; end = y }

abbrev pub made_inclusive : {T : Type 0} → T → T → RangeInclusive T
made_inclusive x y = record { start = x; end = y }

-- a range as its first item and its end
abbrev pub ends_of : {T : Type 0} → Kind T → Range T → Ends
ends_of k r = ends (k.item r.start) (k.item r.end)

abbrev pub ends_inclusive_of : {T : Type 0} → Kind T → RangeInclusive T → Ends
ends_inclusive_of k r = ends (k.item r.start) (k.item r.end)

-- what the call `f` of the space `s` answers of the range from `x` to `y`
abbrev pub of_ends : {T : Type 0} → Kind T → Addresses → (Addresses → ℕ → ℕ → ℕ → ℕ → Outcome ℕ) → T → T → Outcome ℕ
of_ends k s f x y = f s (k.item x).start (k.item x).bytes (k.item y).start (k.item y).bytes

-- the answer of a draw, and the range left
abbrev pub answered : {T R : Type 0} → Kind T → Result (Option T) Refusal → R → RangeDraw R
answered k r range = record { answer = optional_of k.item r; range = range }

-- draws of the one at n, by the draws `g` on the numbers
abbrev pub nth_of : {T : Type 0} → Kind T → (ℕ → ℕ → ℕ → ℕ → ℕ → GuardedDraw) → Range T → ℕ → RangeDraw (Range T)
nth_of k g r n = drawn k made r.start r.end (g (k.item r.start).start (k.item r.start).bytes (k.item r.end).start (k.item r.end).bytes n)

abbrev pub nth_inclusive_of : {T : Type 0} → Kind T → (ℕ → ℕ → ℕ → ℕ → ℕ → GuardedDraw) → RangeInclusive T → ℕ → RangeDraw (RangeInclusive T)
nth_inclusive_of k g r n = drawn k made_inclusive r.start r.end (g (k.item r.start).start (k.item r.start).bytes (k.item r.end).start (k.item r.end).bytes n)
