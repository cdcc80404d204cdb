-- What a call's result stands for: the value, no such item, or the number of the refusal.
use Rattle.std.specs.Prelude.{ℕ, Bool, Option, Result, Ok, Err, Some, None}
use Rattle.std.proofs.Math.Option as math
use Rattle.answer.specs.Outcome.{Outcome, gives, none, refuses}
use Rattle.answer.specs.Refusal as number
use Rattle.answer.specs.declared.refusal.Refusal.{Refusal}
use Rattle.answer.specs.declared.refusal.Refusal.TheVariants as refusal

abbrev pub number_of : Refusal → ℕ
number_of refusal.NotCanonical = number.not_canonical
number_of refusal.NotPhysical = number.not_physical
number_of refusal.NotAligned = number.not_aligned
number_of refusal.NotPowerOfTwo = number.not_power_of_two
number_of refusal.Overflow = number.overflow
number_of refusal.ResultNotCanonical = number.result_not_canonical
number_of refusal.SizesDiffer = number.sizes_differ
number_of refusal.ResultNotPhysical = number.result_not_physical
number_of refusal.IndexTooLarge = number.index_too_large
number_of refusal.DrawMeetsGap = number.draw_meets_gap
number_of refusal.PfnTooLarge = number.pfn_too_large
number_of refusal.WrongFile = number.wrong_file
number_of refusal.RootOutside = number.root_outside

-- a value, read by `f`, or a refusal
abbrev pub outcome_of : {A B : Type 0} → (A → B) → Result A Refusal → Outcome B
outcome_of f (Ok x) = gives (f x)
outcome_of f (Err r) = refuses (number_of r)

-- a value, read by `f`, no such item, or a refusal
abbrev pub optional_of : {A B : Type 0} → (A → B) → Result (Option A) Refusal → Outcome B
optional_of f (Ok (Some x)) = gives (f x)
optional_of f (Ok None) = none
optional_of f (Err r) = refuses (number_of r)

-- the number of the refusal, 0 for none
abbrev pub refusal_of : {A : Type 0} → Result A Refusal → ℕ
refusal_of (Ok x) = 0
refusal_of (Err r) = number_of r

abbrev pub u64_of : Result ℕ Refusal → Outcome ℕ
u64_of = outcome_of (λ n. n)

abbrev pub bool_of : Result Bool Refusal → Outcome Bool
bool_of = outcome_of (λ b. b)

abbrev pub steps_of : Result (Option ℕ) Refusal → Outcome ℕ
steps_of = optional_of (λ n. n)

-- an item or none, as the definitions have it
abbrev pub option_of : {A : Type 0} → Option A → math.Option A
option_of (Some x) = math.some x
option_of None = math.none
