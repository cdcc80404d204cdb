-- Alignment of a number, and what it answers.
use Rattle.std.specs.Prelude.{ℕ, ◌+◌, ◌-◌, ◌*◌, ◌/◌, ◌%◌, ◌^◌, Bool, ltb, eqb}
use Rattle.std.specs.Int.Count.{ones}
use Rattle.answer.specs.Outcome.{Outcome, gives, unless}
use Rattle.answer.specs.Refusal.{not_power_of_two, overflow}

-- "an alignment is a power of two exactly if just one of its bits is set" (`one_bit` of proofs/Align.antt)
abbrev pub power_of_two : ℕ → Bool
power_of_two n = eqb (ones n) 1

-- the greatest multiple of `n` that is not above `a` (`down-greatest`)
unfoldable pub down : ℕ → ℕ → ℕ
down n a = a / n * n

-- the least multiple of `n` that is not below `a` (`up_least`)
unfoldable pub up : ℕ → ℕ → ℕ
up n a = (a + (n - 1)) / n * n

-- what alignment of a number answers; document 01, "Addresses": "`align_down`, `align_up`: 4 if the alignment isn't a power of two"; 5 "if the number rounded up .. is 2^64".
abbrev pub align_down : ℕ → ℕ → Outcome ℕ
align_down a n = unless not_power_of_two (power_of_two n) (gives (down n a))

abbrev pub align_up : ℕ → ℕ → Outcome ℕ
align_up a n = unless not_power_of_two (power_of_two n) (unless overflow (ltb (up n a) (2 ^ 64)) (gives (up n a)))

-- whether the number is a multiple of the alignment; 4 as for the alignments
abbrev pub multiple_of : ℕ → ℕ → Outcome Bool
multiple_of a n = unless not_power_of_two (power_of_two n) (gives (eqb (a % n) 0))
