-- What the calls on addresses answer. The sentences are those of document 01, "Addresses".
use Rattle.std.specs.Prelude.{ℕ, ◌+◌, ◌-◌, ◌^◌, Bool, ltb, leb, eqb, ℤ, pos, negsuc, ◌+ℤ◌}
use Rattle.answer.specs.Outcome.{Outcome, gives, refuses, unless, only_if, and_then}
use Rattle.answer.specs.Refusal.{not_canonical, not_physical, not_power_of_two, overflow, result_not_canonical, result_not_physical}
use Rattle.laws.specs.Width.{low, canonical, sign_extend}
use Rattle.laws.specs.Steps.{forward, backward, steps}
use Rattle.laws.specs.Align.{power_of_two, up, align_down, align_up, multiple_of}
use Rattle.laws.specs.Index.{index, offset}

-- which numbers are addresses, the refusals of an argument and of a result that is none, and how many of them are below one, its position, by which the lengths of ranges are counted
pub record Addresses : Type 0 where
  pub holds : ℕ → Bool
  pub argument : ℕ
  pub result : ℕ
  pub position : ℕ → ℕ

-- "1 a virtual number not canonical"; "6 if the virtual result isn't canonical"; "steps by low48" (document 02, request Three)
abbrev pub virt : ℕ → Addresses
virt w = record { holds = canonical w; argument = not_canonical; result = result_not_canonical; position = low w }

-- "2 a physical number of 2^52 or more"; "8 if the physical one is 2^52 or more"; there is no gap, and the position is the number
abbrev pub phys : ℕ → Addresses
phys w = record { holds = λ a. ltb a (2 ^ w); argument = not_physical; result = result_not_physical; position = λ a. a }

-- how many physical addresses there are
abbrev pub phys_size : ℕ
phys_size = 2 ^ 52

-- "An argument that is no address .. is refused first, in argument order"; then what follows
abbrev pub given : {A : Type 0} → Addresses → ℕ → Outcome A → Outcome A
given s a o = unless s.argument (s.holds a) o

-- "`try_new`: 1, or 2 for physical"; a number handed back as it is
abbrev pub address : Addresses → ℕ → Outcome ℕ
address s a = given s a (gives a)

-- a number that a call comes to: "6 if the virtual result isn't canonical, 8 if the physical one is 2^52 or more"
abbrev pub resulting : Addresses → ℕ → Outcome ℕ
resulting s n = unless s.result (s.holds n) (gives n)

abbrev pub is_null : Addresses → ℕ → Outcome Bool
is_null s a = given s a (gives (eqb a 0))

-- whether the address is a multiple of the alignment; 4 as for the alignments
abbrev pub is_aligned : Addresses → ℕ → ℕ → Outcome Bool
is_aligned s a n = given s a (multiple_of a n)

-- "`+` and `-` with a count: 5 beyond 64 bits or below zero; then 6 .., 8 .."
abbrev pub sum : Addresses → ℕ → ℕ → Outcome ℕ
sum s a n = unless overflow (ltb (a + n) (2 ^ 64)) (resulting s (a + n))

abbrev pub difference : Addresses → ℕ → ℕ → Outcome ℕ
difference s a n = unless overflow (leb n a) (resulting s (a - n))

abbrev pub plus : Addresses → ℕ → ℕ → Outcome ℕ
plus s a n = given s a (sum s a n)

abbrev pub minus : Addresses → ℕ → ℕ → Outcome ℕ
minus s a n = given s a (difference s a n)

-- an integer that a call comes to, where `negsuc n` is −(n + 1): "5 if the sum goes below zero or past 64 bits, then 6 if it isn't canonical. Otherwise the answer is the exact
-- whole-number sum" (document 02, request Two)
abbrev pub resulting_integer : Addresses → ℤ → Outcome ℕ
resulting_integer s (pos n) = unless overflow (ltb n (2 ^ 64)) (resulting s n)
resulting_integer s (negsuc n) = refuses overflow

-- "The displacement is a signed 32-bit number, added to a canonical address" (document 02, request Two): the sum is one of integers
abbrev pub plus_signed : Addresses → ℕ → ℤ → Outcome ℕ
plus_signed s a d = given s a (resulting_integer s (pos a +ℤ d))

-- "Address minus address: 5 below zero."
abbrev pub distance : Addresses → ℕ → ℕ → Outcome ℕ
distance s a b = given s a (given s b (unless overflow (leb b a) (gives (a - b))))

-- "Virtual results are sign-extended as in the source"; 5 is tried "before sign extension"
abbrev pub align_down_virt : ℕ → ℕ → ℕ → Outcome ℕ
align_down_virt w a n = given (virt w) a (and_then (align_down a n) (λ x. gives (sign_extend w x)))

abbrev pub align_up_virt : ℕ → ℕ → ℕ → Outcome ℕ
align_up_virt w a n = given (virt w) a (and_then (align_up a n) (λ x. gives (sign_extend w x)))

abbrev pub align_down_phys : ℕ → ℕ → ℕ → Outcome ℕ
align_down_phys w a n = given (phys w) a (align_down a n)

-- "Physical `align_up` refuses 8 at 2^52 or more."
abbrev pub align_up_phys : ℕ → ℕ → ℕ → Outcome ℕ
align_up_phys w a n =
    given (phys w) a
    (unless not_power_of_two (power_of_two n)
    (unless result_not_physical (ltb (up n a) (2 ^ w))
    (gives (up n a))))

-- steps and distances by the low parts, from addresses
abbrev pub forward_from : ℕ → ℕ → ℕ → Outcome ℕ
forward_from w s n = given (virt w) s (forward w s n)

abbrev pub backward_from : ℕ → ℕ → ℕ → Outcome ℕ
backward_from w s n = given (virt w) s (backward w s n)

abbrev pub steps_between : ℕ → ℕ → ℕ → Outcome ℕ
steps_between w s e = given (virt w) s (given (virt w) e (steps w s e))

-- "the offset is bits 0 to 11"; "The index at a level is nine bits from bit 12 + 9 × (level − 1)"
abbrev pub page_offset : ℕ → ℕ → Outcome ℕ
page_offset w a = given (virt w) a (gives (offset a))

abbrev pub table_index : ℕ → ℕ → ℕ → Outcome ℕ
table_index w a l = given (virt w) a (gives (index l a))

-- the same of any level, at a width with so many: "level 5 has its nine bits from bit 48" (document 02, request Four), and a width without it has no such index
abbrev pub level_index : (w levels a l : ℕ) → Outcome ℕ
level_index w levels a l = given (virt w) a (only_if (leb l levels) (index l a))
