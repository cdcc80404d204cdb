-- The numbers of the refusals, as document 01 gives them. A number is never given to anything else.
use Rattle.std.specs.Prelude.{ℕ}

-- "1 a virtual number not canonical"
abbrev pub not_canonical : ℕ
not_canonical = 1

-- "2 a physical number of 2^52 or more"
abbrev pub not_physical : ℕ
not_physical = 2

-- "3 a start that is no multiple of its page size"
abbrev pub not_aligned : ℕ
not_aligned = 3

-- "4 if the alignment isn't a power of two"
abbrev pub not_power_of_two : ℕ
not_power_of_two = 4

-- "5 beyond 64 bits or below zero"
abbrev pub overflow : ℕ
overflow = 5

-- "6 if the virtual result isn't canonical"
abbrev pub result_not_canonical : ℕ
result_not_canonical = 6

-- "7 if sizes differ"
abbrev pub sizes_differ : ℕ
sizes_differ = 7

-- "8 if the physical one is 2^52 or more"
abbrev pub result_not_physical : ℕ
result_not_physical = 8

-- "9 an index of 512 or more"; "or an offset of 4,096 or more"
abbrev pub index_too_large : ℕ
index_too_large = 9

-- "Page draws: 10."
abbrev pub draw_meets_gap : ℕ
draw_meets_gap = 10

-- "Frame draws: 11 if a start or end would leave 0 to 2^52 − 1."
abbrev pub draw_leaves_memory : ℕ
draw_leaves_memory = 11

-- "`try_from_pfn`: 12 exactly if number × size ≥ 2^52"
abbrev pub pfn_too_large : ℕ
pfn_too_large = 12

-- "`refused 13` if the version, N or file length is wrong"
abbrev pub wrong_file : ℕ
wrong_file = 13

-- "then 14 if the root's 512 words aren't wholly inside"
abbrev pub root_outside : ℕ
root_outside = 14
