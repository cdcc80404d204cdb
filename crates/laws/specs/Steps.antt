-- Steps over canonical addresses of the width `w`, by their low parts: they pass from the low half to the high one.
use Rattle.std.specs.Prelude.{ℕ, ◌+◌, ◌-◌, ◌^◌, ltb, leb}
use Rattle.answer.specs.Outcome.{Outcome, only_if}
use Rattle.laws.specs.Width.{low, sign_extend}

-- how many addresses there are; "Stepping is bounded by 2^57" (document 02, request Four)
abbrev pub address_count : ℕ → ℕ
address_count w = 2 ^ w

-- "`forward_checked_u64(s, n)` gives t exactly if low48(s) + n < 2^48: t canonical, low48(t) that sum."
unfoldable pub forward : ℕ → ℕ → ℕ → Outcome ℕ
forward w s n = only_if (ltb (low w s + n) (address_count w)) (sign_extend w (low w s + n))

-- "`backward_checked_u64` gives t exactly if low48(s) ≥ n."
unfoldable pub backward : ℕ → ℕ → ℕ → Outcome ℕ
backward w s n = only_if (leb n (low w s)) (sign_extend w (low w s - n))

-- "`steps_between_u64` is low48(end) − low48(start), or `None` if end is lower."
unfoldable pub steps : ℕ → ℕ → ℕ → Outcome ℕ
steps w s e = only_if (leb (low w s) (low w e)) (low w e - low w s)
