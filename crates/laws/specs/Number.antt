-- Pages by their numbers, over the width `w` and the page's size: page `n` is the one whose address is n sizes from 0 in steps.
use Rattle.std.specs.Prelude.{ℕ, ◌*◌, ◌/◌}
use Rattle.laws.specs.Width.{low, sign_extend}

-- the number of the page of size `z` that an address is in
abbrev pub number : ℕ → ℕ → ℕ → ℕ
number w z a = low w a / z

-- the start of the page with a number
abbrev pub start : ℕ → ℕ → ℕ → ℕ
start w z n = sign_extend w (n * z)
