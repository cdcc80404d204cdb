-- The frame numbers whose frames start below 2^52.
use Prim.Native.Nat.{ℕ, ◌*◌, ◌/◌, ◌^◌, ◌≤◌, ◌<◌}
use native.Mathlib.Omega.{arith}
use Rattle.std.proofs.lemmas.Bool.Decides.{nat_tests}
use Rattle.table.specs.Level.{bytes_of}
use Rattle.table.specs.declared.size.PageSize.{PageSize}
use Rattle.table.specs.declared.size.PageSize.TheVariants.{Size4KiB, Size2MiB, Size1GiB}

pub past-memory : (s : PageSize) (n : ℕ) → 2 ^ 52 / bytes_of s ≤ n → 2 ^ 52 ≤ n * bytes_of s
past-memory Size4KiB n h = omega arith
past-memory Size2MiB n h = omega arith
past-memory Size1GiB n h = omega arith

pub within-memory : (s : PageSize) (n : ℕ) → n < 2 ^ 52 / bytes_of s → n * bytes_of s < 2 ^ 52
within-memory Size4KiB n h = omega arith
within-memory Size2MiB n h = omega arith
within-memory Size1GiB n h = omega arith

pub ruleset numbers = (nat_tests, past-memory, within-memory)
