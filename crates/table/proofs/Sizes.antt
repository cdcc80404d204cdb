-- The bounds of a page size.
use Prim.Native.Nat.{ℕ, ◌*◌, ◌/◌, ◌^◌, ◌≤◌, ◌<◌}
use native.Mathlib.Omega.{arith}
use lib.Dec.{lit≤}
use Rattle.table.specs.Level.{power_of, bytes_of}
use Rattle.table.specs.declared.size.PageSize.{PageSize}
use Rattle.table.specs.declared.size.PageSize.TheVariants.{Size4KiB, Size2MiB, Size1GiB}

pub record Bounds (s : PageSize) : Type 0 where
  pub above : 12 ≤ power_of s
  pub below : power_of s ≤ 30

pub bounds : (s : PageSize) → Bounds s
bounds Size4KiB = record { above = lit≤ tt; below = lit≤ tt }
bounds Size2MiB = record { above = lit≤ tt; below = lit≤ tt }
bounds Size1GiB = record { above = lit≤ tt; below = lit≤ tt }

pub bytes_within : (s : PageSize) → (0 < bytes_of s) × (bytes_of s ≤ 2 ^ 30)
bytes_within Size4KiB = (lit≤ tt, lit≤ tt)
bytes_within Size2MiB = (lit≤ tt, lit≤ tt)
bytes_within Size1GiB = (lit≤ tt, lit≤ tt)

-- more pages than have room in 64 bits, and no more
pub past_count : (s : PageSize) (n : ℕ) → 18446744073709551615 / bytes_of s < n → 2 ^ 64 ≤ n * bytes_of s
past_count Size4KiB n h = omega arith
past_count Size2MiB n h = omega arith
past_count Size1GiB n h = omega arith

pub within_count : (s : PageSize) (n : ℕ) → n ≤ 18446744073709551615 / bytes_of s → n * bytes_of s < 2 ^ 64
within_count Size4KiB n h = omega arith
within_count Size2MiB n h = omega arith
within_count Size1GiB n h = omega arith
