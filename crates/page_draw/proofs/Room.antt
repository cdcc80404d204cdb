-- There is room for two pages of any size in a half, and above its first page.
use Prim.Native.Nat.{◌+◌, ◌-◌, ◌^◌, ◌≤◌, ◌<◌}
use native.Mathlib.Omega.{arith}
use lib.Pow.{pow_mono}
use Rattle.laws.specs.Width.{half, first_high}
use Rattle.laws.proofs.Width.{sizes}
use Rattle.table.specs.Level.{bytes_of}
use Rattle.table.specs.declared.size.PageSize.{PageSize}
use Rattle.table.proofs.Sizes.{bytes_within}
use Rattle.addr.specs.Widths.{width_of}
use Rattle.addr.specs.declared.width.Width.{Width}
use Rattle.addr.proofs.Widths.{widths, wide}

module _ (v : Width) (s : PageSize) where
  large : 2 ^ 47 ≤ half (width_of v)
  large = pow_mono {i = 47} {j = width_of v - 1} (omega (arith, wide v))

  pub low_room : bytes_of s + bytes_of s ≤ half (width_of v)
  low_room = omega (arith, bytes_within s, large)

  pub high_room : first_high (width_of v) + bytes_of s < 2 ^ 64
  high_room = omega (arith, bytes_within s, large, sizes (width_of v) (widths v))
