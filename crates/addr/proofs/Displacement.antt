-- The laws of displacements, at the two widths.
use Rattle.laws.specs.Displacement.{Displaced, Returns, AsCount}
use Rattle.laws.proofs.Displacement as laws
use Rattle.addr.specs.declared.width.Width.{Width}
use Rattle.addr.specs.Widths.{width_of}
use Rattle.addr.proofs.Widths.{widths}

pub displaced : (x : Width) → Displaced (width_of x)
displaced x = laws.displaced (width_of x) (widths x)

pub returns : (x : Width) → Returns (width_of x)
returns x = laws.returns (width_of x) (widths x)

pub as-count : (x : Width) → AsCount (width_of x)
as-count x = laws.as-count (width_of x) (widths x)
