-- The laws of steps, at the two widths.
use Rattle.laws.specs.Stepping.{Stepping}
use Rattle.laws.proofs.Steps as laws
use Rattle.addr.specs.declared.width.Width.{Width}
use Rattle.addr.specs.Widths.{width_of}
use Rattle.addr.proofs.Widths.{widths}

pub stepping : (x : Width) → Stepping (width_of x)
stepping x = laws.stepping (width_of x) (widths x)
