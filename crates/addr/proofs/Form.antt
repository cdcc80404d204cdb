-- The laws of canonical numbers, at the two widths.
use Rattle.laws.specs.Form.{CanonicalForm}
use Rattle.laws.proofs.Form as laws
use Rattle.addr.specs.declared.width.Width.{Width}
use Rattle.addr.specs.Widths.{width_of}
use Rattle.addr.proofs.Widths.{widths}

pub canonical-form : (x : Width) → CanonicalForm (width_of x)
canonical-form x = laws.canonical-form (width_of x) (widths x)
