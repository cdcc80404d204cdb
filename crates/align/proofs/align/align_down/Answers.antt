-- `align_down` meets its contract.
use native.Mathlib.Omega.{arith}
use native.Mathlib.Nat.{mod-le}
use Rattle.std.proofs.Common.{sym}
use Rattle.laws.proofs.Align.{down-rest}
use Rattle.align.proofs.align.align_down.Goals as goal

pub overflow_sub-result : goal.overflow_sub-result
overflow_sub-result c =
    omega (arith, c.rest.ensures, mod-le c.args.addr c.args.align)

pub returns : goal.returns
returns c = simp (sym c.if-not-is_power_of_two.ensures, c.rest.ensures, down-rest)
