-- `padding` meets its contract.
use native.Mathlib.Omega.{arith}
use native.Mathlib.Nat.{mod-lt, mod-le}
use borrow.Author.Tests.{eqb-true}
use Rattle.laws.proofs.Align.{one-bit-pos, up-exact, up_rest}
use Rattle.align.proofs.align.padding.Goals as goal

pub overflow_sub-result : goal.overflow_sub-result
overflow_sub-result c =
    let l = mod-lt c.args.addr (one-bit-pos _ (eqb-true _ _ c.requires)) in
    omega (arith, c.rest-past.ensures)

pub returns-then-past-eq0 : goal.returns-then-past-eq0
returns-then-past-eq0 c =
    let b = c in
    omega (arith, c.rest-past.ensures, up-exact b.args.align b.args.addr (one-bit-pos _ (eqb-true _ _ b.requires)) (omega (arith, c.rest-past.ensures)))

pub returns-else-past-eq0 : goal.returns-else-past-eq0
returns-else-past-eq0 c =
    let b = c in
    let p = one-bit-pos _ (eqb-true _ _ b.requires) in
    omega (arith, c.rest-past.ensures, mod-lt b.args.addr p, mod-le b.args.addr b.args.align, up_rest b.args.align b.args.addr p (omega (arith, c.rest-past.ensures)))
