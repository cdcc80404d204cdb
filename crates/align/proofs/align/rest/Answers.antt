-- `rest` meets its contract.
use borrow.Author.Tests.{eqb-true}
use Rattle.laws.proofs.Align.{one-bit-pos, one-bit-mask}
use Rattle.align.proofs.align.rest.Goals as goal

pub overflow_sub-result : goal.overflow_sub-result
overflow_sub-result c = one-bit-pos _ (eqb-true _ _ c.requires)

pub returns : goal.returns
returns c = one-bit-mask _ _ (eqb-true _ _ c.requires)
