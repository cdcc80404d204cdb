-- `pass_rest` goes over the pages below the root.
use mathlib.Core.Path.{◌∙◌}
use native.Mathlib.Omega.{arith}
use Rattle.image.proofs.RootTurn.{none-left, of-table}
use Rattle.image.proofs.lowest.pass_rest.Goals as goal

pub returns-then-from-page_count : goal.returns-then-from-page_count
returns-then-from-page_count c = none-left (c.if-from-page_count.true ∙ c.page_count.ensures) c.requires.going c.requires.known

pub returns : goal.returns
returns c = of-table c.levels.ensures (omega (arith, c.requires.bounded, c.page_count.ensures, c.if-from-page_count.false)) c.pass_table.ensures
