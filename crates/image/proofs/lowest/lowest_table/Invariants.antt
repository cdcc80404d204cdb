-- The loop of `lowest_table`: the walk has come to a table of the level that the last entry was above.
use Rattle.image.specs.Tables.{lent}
use Rattle.image.proofs.LowestTurn.{CameTo}
use Rattle.image.proofs.lowest.lowest_table.Given as goal

abbrev pub invariant-loop-below : goal.invariant-loop-below
invariant-loop-below l = CameTo (lent l.words l.segments l.reserved) l.level l.root l.page l.below l.table
