-- `lowest_table` tells the table of level 1 that a page is under.
use Rattle.image.proofs.LowestTurn.{next-down, lowest}
use Rattle.image.proofs.Under.{lower-under}
use Rattle.image.proofs.lowest.lowest_table.Goals as goal

pub loop-below-preserved : goal.loop-below-preserved
loop-below-preserved c =
    next-down c.loop-below.invariant c.loop-below-test.true (rw c.allows.ensures (lower-under _ c.in-Next.ensures c.loop-below.invariant.inside c.in_ok-table_place.ensures))

pub returns : goal.returns
returns c = lowest c.loop-below.invariant c.loop-below-test.false
