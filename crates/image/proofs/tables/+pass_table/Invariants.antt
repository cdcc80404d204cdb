-- `pass_table`: the pages before page `at` are passed, and lower tables are of a lower level.
use Prim.Native.Nat.{◌-◌}
use Rattle.found.specs.Progress.{progress_of}
use Rattle.image.specs.Tables.{lent}
use Rattle.image.proofs.TableTurn.{PassedTo}
use Rattle.image.proofs.tables.+pass_table.Given as goal

abbrev pub decreases-pass_table : goal.decreases-pass_table
decreases-pass_table l = l.level

abbrev pub invariant-loop-at : goal.invariant-loop-at
invariant-loop-at l = PassedTo (lent l.words l.segments l.reserved) l.level l.below l.table l.from l.end (progress_of l.fn.progress) l.at (progress_of l.progress) l.empty

abbrev pub decreases-loop-at : goal.decreases-loop-at
decreases-loop-at l = l.end - l.at
