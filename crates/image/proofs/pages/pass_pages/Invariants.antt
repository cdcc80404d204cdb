-- The loop of `pass_pages`: the pages before the word `i` are passed.
use Prim.Native.Nat.{◌-◌}
use Rattle.found.specs.Progress.{progress_of}
use Rattle.image.proofs.PagesTurn.{PassedTo}
use Rattle.image.proofs.pages.pass_pages.Given as goal

abbrev pub invariant-loop-i : goal.invariant-loop-i
invariant-loop-i l = PassedTo l.reserved l.rights l.from l.table (progress_of l.fn.progress) (progress_of l.progress) l.i

abbrev pub decreases-loop-i : goal.decreases-loop-i
decreases-loop-i l = 512 - l.i
