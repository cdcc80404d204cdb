-- The loop of `list_from`: so many answers are written, and the bytes are true.
use Prim.Native.Nat.{◌*◌}
use Rattle.addr.specs.Widths.{width_of, levels_of}
use Rattle.paging.proofs.ListTurns.{Turn}
use Rattle.image.specs.Tables.{TrueFor, lent, pages_below}
use Rattle.image.proofs.list_searches.list_from.Given as goal

abbrev pub invariant-loop-written : goal.invariant-loop-written
invariant-loop-written l = record {
  turn : Turn (width_of l.width) (pages_below (lent l.words l.segments l.reserved) (levels_of l.width) l.root) l.page l.fn.out l.out l.at l.written (l.written * 5);
  known : TrueFor (lent l.words l.segments l.reserved) l.empty;
}
