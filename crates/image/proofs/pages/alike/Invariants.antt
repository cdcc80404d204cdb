-- The loop of `alike`: the words before `i` are alike, and `due` is what the last of them is by the mask.
use Prim.Native.Nat.{◌+◌, ◌-◌, ◌*◌}
use mathlib.Core.Path.{◌≡◌}
use lib.Bits.{bit_and}
use lib.ListN.{get_or}
use Rattle.paging.specs.Pages.{Alike}
use Rattle.image.proofs.pages.alike.Given as goal

abbrev pub invariant-loop-i : goal.invariant-loop-i
invariant-loop-i l = record {
  passed : Alike l.table l.from l.mask l.step l.reserved l.i;
  last : l.due ≡ bit_and (get_or l.table l.from 0) l.mask + (l.i - l.from - 1) * l.step;
}
