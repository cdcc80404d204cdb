-- What `table_place` keeps: the place is that in the segments ahead, from the words behind.
use Rattle.std.proofs.Common.{◌≡◌, ◌≤◌}
use Rattle.paging.specs.Memory.{place_from, reaching}
use Rattle.walk.specs.Segments.{segments_of}
use Rattle.walk.proofs.Segments.{behind}
use Rattle.walk.proofs.memory.table_place.Given as goal

abbrev pub invariant-loop-segment : goal.invariant-loop-segment
invariant-loop-segment l = record {
  place : place_from 0 (reaching l.lent (segments_of l.segments)) l.table ≡ place_from l.first (behind l.lent l.first l.segments l.segment-index) l.table;
  lent : l.first ≤ l.lent;
}
