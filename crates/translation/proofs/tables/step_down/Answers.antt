-- `step_down` meets its contract.
use Rattle.std.proofs.Common.{arith}
use Rattle.translation.proofs.Entries.{frame_fits}
use Rattle.translation.proofs.tables.step_down.Goals as goal

pub overflow_add-result : goal.overflow_add-result
overflow_add-result c =
    let a = c.args in
    let n = c.in-Leaf in
    omega (arith, frame_fits a.tables.now a.place a.level a.page a.rights c.requires.0 n.first n.word n.ensures c.within_span.result c.within_span.ensures)
