-- `pass_table` goes over the pages of a table, entry by entry.
use native.Mathlib.Omega.{arith}
use Rattle.walk.specs.Segments.{segments_of}
use Rattle.image.specs.Tables.{lent}
use Rattle.image.proofs.TableTurn.{at-first, bounded, ahead, within-end, finished, halted, passed, down-returns, down-passed}
use Rattle.image.proofs.tables.+pass_table.Goals as goal
use Rattle.image.proofs.tables.+pass_table.Goals.{then-below-eq1, else-below-eq1}

pub loop-at-init : goal.loop-at-init
loop-at-init t c =
    at-first (lent c.args.words.now c.args.segments.now c.args.reserved) c.args.level c.args.table c.args.from _ c.args.empty.now c.requires.upper c.requires.inside c.requires.going c.requires.bounded c.requires.known c.span_end-end.ensures

pub span_end-next-requires : goal.span_end-next-requires
span_end-next-requires t c = (omega arith, bounded c.loop-at.invariant c.loop-at-test.true)

pub step_at-requires-clause-bounded : goal.step_at-requires-clause-bounded
step_at-requires-clause-bounded t c = bounded c.loop-at.invariant c.loop-at-test.true

pub returns-in-Halt : goal.returns-in-Halt
returns-in-Halt t c = halted c.loop-at.invariant c.loop-at-test.true c.span_end-next.ensures c.in-Halt.ensures

pub pass_lowest-reached-requires-clause-bounded : goal.pass_lowest-reached-requires-clause-bounded
pass_lowest-reached-requires-clause-bounded t c = bounded c.loop-at.invariant c.loop-at-test.true

pub pass_table-reached-requires : goal.pass_table-reached-requires
pass_table-reached-requires t c =
    let turn = c.loop-at.invariant in
    let (same, lower) = c.in-Down.ensures in
    (omega (arith, c.decreases), (rw same turn.going, (turn.known, ((omega arith, omega arith), (bounded turn c.loop-at-test.true, (lower.inside, turn.inside.1))))))

pub returns-then-reached-next : goal.returns-then-reached-next
returns-then-reached-next t c =
    down-returns c.loop-at.invariant c.loop-at-test.true c.span_end-next.ensures c.in-Down.ensures
    (elim c.if-below-eq1.branch [
      | then-below-eq1 w ↦ rw (w.if-below-eq1.true, w.empty-is, w.progress-is, w.reached-is) (w.pass_lowest-reached.ensures (segments_of c.args.segments.now) c.loop-at.invariant.known)
      | else-below-eq1 w ↦ rw (w.empty-is, w.progress-is, w.reached-is) w.pass_table-reached.ensures
    ]) c.if-reached-next.true

pub loop-at-smaller-in-Pass : goal.loop-at-smaller-in-Pass
loop-at-smaller-in-Pass t c =
    omega (arith, ahead c.loop-at.invariant c.loop-at-test.true c.span_end-next.ensures, within-end c.loop-at.invariant c.loop-at-test.true c.span_end-next.ensures)

pub loop-at-preserved-in-Pass : goal.loop-at-preserved-in-Pass
loop-at-preserved-in-Pass t c = passed c.loop-at.invariant c.loop-at-test.true c.span_end-next.ensures c.in-Pass.ensures

pub loop-at-smaller : goal.loop-at-smaller
loop-at-smaller t c =
    omega (arith, ahead c.loop-at.invariant c.loop-at-test.true c.span_end-next.ensures, within-end c.loop-at.invariant c.loop-at-test.true c.span_end-next.ensures)

pub loop-at-preserved : goal.loop-at-preserved
loop-at-preserved t c =
    down-passed c.loop-at.invariant c.loop-at-test.true c.span_end-next.ensures c.in-Down.ensures
    (elim c.if-below-eq1.branch [
      | then-below-eq1 w ↦ rw (w.if-below-eq1.true, w.empty-is, w.progress-is, w.reached-is) (w.pass_lowest-reached.ensures (segments_of c.args.segments.now) c.loop-at.invariant.known)
      | else-below-eq1 w ↦ rw (w.empty-is, w.progress-is, w.reached-is) w.pass_table-reached.ensures
    ]) c.if-reached-next.false

pub returns : goal.returns
returns t c = finished c.loop-at.invariant c.loop-at-test.false c.is_unfound.ensures c.remember_whole.ensures
