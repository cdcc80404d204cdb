-- The lines so far fill no more than their room.
use Rattle.std.proofs.Common.{◌*◌, ◌≤◌}
use Rattle.arrayvec.specs.ArrayVec.{array_vec_len}
use Rattle.listing.specs.Text.{line_bytes}
use Rattle.runs.proofs.put_answers.Given as goal

abbrev pub invariant-loop-answer : goal.invariant-loop-answer
invariant-loop-answer l = array_vec_len l.out ≤ l.answer-index * line_bytes
