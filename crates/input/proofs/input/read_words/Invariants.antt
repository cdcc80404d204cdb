-- The first `i` places have the file's first `i` words, and the others what they had.
use Rattle.std.proofs.Common.{◌≡◌, ◌++◌, drop}
use Rattle.input.specs.Input.{header_bytes, words_from}
use Rattle.input.proofs.input.read_words.Given as goal

abbrev pub invariant-loop-i : goal.invariant-loop-i
invariant-loop-i l = l.out ≡ words_from l.fn.bytes header_bytes l.i ++ drop l.i l.fn.out
