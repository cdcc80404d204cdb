-- `forget` clears the bytes: those before the index are zero.
use Rattle.std.proofs.Common.{◌≡◌, take, replicate}
use Rattle.empty_tables.proofs.empty_tables.forget.Given as goal

abbrev pub invariant-loop-byte : goal.invariant-loop-byte
invariant-loop-byte l = take l.byte-index l.bytes ≡ replicate l.byte-index 0
