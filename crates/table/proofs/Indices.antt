-- The laws of indices, as the proofs of the code cite them.
use Rattle.laws.proofs.Index.{span_pos, index-lt, masked-index}

pub ruleset indices = (span_pos, index-lt, masked-index)
