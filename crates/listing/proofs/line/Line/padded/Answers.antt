-- `padded` meets its contract.
use Rattle.std.proofs.lemmas.List.{drop-replicate}
use Rattle.listing.proofs.line.Line.padded.Goals as goal

pub returns : goal.returns
returns c = simp drop-replicate (rw (c.copy_from_slice.ensures.after, c.as_bytes-text.ensures.value))
