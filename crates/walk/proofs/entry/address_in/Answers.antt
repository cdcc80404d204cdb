-- `address_in` meets its contract.
use lib.Bits.{and_high}
use Rattle.walk.proofs.entry.address_in.Goals as goal

pub returns : goal.returns
returns c = and_high c.args.word 40 12
