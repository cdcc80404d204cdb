-- Where a table is, as the code has it.
use Rattle.std.specs.Prelude.{ℕ}
use Rattle.std.specs.Prelude as std
use Rattle.std.proofs.Math.Option.{Option, none, some}

-- what each case of an answer stands for
abbrev pub place_of : std.Option ℕ → Option ℕ
place_of (std.Some p) = some p
place_of std.None = none
