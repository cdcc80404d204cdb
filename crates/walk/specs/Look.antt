-- What the code reads of an entry, as one answer by cases.
use Rattle.std.specs.Prelude.{ℕ}
use Rattle.mapping.specs.Walk.{Entry, not_present, reserved_bit, maps, table}
use Rattle.walk.specs.declared.look.Look.{Look}
use Rattle.walk.specs.declared.look.Look.TheVariants as look

-- an entry with its own word, which has its rights
abbrev pub seen : ℕ → Entry → Look
seen v not_present = look.Absent
seen v reserved_bit = look.Reserved
seen v (maps g h) = look.Leaf g v
seen v (table a h) = look.Next a v
