-- What the code does at an entry above level 1.
use Rattle.std.specs.Prelude.{ℕ, ◌-◌, ◌≡◌}
use Rattle.mapping.specs.Walk.{Walked, walk}
use Rattle.paging.specs.Entry.{entry_by}
use Rattle.paging.specs.Memory.{table_from, table_in, Inside}
use Rattle.paging.specs.Packed.{rights_over}
use Rattle.walk.specs.Segments.{segments_of}
use Rattle.walk.specs.declared.memory.Tables.{Tables}
use Rattle.translation.specs.Walked.{walked_of}
use Rattle.translation.specs.declared.tables.Step.{Step}
use Rattle.translation.specs.declared.tables.Step.TheVariants as step

-- what the table of a level at a place says of page `x`, `r` the bits of all words above it
abbrev pub walk_at : Tables → (level place r x : ℕ) → Walked
walk_at t level p r x = walk (entry_by t.reserved) (table_in (segments_of t.segments.now) t.words.now) level (table_from t.words.now p) (rights_over r) x

-- that is what it answers; or the lower table says the same
abbrev pub Steps : Tables → (level place x r : ℕ) → Step → Type 0
Steps t level p x r (step.Decided w) = walked_of w ≡ walk_at t level p r x
Steps t level p x r (step.Down q s) = (walk_at t (level - 1) q s x ≡ walk_at t level p r x) × Inside (segments_of t.segments.now) t.words.now q
