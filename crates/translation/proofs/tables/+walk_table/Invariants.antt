-- `walk_table` ends: each call is for the level below.
use Rattle.translation.proofs.tables.+walk_table.Given as goal

abbrev pub decreases-walk_table : goal.decreases-walk_table
decreases-walk_table l = l.level
