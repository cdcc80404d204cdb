-- How much the program prints at most.
use Rattle.std.specs.Prelude.{ℕ, ◌+◌, ◌*◌}
use Rattle.listing.specs.Text.{line_bytes}

-- "After 4,096 lines": so many runs and stops
abbrev pub most_lines : ℕ
most_lines = 4096

-- all lines, with the last one
abbrev pub output_bytes : ℕ
output_bytes = (most_lines + 1) * line_bytes
