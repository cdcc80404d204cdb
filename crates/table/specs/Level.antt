-- Levels and page sizes. "Level and page size are closed choices."
use Rattle.std.specs.Prelude.{ℕ, ◌+◌, ◌-◌, ◌^◌, ltb}
use Rattle.answer.specs.Outcome.{Outcome, only_if}
use Rattle.table.specs.declared.level.PageTableLevel.{PageTableLevel}
use Rattle.table.specs.declared.level.PageTableLevel.TheVariants.{One, Two, Three, Four, Five}
use Rattle.table.specs.declared.size.PageSize.{PageSize}
use Rattle.table.specs.declared.size.PageSize.TheVariants.{Size4KiB, Size2MiB, Size1GiB}

-- "level 1 to 4"; document 02, request Four: "level 5"
abbrev pub level_of : PageTableLevel → ℕ
level_of One = 1
level_of Two = 2
level_of Three = 3
level_of Four = 4
level_of Five = 5

-- the next level, where there is one: the lowest is 1, the highest `top`
abbrev pub lower : ℕ → Outcome ℕ
lower l = only_if (ltb 1 l) (l - 1)

abbrev pub higher : ℕ → ℕ → Outcome ℕ
higher top l = only_if (ltb l top) (l + 1)

-- 4 KiB, 2 MiB and 1 GiB, as powers of two
abbrev pub power_of : PageSize → ℕ
power_of Size4KiB = 12
power_of Size2MiB = 21
power_of Size1GiB = 30

abbrev pub bytes_of : PageSize → ℕ
bytes_of s = 2 ^ power_of s
