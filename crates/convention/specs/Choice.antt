-- "Level and page size are closed choices", and so is the width (document 02, request Four): here they are numbers, and one that is no choice has a status of its own, tried first.
use Rattle.std.specs.Prelude.{ℕ, ◌+◌, min, Bool, true, false, cond, List, ltb, eqb}
use Rattle.answer.specs.Outcome.{Outcome, unless}
use Rattle.table.specs.declared.level.PageTableLevel.{PageTableLevel}
use Rattle.table.specs.declared.level.PageTableLevel.TheVariants.{One, Two, Three, Four, Five}
use Rattle.table.specs.declared.size.PageSize.{PageSize}
use Rattle.table.specs.declared.size.PageSize.TheVariants.{Size4KiB, Size2MiB, Size1GiB}
use Rattle.addr.specs.declared.width.Width.{Width}
use Rattle.addr.specs.declared.width.Width.TheVariants.{Bits48, Bits57}
use Rattle.addr.specs.Widths.{levels_of}
use Rattle.page.specs.declared.pages.Pages.{Pages}
use Rattle.status.specs.Status.{no_such_choice}

-- 48 or 57 bits
unfoldable pub is_width : ℕ → Bool
is_width w = cond (eqb w 48) true (eqb w 57)

-- 1 up to the highest level that there is: 4 at 48 bits, 5 at 57
unfoldable pub is_level : (levels n : ℕ) → Bool
is_level levels n = cond (ltb 0 n) (ltb n (levels + 1)) false

-- 4 KiB, 2 MiB or 1 GiB
unfoldable pub is_size : ℕ → Bool
is_size z = cond (eqb z 0x1000) true (cond (eqb z 0x20_0000) true (eqb z 0x4000_0000))

-- refused unless the number is a choice; then what follows
abbrev pub at_width : ℕ → Outcome (List ℕ) → Outcome (List ℕ)
at_width w o = unless no_such_choice (is_width w) o

abbrev pub at_level : (levels n : ℕ) → Outcome (List ℕ) → Outcome (List ℕ)
at_level levels n o = unless no_such_choice (is_level levels n) o

abbrev pub of_size : ℕ → Outcome (List ℕ) → Outcome (List ℕ)
of_size z o = unless no_such_choice (is_size z) o

-- the width with so many bits, for a number that is a choice, and how many levels of tables it has
unfoldable pub width_with : ℕ → Width
width_with w = cond (eqb w 48) Bits48 Bits57

abbrev pub levels_with : ℕ → ℕ
levels_with w = levels_of (width_with w)

-- its pages
abbrev pub pages_at : Width → Pages
pages_at x = record { width = x }

-- the level with this number, for one that is a choice
unfoldable pub level_with : ℕ → PageTableLevel
level_with n = cond (eqb n 1) One (cond (eqb n 2) Two (cond (eqb n 3) Three (cond (eqb n 4) Four Five)))

-- the size with so many bytes, for a number that is a choice
unfoldable pub size_with : ℕ → PageSize
size_with z = cond (eqb z 0x1000) Size4KiB (cond (eqb z 0x20_0000) Size2MiB Size1GiB)

-- the 16-bit number that stands for an index or an offset handed in
abbrev pub saturate : ℕ → ℕ
saturate n = min n 65535
