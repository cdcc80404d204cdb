-- Entries of level 5: "level-5 entries follow the rules for level 4" (document 02, request Four).
use Rattle.std.specs.Prelude.{ℕ, ◌≡◌, Bool}
use Rattle.paging.specs.Entry.{entry, entry_by}

-- whatever the processor reserves
abbrev pub AsLevel4 : Type 0
AsLevel4 = ((w : ℕ) (no_execute : Bool) (v : ℕ) → entry w no_execute 5 v ≡ entry w no_execute 4 v) × ((mask v : ℕ) → entry_by mask 5 v ≡ entry_by mask 4 v)
