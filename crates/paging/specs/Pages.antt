-- The pages of one table, as the search goes over them.
use Rattle.std.specs.Prelude.{ℕ, ◌+◌, ◌-◌, ◌*◌, ◌≤◌, ◌<◌, ◌≡◌, List, get_or}
use Rattle.std.proofs.Math.Option.{Option}
use Rattle.std.specs.Int.Bits.{bit_and}
use Rattle.mapping.specs.Pages.{Rights, PageState}
use Rattle.mapping.specs.Pass.{Progress}
use Rattle.mapping.specs.Walk.{Walked, walk, state_of}
use Rattle.paging.specs.Entry.{entry_by}
use Rattle.paging.specs.Memory.{table_from}
use Rattle.paging.specs.Packed.{rights_over}
use Rattle.paging.specs.Progress.{Passes}
use Rattle.paging.specs.Span.{after}

-- the pages by the table `t` of a level, `r` the rights above it
abbrev pub pages_by : (mask : ℕ) (memory : ℕ → Option (List ℕ)) → (level : ℕ) → List ℕ → Rights → ℕ → PageState
pages_by mask memory level t r x = state_of (walk (entry_by mask) memory level t r x)

-- what the table of level 1 at a place says of page `x`, whatever the memory: it names no table
abbrev pub PageIn : (mask : ℕ) → List ℕ → (p all x : ℕ) → Walked → Type 0
PageIn mask words p all x s = (memory : ℕ → Option (List ℕ)) → s ≡ walk (entry_by mask) memory 1 (table_from words p) (rights_over all) x

-- from entry `i` up to entry `e` each word is, by the mask, the first and so many steps more, and those behind the first have no reserved bit
pub record Alike (t : List ℕ) (i mask step reserved e : ℕ) : Type 0 where
  pub later : i < e
  pub at_most : e ≤ 512
  pub grows : (j : ℕ) → i ≤ j → j < e → bit_and (get_or t j 0) mask ≡ bit_and (get_or t i 0) mask + (j - i) * step
  pub clear : (j : ℕ) → i < j → j < e → bit_and (get_or t j 0) reserved ≡ 0

-- the code went over the pages of a table of level 1, from page `a` on
abbrev pub PassesPages : (mask : ℕ) → (t : List ℕ) → (all a : ℕ) → (before later : Progress) → ℕ → Type 0
PassesPages mask t all a before later r = (memory : ℕ → Option (List ℕ)) → Passes (pages_by mask memory 1 t (rights_over all)) a (after 1 a) before later r
