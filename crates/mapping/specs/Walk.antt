-- The walk over tables, level by level, for any number of levels. `entry l v` is what the word `v` says in a table of level `l`; `memory a` is the 512 words of the table
-- at the physical address `a`, none where they are not wholly inside. The sentences are those of document 01, "Translation and mapped runs".
use Rattle.std.specs.Prelude.{ℕ, zero, suc, ◌+◌, ◌-◌, ◌*◌, ◌/◌, ◌%◌, ◌^◌, ◌≡◌, true, false, cond, List, get_or}
use Rattle.std.proofs.Math.Option.{Option, none, some}
use Rattle.mapping.specs.Pages.{Rights, rights, Reason, reserved, outside, PageState, Space}
use Rattle.mapping.specs.Pages as page

-- what an entry says, with its own rights: the number of the first 4 KiB frame that it maps, or the address of the table one level down
pub data Entry : Type 0 where
  not_present : Entry
  reserved_bit : Entry
  maps : (frame : ℕ) → Rights → Entry
  table : (address : ℕ) → Rights → Entry

-- "Translate answers mapped (physical address, size, rights), absent, reserved or outside, the last three with the entry's level": for a page, the frame of that page
-- and the level of the entry that maps it
pub data Walked : Type 0 where
  absent : (level : ℕ) → Walked
  broken : (level : ℕ) (reason : Reason) → Walked
  mapped : (frame level : ℕ) → Rights → Walked

-- "Writable and user hold if every level has them; no-execute if some level has it."
abbrev pub joined : Rights → Rights → Rights
joined (rights w u x) (rights v t y) = rights (cond w v false) (cond u t false) (cond x true y)

-- the rights above the root
abbrev pub all_rights : Rights
all_rights = rights true true false

-- the pages that an entry of level `n` + 1 spans
abbrev pub span_pages : ℕ → ℕ
span_pages n = 2 ^ (9 * n)

-- "The index at a level is nine bits": that of page `x` in a table of level `n` + 1
abbrev pub entry_index : (n x : ℕ) → ℕ
entry_index n x = x / span_pages n % 512

-- the word for it
abbrev pub word_for : List ℕ → (n x : ℕ) → ℕ
word_for t n x = get_or t (entry_index n x) 0

-- "next table wholly in the image": what the table says, or outside, with the level `l` of the entry that names it
abbrev pub follow : Option (List ℕ) → (l : ℕ) → (List ℕ → Walked) → Walked
follow none l f = broken l outside
follow (some t) l f = f t

-- "Check order: present, reserved, large or level 1 (mapped), next table wholly in the image": page `x` by an entry of level `n` + 1, `r` the rights above it
unfoldable pub step : (memory : ℕ → Option (List ℕ)) (below : List ℕ → Rights → Walked) → (n : ℕ) → Rights → (x : ℕ) → Entry → Walked
step memory below n r x not_present = absent (n + 1)
step memory below n r x reserved_bit = broken (n + 1) reserved
step memory below n r x (maps g h) = mapped (g + x % span_pages n) (n + 1) (joined r h)
step memory below n r x (table a h) = follow (memory a) (n + 1) (λ t. below t (joined r h))

-- "Each lower table is searched by the same rule, one level down.": page `x` by the table `t` of a level
unfoldable pub walk : (entry : ℕ → ℕ → Entry) (memory : ℕ → Option (List ℕ)) → (level : ℕ) → List ℕ → Rights → (x : ℕ) → Walked
walk entry memory zero t r x = absent 0
walk entry memory (suc n) t r x = step memory (λ t' r'. walk entry memory n t' r' x) n r x (entry (n + 1) (word_for t n x))

-- "Words of demand 3. A 4 KiB page is mapped, absent, reserved or outside as translate answers"
abbrev pub state_of : Walked → PageState
state_of (absent l) = page.absent
state_of (broken l r) = page.broken l r
state_of (mapped g l h) = page.mapped g h

-- the pages that so many levels reach, 2^36 with four, 2^45 with five (document 02, request Four), each in its state; `PageNumbers` says that they are those of the addresses
abbrev pub space_of : (levels : ℕ) → (ℕ → PageState) → Space
space_of levels page = record { page = page; size = span_pages levels; high = 2 ^ (9 * levels - 1); span = λ l. span_pages (l - 1) }

-- those below the root table `t`
abbrev pub walked_pages : (entry : ℕ → ℕ → Entry) (memory : ℕ → Option (List ℕ)) → (levels : ℕ) → List ℕ → Space
walked_pages entry memory levels t = space_of levels (λ x. state_of (walk entry memory levels t all_rights x))

-- a table of a level holds nothing: all its pages are absent, whatever the rights above it
abbrev pub HoldsNothing : (entry : ℕ → ℕ → Entry) (memory : ℕ → Option (List ℕ)) → (level : ℕ) → List ℕ → Type 0
HoldsNothing entry memory level t = (r : Rights) (x : ℕ) → state_of (walk entry memory level t r x) ≡ page.absent
