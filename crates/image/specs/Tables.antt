-- The search over one table and over one entry of it, as the code goes.
use Rattle.std.specs.Prelude.{ℕ, ◌+◌, ◌≤◌, ◌<◌, ◌≡◌, List, length, get_or, Option, Some, None}
use Rattle.std.proofs.Math.Option as math
use Rattle.mapping.specs.Pages.{PageState, Space}
use Rattle.mapping.specs.Pass.{Progress}
use Rattle.mapping.specs.Walk.{all_rights, entry_index, span_pages}
use Rattle.paging.specs.EmptyTables.{TrueIn}
use Rattle.paging.specs.Entry.{entry_by}
use Rattle.paging.specs.Memory.{Segment, table_from, table_in, Inside}
use Rattle.paging.specs.Packed.{rights_over}
use Rattle.paging.specs.Pages.{pages_by}
use Rattle.paging.specs.Progress.{Passes}
use Rattle.paging.specs.Search.{pages_from}
use Rattle.paging.specs.Span.{after}
use Rattle.walk.specs.Look.{seen}
use Rattle.walk.specs.Segments.{segments_of}
use Rattle.walk.specs.declared.look.Look.{Look}
use Rattle.walk.specs.declared.memory.Segment as code
use Rattle.image.specs.declared.tables.Table.{Table}
use Rattle.image.specs.declared.tables.Step.{Step}
use Rattle.image.specs.declared.tables.Step.TheVariants as step

-- what a search reads: the lent words, the segments that they are, and the bits that the processor reserves
pub record Lent : Type 0 where
  pub words : List ℕ
  pub segments : List Segment
  pub reserved : ℕ

abbrev pub lent : List ℕ → List code.Segment → ℕ → Lent
lent words segments reserved = record { words = words; segments = segments_of segments; reserved = reserved }

abbrev pub memory_of : Lent → ℕ → math.Option (List ℕ)
memory_of w = table_in w.segments w.words

-- a table is at a place
abbrev pub HasTable : Lent → (place : ℕ) → Type 0
HasTable w p = Inside w.segments w.words p

-- the bytes are true of the tables
abbrev pub TrueFor : Lent → (bytes : List ℕ) → Type 0
TrueFor w bytes = TrueIn w.reserved w.segments w.words bytes

-- the pages below the root at a place
abbrev pub pages_below : Lent → (levels place : ℕ) → Space
pages_below w levels p = pages_from w.reserved w.segments w.words levels p

-- the pages by a table of a level
abbrev pub pages_at : Lent → (level : ℕ) → Table → ℕ → PageState
pages_at w level t = pages_by w.reserved (memory_of w) level (table_from w.words t.place) (rights_over t.rights)

-- the word that page `x` is under, in the table of level `n` + 1 at a place
abbrev pub word_at : List ℕ → (place n x : ℕ) → ℕ
word_at words p n x = get_or words (p + entry_index n x) 0

-- what its entry says
pub record LooksAt (words : List ℕ) (reserved : ℕ) (t : Table) (n x : ℕ) (l : Look) : Type 0 where
  pub says : l ≡ seen (word_at words t.place n x) (entry_by reserved (n + 1) (word_at words t.place n x))

-- from page `a` on over the table of a level, with what was found before and after, and the bytes after
pub record Searched (w : Lent) (level : ℕ) (t : Table) (a : ℕ) (before later : Progress) (bytes : List ℕ) (r : ℕ) : Type 0 where
  pub passes : Passes (pages_at w level t) a (after level a) before later r
  pub known : TrueFor w bytes

-- of level 1, whatever the segments: it names no table
abbrev pub SearchedLowest : (words : List ℕ) (reserved : ℕ) → Table → (a : ℕ) → (before later : Progress) → (bytes bytes' : List ℕ) → ℕ → Type 0
SearchedLowest words reserved t a before later bytes bytes' r =
    (segments : List Segment) → TrueIn reserved segments words bytes → Searched (record { words = words; segments = segments; reserved = reserved }) 1 t a before later bytes' r

-- from page `a` on over all pages below the root at a place
pub record SearchedAll (w : Lent) (levels place a : ℕ) (before later : Progress) (bytes : List ℕ) (r : ℕ) : Type 0 where
  pub passes : Passes (pages_below w levels place).page a (span_pages levels) before later r
  pub known : TrueFor w bytes

-- the lower table has the pages from `x` on that the table of level `n` + 1 has up to the end of an entry's span
pub record Lower (w : Lent) (n : ℕ) (t : Table) (x : ℕ) (lower : Table) : Type 0 where
  pub inside : lower.place + 512 ≤ length w.words
  pub pages : (y : ℕ) → x ≤ y → y < after n x → pages_at w (n + 1) t y ≡ pages_at w n lower y

-- at the entry that page `x` is under, in the table of level `n` + 1
abbrev pub Steps : Lent → (n : ℕ) → Table → (x : ℕ) → (before later : Progress) → Step → Type 0
Steps w n t x before later step.Halt = Passes (pages_at w (n + 1) t) x (after n x) before later x
Steps w n t x before later step.Pass = Passes (pages_at w (n + 1) t) x (after n x) before later (after n x)
Steps w n t x before later (step.Down lower) = (later ≡ before) × Lower w n t x lower

-- the table of level 1 that page `x` is under, in the tables below the one of a level at a place: it has the pages up to the end of its span
pub record Lowest (w : Lent) (level place x : ℕ) (lowest : Table) : Type 0 where
  pub inside : lowest.place + 512 ≤ length w.words
  pub pages : (y : ℕ) → x ≤ y → y < after 1 x → pages_by w.reserved (memory_of w) level (table_from w.words place) all_rights y ≡ pages_at w 1 lowest y

-- None says nothing
abbrev pub LowestFor : Lent → (level place x : ℕ) → Option Table → Type 0
LowestFor w level p x None = Unit {0}
LowestFor w level p x (Some t) = Lowest w level p x t
