-- The search over all pages below a root: first over the table of level 1 that a page is under, then over the rest.
use Prim.Native.Nat.{ℕ, ◌-◌, ◌^◌, ◌≤◌, ◌<◌}
use mathlib.Core.Path.{◌≡◌}
use mathlib.Core.List.{List}
use native.Mathlib.Omega.{arith}
use Rattle.addr.specs.Widths.{levels_of}
use Rattle.addr.specs.declared.width.Width.{Width}
use Rattle.mapping.specs.Pages.{PageState}
use Rattle.mapping.specs.Pass.{Progress}
use Rattle.mapping.specs.Walk.{span_pages}
use Rattle.paging.specs.Progress.{GoesOn, Passes}
use Rattle.paging.specs.Span.{after}
use Rattle.paging.proofs.Passing.{passes_none, passes_then, passes-in, passes-congr, passes-le, still-goes}
use Rattle.paging.proofs.Spanning.{ahead_of}
use Rattle.image.specs.Tables.{Lent, TrueFor, pages_below, Lowest, Searched, SearchedAll}
use Rattle.image.specs.declared.tables.Table.{Table}
use Rattle.image.proofs.AllPages.{all-pages, ends-inside}

-- no page is left
pub none-left : {w : Lent} {levels root from : ℕ} {before : Progress} {bytes : List ℕ} → from ≡ span_pages levels → GoesOn before from → TrueFor w bytes → SearchedAll w levels root from before before bytes from
none-left e g known = record { passes = rw (← e) (passes_none g); known = known }

-- the table at the root spans all of the pages
pub of-table : {w : Lent} {level levels root from : ℕ} {before later : Progress} {bytes : List ℕ} {r : ℕ} → level ≡ levels → from < span_pages levels
    → Searched w level (record { place = root; rights = 2 ^ 64 - 1 }) from before later bytes r → SearchedAll w levels root from before later bytes r
of-table {w} {level} {levels} {root} {from} e h s = record { passes = rw (← all-pages levels from h) (rw e at s.passes); known = s.known }

-- the table of level 1 was gone over
module _ {w : Lent} (width : Width) {level root from : ℕ} {t : Table} {before later : Progress} {bytes : List ℕ} {r next : ℕ} (level-is : level ≡ levels_of width) (lowest : Lowest w level root from t)
    (going : GoesOn before from) (inside : from < span_pages (levels_of width)) (next-is : next ≡ after 1 from) (found : Searched w 1 t from before later bytes r) where
  abbrev pages : ℕ → PageState
  pages = (pages_below w (levels_of width) root).page

  first-pages : Passes pages from (after 1 from) before later r
  first-pages = passes-congr (omega (arith, ahead_of 1 from)) (rw level-is at lowest.pages) found.passes

  pub ends-in : next ≤ span_pages (levels_of width)
  ends-in = omega (arith, next-is, ends-inside width from inside)

  -- it comes to a page of the table, or to its end
  pub first-returns : r < next → SearchedAll w (levels_of width) root from before later bytes r
  first-returns l = record {
    passes = passes-in (omega arith) (omega (arith, ahead_of 1 from)) (ends-inside width from inside) (omega (arith, next-is)) (passes_none going) first-pages;
    known = found.known;
  }

  to-end : next ≤ r → Passes pages from next before later next
  to-end n =
      let e : r ≡ next = omega (arith, next-is, passes-le (omega (arith, ahead_of 1 from)) first-pages) in
      rw (e, ← next-is) at first-pages

  pub goes-on : next ≤ r → GoesOn later next
  goes-on n = still-goes going (to-end n)

  pub rest-returns : next ≤ r → {u : Progress} {b : List ℕ} {y : ℕ} → SearchedAll w (levels_of width) root next later u b y → SearchedAll w (levels_of width) root from before u b y
  rest-returns n s = record { passes = passes_then (omega (arith, next-is, ahead_of 1 from)) ends-in (to-end n) s.passes; known = s.known }
