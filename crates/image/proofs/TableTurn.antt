-- A turn of the loop over the entries of a table above level 1: the pages before page `at` are passed, and it is under this entry.
use Prim.Native.Nat.{ℕ, ◌+◌, ◌-◌, ◌^◌, ◌≤◌, ◌<◌}
use mathlib.Core.Path.{◌≡◌, subst}
use mathlib.Core.Bool.{Bool}
use mathlib.Core.List.{List}
use native.Mathlib.Omega.{arith}
use Rattle.mapping.specs.Pages.{PageState}
use Rattle.mapping.specs.Pass.{Progress}
use Rattle.paging.specs.EmptyTables.{marking_whole}
use Rattle.paging.specs.Progress.{finds_nothing, GoesOn, Passes}
use Rattle.paging.specs.Span.{after}
use Rattle.paging.proofs.Passing.{passes_none, passes_then, passes-in, passes-congr, passes-le, still-goes}
use Rattle.paging.proofs.Spanning.{ahead_of, nested, after-top}
use Rattle.image.specs.Tables.{Lent, HasTable, TrueFor, pages_at, Searched, Lower}
use Rattle.image.specs.declared.tables.Table.{Table}
use Rattle.image.proofs.Remembered.{remembered}

-- what holds at page `at` of the table of a level, `n` + 1, with what is found and the bytes then
pub record PassedTo (w : Lent) (level n : ℕ) (t : Table) (from end : ℕ) (before : Progress) (at : ℕ) (now : Progress) (bytes : List ℕ) : Type 0 where
  pub up : n + 1 ≡ level
  pub upper : (1 ≤ n) × (n ≤ 4)
  pub inside : HasTable w t.place
  pub begun : GoesOn before from
  pub bounded : from < 2 ^ 45
  pub ends : end ≡ after level from
  pub going : GoesOn now at
  pub known : TrueFor w bytes
  pub started : from ≤ at
  pub within : at ≤ end
  pub passes : Passes (pages_at w (n + 1) t) from at before now at

pub at-first : (w : Lent) (level : ℕ) (t : Table) (from : ℕ) {end : ℕ} (before : Progress) (bytes : List ℕ) → (2 ≤ level) × (level ≤ 5) → HasTable w t.place → GoesOn before from → from < 2 ^ 45
    → TrueFor w bytes → end ≡ after level from → PassedTo w level (level - 1) t from end before from before bytes
at-first w level t from before bytes upper inside begun bounded known ends = record {
  up = omega (arith, upper.0);
  upper = (omega (arith, upper.0), omega (arith, upper.1));
  inside = inside;
  begun = begun;
  bounded = bounded;
  ends = ends;
  going = begun;
  known = known;
  started = omega arith;
  within = omega (arith, ends, ahead_of level from);
  passes = passes_none begun;
}

module _ {w : Lent} {level n : ℕ} {t : Table} {from end : ℕ} {before : Progress} {at : ℕ} {now : Progress} {bytes : List ℕ} (turn : PassedTo w level n t from end before at now bytes) where
  abbrev pages : ℕ → PageState
  pages = pages_at w (n + 1) t

  ends : end ≡ after (n + 1) from
  ends = rw turn.up turn.ends

  pub bounded : at < end → at < 2 ^ 45
  bounded h = omega (arith, ends, after-top (n + 1) from (omega (arith, turn.upper.1)) turn.bounded)

  -- all pages are passed
  pub finished : end ≤ at → {b : Bool} {bytes' : List ℕ} → b ≡ finds_nothing now → bytes' ≡ marking_whole bytes b t.place n from → Searched w level t from before now bytes' end
  finished h u e =
      let m : at ≡ after (n + 1) from = omega (arith, turn.within, ends) in
      rw (← turn.up, ends)
      (remembered w n t bytes turn.begun turn.known turn.inside.0 (omega (arith, turn.upper.1)) (subst (λ (x : ℕ). Passes pages from x before now x) m turn.passes) u e)

  module _ (here : at < end) {next : ℕ} (next-is : next ≡ after n at) where
    pub ahead : at < next
    ahead = omega (arith, next-is, ahead_of n at)

    pub within-end : next ≤ end
    within-end = omega (arith, next-is, ends, nested n from at turn.upper.1 (omega (arith, ends, here)))

    -- it comes to a page in the entry's span
    returned : {u : Progress} {b : List ℕ} {y : ℕ} → y < next → Passes pages at (after n at) now u y → TrueFor w b → Searched w level t from before u b y
    returned {u} {b} {y} l p k =
        rw (← turn.up) (record {
          passes = rw (← ends) (passes-in turn.started (omega (arith, ahead)) within-end l turn.passes (rw (← next-is) at p));
          known = k;
        })

    -- or to its end
    onward : {u : Progress} {b : List ℕ} → Passes pages at (after n at) now u next → TrueFor w b → PassedTo w level n t from end before next u b
    onward p k =
        let q = rw (← next-is) at p in
        record {
          up = turn.up;
          upper = turn.upper;
          inside = turn.inside;
          begun = turn.begun;
          bounded = turn.bounded;
          ends = turn.ends;
          going = still-goes turn.going q;
          known = k;
          started = omega (arith, turn.started, ahead);
          within = within-end;
          passes = passes_then turn.started (omega (arith, ahead)) turn.passes q;
        }

    pub halted : {u : Progress} → Passes pages at (after n at) now u at → Searched w level t from before u bytes at
    halted p = returned ahead p turn.known

    pub passed : {u : Progress} → Passes pages at (after n at) now u (after n at) → PassedTo w level n t from end before next u bytes
    passed p = onward (rw next-is p) turn.known

    -- a lower table was gone over
    module _ {later : Progress} {lower : Table} (down : (later ≡ now) × Lower w n t at lower) {u : Progress} {b : List ℕ} {y : ℕ} (found : Searched w n lower at later u b y) where
      here-too : Passes pages at (after n at) now u y
      here-too = passes-congr (omega (arith, ahead_of n at)) down.1.pages (rw down.0 at found.passes)

      pub down-returns : y < next → Searched w level t from before u b y
      down-returns l = returned l here-too found.known

      pub down-passed : next ≤ y → PassedTo w level n t from end before next u b
      down-passed l =
          let m : y ≡ next = omega (arith, next-is, passes-le (omega (arith, ahead_of n at)) here-too) in
          onward (rw m at here-too) found.known
