-- A table that was gone through, remembered if that is all of it and nothing was found.
use Prim.Native.Nat.{ℕ, ◌+◌, ◌≤◌, ◌<◌}
use mathlib.Core.Path.{◌≡◌}
use mathlib.Core.Bool.{Bool}
use mathlib.Core.List.{List}
use lib.ListN.{length}
use Rattle.mapping.specs.Pass.{Progress}
use Rattle.paging.specs.EmptyTables.{marking_whole}
use Rattle.paging.specs.Packed.{rights_over}
use Rattle.paging.specs.Progress.{finds_nothing, GoesOn, Passes}
use Rattle.paging.specs.Span.{after}
use Rattle.paging.proofs.Emptiness.{whole-true}
use Rattle.image.specs.Tables.{Lent, memory_of, TrueFor, pages_at, Searched}
use Rattle.image.specs.declared.tables.Table.{Table}

pub remembered : (w : Lent) (n : ℕ) (t : Table) (bytes : List ℕ) {a : ℕ} {before later : Progress} {b : Bool} {bytes' : List ℕ} {r : ℕ} → GoesOn before a → TrueFor w bytes
    → t.place + 512 ≤ length w.words → n < 8 → Passes (pages_at w (n + 1) t) a (after (n + 1) a) before later r → b ≡ finds_nothing later → bytes' ≡ marking_whole bytes b t.place n a
    → Searched w (n + 1) t a before later bytes' r
remembered w n t bytes {a} {before} {later} {b} {bytes'} {r} g known inside few p u e = record {
  passes = p;
  known =
      rw (e, u)
      (whole-true w.reserved (memory_of w) w.words t.place n (rights_over t.rights) a before g bytes known inside few r later p);
}
