-- A turn of the loop down to the table of level 1 that a page is under: it goes to the table that an entry names.
use Prim.Native.Nat.{ℕ, ◌+◌, ◌-◌, ◌≤◌, ◌<◌}
use mathlib.Core.Path.{◌≡◌, sym, ap, ◌∙◌}
use native.Mathlib.Omega.{arith}
use Rattle.mapping.specs.Walk.{all_rights}
use Rattle.paging.specs.Memory.{table_from}
use Rattle.paging.specs.Pages.{pages_by}
use Rattle.paging.specs.Span.{after}
use Rattle.paging.proofs.Spanning.{lowest-ends}
use Rattle.image.specs.Tables.{Lent, memory_of, HasTable, pages_at, Lower, Lowest}
use Rattle.image.specs.declared.tables.Table.{Table}

-- the pages of the table of level 1 that page `x` is under are those of the table of level `n` to which the walk has come
pub record CameTo (w : Lent) (level root x n : ℕ) (t : Table) : Type 0 where
  pub upper : (1 ≤ n) × (n ≤ 5)
  pub inside : HasTable w t.place
  pub pages : (y : ℕ) → x ≤ y → y < after 1 x → pages_by w.reserved (memory_of w) level (table_from w.words root) all_rights y ≡ pages_at w n t y

pub next-down : {w : Lent} {level root x n : ℕ} {t lower : Table} → CameTo w level root x n t → 1 < n → Lower w (n - 1) t x lower → CameTo w level root x (n - 1) lower
next-down {w} {level} {root} {x} {n} {t} came i l =
    let up : n - 1 + 1 ≡ n = omega arith in
    record {
      upper = (omega arith, omega (arith, came.upper.1));
      inside = (l.inside, came.inside.1);
      pages = λ y a b.
          came.pages y a b ∙ ap (λ (k : ℕ). pages_at w k t y) (sym up)
          ∙ l.pages y a (omega (arith, lowest-ends (n - 1) x (omega arith) (omega (arith, came.upper.1))));
    }

pub lowest : {w : Lent} {level root x n : ℕ} {t : Table} → CameTo w level root x n t → n ≤ 1 → Lowest w level root x t
lowest {n} came i = let one : n ≡ 1 = omega (arith, came.upper.0) in record { inside = came.inside.0; pages = rw one at came.pages }
