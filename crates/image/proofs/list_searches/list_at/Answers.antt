-- `list_at` writes the answers of the searches that have room.
use Prim.Native.Nat.{ℕ}
use mathlib.Core.Path.{subst, ◌∙◌}
use mathlib.Core.List.{[], ◌∷◌}
use native.Mathlib.Omega.{arith}
use Rattle.mapping.specs.Walk.{Entry}
use Rattle.paging.specs.EmptyTables.{TrueIn, TrueOf}
use Rattle.paging.specs.List.{listing}
use Rattle.paging.specs.Memory.{Segment, table_at}
use Rattle.paging.proofs.Fields.{no-mask}
use Rattle.image.proofs.Rooted.{root_pages}
use Rattle.image.proofs.list_searches.list_at.Goals as goal

pub returns : goal.returns
unfolding listing
returns c =
    let image = c.args.image.now in
    let empty = c.list_from.new.empty in
    let known = subst (λ (s : Segment). TrueIn 0 (s ∷ []) image empty) c.whole.ensures c.list_from.ensures.still_known in (
      grind (arith, root_pages),
      record {
        as_long = c.list_from.auto.empty ∙ c.forget.auto.bytes;
        untouched = λ m. absurd (m c.in_ok-at.ensures.0);
        true_of = λ z. subst (λ (by : ℕ → ℕ → Entry). TrueOf by (table_at image c.args.base.0) image empty) no-mask known;
      },
    )
