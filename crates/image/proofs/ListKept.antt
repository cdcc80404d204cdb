-- What holds of the answers of searches over the pages below a root table.
use Prim.Native.Nat.{ℕ, ◌^◌, ◌≤◌, ◌<◌}
use mathlib.Core.Path.{◌≡◌, refl}
use mathlib.Core.List.{List}
use mathlib.Core.Option.{Option}
use native.Mathlib.Omega.{arith}
use Rattle.mapping.specs.Pages.{PageState, Space}
use Rattle.mapping.specs.Pages as page
use Rattle.mapping.specs.Search.{Answer, search}
use Rattle.mapping.specs.Walk.{Walked, absent, broken, mapped, walk, all_rights, span_pages, state_of, walked_pages}
use Rattle.mapping.proofs.Found.{Found, no_more, at-stop, at-run, in-half, starts, finds}
use Rattle.mapping.proofs.Walk.{broken-span, spanned}
use Rattle.paging.specs.Entry.{entry_by}
use Rattle.paging.specs.Packed.{Fits}
use Rattle.image.specs.Found.{Kept}
use Rattle.walk.proofs.Walked.{fits}

-- a page's frame is below 2^40, a broken entry's level is 1 to 5
abbrev KeptState : PageState → Type 0
KeptState page.absent = Unit {0}
KeptState (page.broken l r) = (1 ≤ l) × (l ≤ 5)
KeptState (page.mapped g h) = g < 2 ^ 40

module _ (mask : ℕ) (memory : ℕ → Option (List ℕ)) (levels : ℕ) (t : List ℕ) (few : levels ≤ 5) where
  kept-state : (x : ℕ) → KeptState ((walked_pages (entry_by mask) memory levels t).page x)
  kept-state x = go (walk (entry_by mask) memory levels t all_rights x) refl (fits mask memory levels t all_rights x few)
    where
      go : (w : Walked) → walk (entry_by mask) memory levels t all_rights x ≡ w → Fits w → KeptState (state_of w)
      go (absent l) e f = tt
      go (broken l r) e f = let s = broken-span (entry_by mask) memory levels t all_rights x l r e in omega arith
      go (mapped g l h) e f = f.2

  pub kept : (p : ℕ) → p ≤ span_pages levels → Kept (span_pages levels) (search (walked_pages (entry_by mask) memory levels t) p)
  kept p i = go (finds s (spanned (entry_by mask) memory levels t).halves p i)
    where
      s : Space
      s = walked_pages (entry_by mask) memory levels t

      go : {a : Answer} → Found s p a → Kept (span_pages levels) a
      go (no_more z) = tt
      go (at-stop {q} fr e) = let k = rw e at (kept-state q) in (fr.inside, k.0, k.1)
      go (at-run {q} fr st) =
          let k = rw (starts s st) at (kept-state q) in
          let b = in-half s (spanned (entry_by mask) memory levels t).halves q fr.inside in
          (fr.inside, k, omega arith)
