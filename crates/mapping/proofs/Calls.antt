-- Every list of calls of a search that reports its answer at every page agrees with the pages looked at singly, and extends to one that is over.
use Prim.Native.Nat.{ℕ, ◌<◌}
use mathlib.Core.Path.{◌≡◌}
use mathlib.Core.List.{List, [], ◌∷◌, ◌++◌}
use Rattle.mapping.specs.Pages.{Space, Spanned}
use Rattle.mapping.specs.Search.{Answer, search, next, Searches}
use Rattle.mapping.specs.Search as searches
use Rattle.mapping.specs.Agreement.{Calls, none, last, more, Each, Agreement}
use Rattle.mapping.specs.Agreement as each
use Rattle.mapping.proofs.Lists as lists

-- what is asked of the calls: a reply reports one answer, and that of a search from a page is what the search answers
pub record Searching {R : Type 0} (s : Space) (reports : R → Answer → Type 0) (call : ℕ → R) : Type 0 where
  pub one : (r : R) (a b : Answer) → reports r a → reports r b → a ≡ b
  pub answer : (p : ℕ) → p < s.size → reports (call p) (search s p)

module _ {R : Type 0} (s : Space) (reports : R → Answer → Type 0) (call : ℕ → R) (ok : Searching s reports call) where
  -- its answers are a list of searches
  searched : {p e : ℕ} {replies : List R} → Calls s reports call p replies e → (answers : List Answer) × Each reports replies answers × Searches s p answers e
  searched none = ([], each.none, searches.none)
  searched (last {p} i e) = absurd (e (search s p) (ok.answer p i))
  searched (more {p} {e} {a} {replies} i c r) = go (searched r) (ok.one (call p) a (search s p) c (ok.answer p i))
    where
      go : (answers : List Answer) × Each reports replies answers × Searches s (next s a) answers e → a ≡ search s p
          → (answers : List Answer) × Each reports (call p ∷ replies) answers × Searches s p answers e
      go (answers, u, t) d = (search s p ∷ answers, each.more (ok.answer p i) u, searches.more i (rw d at t))

  -- and a list of searches is the answers of a list of calls
  pub called : {p e : ℕ} {answers : List Answer} → Searches s p answers e → (replies : List R) × Each reports replies answers × Calls s reports call p replies e
  called searches.none = ([], each.none, none)
  called (searches.more {p} i r) = let (replies, u, t) = called r in (call p ∷ replies, each.more (ok.answer p i) u, more i (ok.answer p i) t)

  -- a list of calls goes on with those from the page that it left
  joined : {p e f : ℕ} {replies later : List R} → Calls s reports call p replies e → Calls s reports call e later f → Calls s reports call p (replies ++ later) f
  joined none d = d
  joined (last {p} i e) d = absurd (e (search s p) (ok.answer p i))
  joined (more i c r) d = more i c (joined r d)

  pub agreement : Spanned s → (replies : List R) (passed : ℕ) → Calls s reports call 0 replies passed → Agreement s reports call replies passed
  agreement w replies passed all =
      let (answers, u, t) = searched all in
      let (rest, f) = lists.extends s w answers passed t in
      let (later, v, g) = called f in
      record { answers = answers; reported = u; agrees = lists.agrees s w answers passed t; extends = (later, joined all g) }
