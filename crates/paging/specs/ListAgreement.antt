-- That what `list` writes agrees with translating all 4 KiB pages singly: its answers are the replies of a list of searches from page zero, so that all claims about
-- such lists hold of them. Document 01: "Each search of a list gets the next page that the one before it left; none follows once the search is over."
use Rattle.std.specs.Prelude.{ℕ, ◌*◌, ◌≤◌, ◌<◌, ◌≡◌, List, ◌++◌, map, take}
use Rattle.std.proofs.Math.Option.{Option, none, some}
use Rattle.answer.specs.Outcome.{gives}
use Rattle.mapping.specs.Agreement.{Calls, Agreement}
use Rattle.mapping.specs.Walk.{span_pages}
use Rattle.laws.specs.Item.{Item}
use Rattle.paging.specs.Translate.{image_refusal}
use Rattle.paging.specs.Search.{Report, answer_words}
use Rattle.paging.specs.List.{Listed, Listing, all_words, room, listing}
use Rattle.paging.specs.Agreement.{IsPage, Reports, translated_pages, call_from}

-- calls of `list`, one or more, each with any words lent and from the page that the one before it left: the address of the first page, the words that they wrote, one
-- after the other, and the page that the last of them left, none once the search is over
pub data Chain (call : ℕ → List ℕ → Listing) : ℕ → List ℕ → Option Item → Type 0 where
  one : {a : ℕ} {l : Listed} → (out : List ℕ) → (call a out).answer ≡ gives l → Chain call a (take (answer_words * l.written) (call a out).words) l.next
  more : {a : ℕ} {l : Listed} {p : Item} {words : List ℕ} {e : Option Item} → (out : List ℕ) → (call a out).answer ≡ gives l → l.next ≡ some p
      → Chain call p.start words e → Chain call a (take (answer_words * l.written) (call a out).words ++ words) e

-- a call that is answered: it wrote no more answers than have room, and as many if it is not over
abbrev pub Answered : (call : ℕ → List ℕ → Listing) → (a : ℕ) → List ℕ → Type 0
Answered call a out = (l : Listed) × ((call a out).answer ≡ gives l) × (l.written ≤ room out) × ((p : Item) → l.next ≡ some p → l.written ≡ room out)

-- the claims about a chain of calls from page zero: the words that it wrote, and the page that it left
pub record ChainAgrees (w levels : ℕ) (image : List ℕ) (base root : ℕ) (call : ℕ → List ℕ → Listing) (words : List ℕ) (next : Option Item) : Type 0 where
  pub reports : List Report
  pub passed : ℕ
  -- the words are those of reports, in order
  pub written : words ≡ all_words reports
  -- which are the replies of a list of searches from page zero
  pub searched : Calls (translated_pages w levels image base root) (Reports w) (call_from w levels image base root) 0 (map gives reports) passed
  -- so that all claims about such lists hold of them
  pub agreement : Agreement (translated_pages w levels image base root) (Reports w) (call_from w levels image base root) (map gives reports) passed
  -- what is left is the next page; none only once all pages are passed
  pub next-page : (p : Item) → next ≡ some p → (passed < span_pages levels) × IsPage w passed p
  pub over : next ≡ none → passed ≡ span_pages levels
  -- whatever is lent, the chain goes on from there
  pub goes_on : (p : Item) → next ≡ some p → (out : List ℕ) → Answered call p.start out

-- whatever is lent, a call from page zero is answered; and every chain of calls agrees
abbrev pub ChainsAgree : (w levels : ℕ) → List ℕ → (base root : ℕ) → (call : ℕ → List ℕ → Listing) → Type 0
ChainsAgree w levels image base root call =
    ((out : List ℕ) → Answered call 0 out) × ((words : List ℕ) (next : Option Item) → Chain call 0 words next → ChainAgrees w levels image base root call words next)

abbrev pub ListsAgree : (w levels : ℕ) → Type 0
ListsAgree w levels =
    (image : List ℕ) (base root : ℕ) → image_refusal image base root ≡ 0 → ChainsAgree w levels image base root (listing w levels image base root)
