-- That a list of runs and stops agrees with the pages looked at singly: document 01, "Words of demand 3".
use Rattle.std.specs.Prelude.{ℕ, ◌+◌, ◌*◌, ◌-◌, ◌/◌, ◌≤◌, ◌<◌, ◌≡◌, ◌⊎◌, List, [], ◌∷◌, ◌++◌, length, get_or}
use Rattle.mapping.specs.Pages.{Rights, Reason, PageState, absent, broken, mapped, Space}
use Rattle.mapping.specs.Search.{Answer, end, stop, run, next}

-- "It holds that many pages from the first"
unfoldable pub InRun : Answer → ℕ → Type 0
InRun end x = ⊥
InRun (stop q l r) x = ⊥
InRun (run q g c h) x = (q ≤ x) × (x < q + c)

-- "Under a stop are the pages of the broken entry's span: all whose indices down to its level are those of q"
unfoldable pub UnderStop : Space → Answer → ℕ → Type 0
UnderStop s end x = ⊥
UnderStop s (stop q l r) x = x / s.span l ≡ q / s.span l
UnderStop s (run q g c h) x = ⊥

-- what an answer says of a page that it holds: "the page i places on has the frame i places past the first frame, and the run's rights"
unfoldable pub says : Answer → ℕ → PageState
says end x = absent
says (stop q l r) x = broken l r
says (run q g c h) x = mapped (g + (x - q)) h

-- the answer at `i` of a list; past its end stands `end`, which holds no page
abbrev pub nth : List Answer → ℕ → Answer
nth answers i = get_or answers i end

abbrev pub Holds : Space → Answer → ℕ → Type 0
Holds s a x = InRun a x ⊎ UnderStop s a x

-- `P` holds at exactly one place of a list, and `Q` holds there
abbrev pub ExactlyOne : (P Q : ℕ → Type 0) → Type 0
ExactlyOne P Q = (i : ℕ) × P i × Q i × ((j : ℕ) → P j → j ≡ i)

-- "Not extendable means: in its half, the page just after a run isn't mapped with the run's rights to the frame after its last, nor the page just before to the frame
-- before its first." The run has a page, and is in one half
pub record Maximal (s : Space) (q g c : ℕ) (h : Rights) : Type 0 where
  pub some : 0 < c
  pub in-half : q < s.high → q + c ≤ s.high
  pub after : q + c < s.size → (q + c ≡ s.high → ⊥) → s.page (q + c) ≡ mapped (g + c) h → ⊥
  pub before : (y k : ℕ) → y + 1 ≡ q → (q ≡ s.high → ⊥) → k + 1 ≡ g → s.page y ≡ mapped k h → ⊥

-- the claims about a list of answers, `passed` the next page that it left ("Passed are the pages before the next page, and all pages once the search is over")
pub record Agrees (s : Space) (answers : List Answer) (passed : ℕ) : Type 0 where
  -- a passed page that is mapped is in exactly one run, which says its frame and rights, and under no stop
  pub mapped-page : (x g : ℕ) (h : Rights) → x < passed → s.page x ≡ mapped g h
      → ExactlyOne (λ i. InRun (nth answers i) x) (λ i. says (nth answers i) x ≡ mapped g h) × ((i : ℕ) → UnderStop s (nth answers i) x → ⊥)
  -- one that is broken is under exactly one stop, which says its level and reason, and in no run
  pub broken-page : (x l : ℕ) (r : Reason) → x < passed → s.page x ≡ broken l r
      → ExactlyOne (λ i. UnderStop s (nth answers i) x) (λ i. says (nth answers i) x ≡ broken l r) × ((i : ℕ) → InRun (nth answers i) x → ⊥)
  -- one that is absent is in no run and under no stop
  pub absent-page : (x i : ℕ) → x < passed → s.page x ≡ absent → (InRun (nth answers i) x → ⊥) × (UnderStop s (nth answers i) x → ⊥)
  -- runs and stops hold passed pages only
  pub runs-passed : (x i : ℕ) → InRun (nth answers i) x → x < passed
  pub stops-passed : (x i : ℕ) → UnderStop s (nth answers i) x → x < passed
  -- pages ascend, over the gap too
  pub ascending : (i j x y : ℕ) → i < j → Holds s (nth answers i) x → Holds s (nth answers j) y → x < y
  -- no run can be extended
  pub maximal : (i q g c : ℕ) (h : Rights) → nth answers i ≡ run q g c h → Maximal s q g c h
  -- "in these lists q is the first of them"
  pub stop-first : (i q l : ℕ) (r : Reason) → nth answers i ≡ stop q l r → q ≡ q / s.span l * s.span l
  -- "none follows once the search is over"
  pub end-last : (i : ℕ) → nth answers i ≡ end → nth answers (i + 1) ≡ end
  -- passed are pages of the space
  pub inside : passed ≤ s.size

-- A call of the search from a page answers a reply; `reports r a` says that the reply `r` is the report of the answer `a`.

-- the replies of a list of calls, each from the next page that the one before it left; none follows a reply that reports no answer, as a refusal
pub data Calls {R : Type 0} (s : Space) (reports : R → Answer → Type 0) (call : ℕ → R) : ℕ → List R → ℕ → Type 0 where
  none : {p : ℕ} → Calls s reports call p [] p
  last : {p : ℕ} → p < s.size → ((a : Answer) → reports (call p) a → ⊥) → Calls s reports call p (call p ∷ []) p
  more : {p e : ℕ} {a : Answer} {replies : List R} → p < s.size → reports (call p) a → Calls s reports call (next s a) replies e
      → Calls s reports call p (call p ∷ replies) e

-- each reply is the report of the answer at its place
pub data Each {R : Type 0} (reports : R → Answer → Type 0) : List R → List Answer → Type 0 where
  none : Each reports [] []
  more : {r : R} {a : Answer} {replies : List R} {answers : List Answer} → reports r a → Each reports replies answers → Each reports (r ∷ replies) (a ∷ answers)

-- the claims about a list of calls from page zero
pub record Agreement {R : Type 0} (s : Space) (reports : R → Answer → Type 0) (call : ℕ → R) (replies : List R) (passed : ℕ) : Type 0 where
  pub answers : List Answer
  -- no search of the list is refused: each replies with its answer
  pub reported : Each reports replies answers
  pub agrees : Agrees s answers passed
  -- every list extends to one that is over, and then all pages are passed
  pub extends : (later : List R) × Calls s reports call 0 (replies ++ later) s.size

-- The claims pin a list down: two lists that meet them for the same passed pages have the same answer at every place, and where both are of runs and stops alone, so
-- without an `end` as their last, they are the same list.
abbrev pub RunsAndStops : List Answer → Type 0
RunsAndStops answers = (i : ℕ) → i < length answers → nth answers i ≡ end → ⊥

abbrev pub Unique : Type 0
Unique =
    (s : Space) (a b : List Answer) (passed : ℕ) → Agrees s a passed → Agrees s b passed → ((i : ℕ) → nth a i ≡ nth b i) × (RunsAndStops a → RunsAndStops b → a ≡ b)
