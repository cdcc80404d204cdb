-- The run search over the pages of a space, and lists of searches. The sentences are those of document 01, "Translation and mapped runs".
use Rattle.std.specs.Prelude.{ℕ, zero, suc, ◌+◌, ◌-◌, ◌<◌, cond, List, [], ◌∷◌, ltb}
use Rattle.mapping.specs.Pages.{Rights, Reason, PageState, absent, broken, mapped, same_state, Space, span_end}

-- the first of the `k` pages from `p` on that is not as `w` says; `p + k` where each of them is
unfoldable pub first : (f w : ℕ → PageState) → (k p : ℕ) → ℕ
first f w zero p = p
first f w (suc k) p = elim (same_state (f p) (w p)) [ yes _ ↦ first f w k (suc p) | no _ ↦ p ]

-- pages that are all absent
unfoldable pub nothing : ℕ → PageState
nothing x = absent

-- "frames and rights consecutive and equal": pages mapped from page `q` and frame `g` on
unfoldable pub line : (q g : ℕ) → Rights → ℕ → PageState
line q g h x = mapped (g + (x - q)) h

-- the page after the half that page `q` is in
unfoldable pub half_end : Space → ℕ → ℕ
half_end s q = cond (ltb q s.high) s.high s.size

-- "None: End. Reserved or outside: Stop with q, level, reason. Mapped: the longest run"; "A run answers its first page, first frame, count (at least 1) and rights."
pub data Answer : Type 0 where
  end : Answer
  stop : (page level : ℕ) (reason : Reason) → Answer
  run : (page frame count : ℕ) (rights : Rights) → Answer

-- "the longest run from q in the same half with frames and rights consecutive and equal"
unfoldable pub answer_at : Space → ℕ → PageState → Answer
answer_at s q absent = end
answer_at s q (broken l r) = stop q l r
answer_at s q (mapped g h) = run q g (first s.page (line q g h) (half_end s q - q) q - q) h

unfoldable pub answer_from : Space → ℕ → Answer
answer_from s q = cond (ltb q s.size) (answer_at s q (s.page q)) end

-- "The search from page p takes the first page q ≥ p that isn't absent."
unfoldable pub search : Space → ℕ → Answer
search s p = answer_from s (first s.page nothing (s.size - p) p)

-- "The next page is the one after the last page of the run or of that span". "After a run or stop that reaches the last page the search is over", and by End: then
-- it is `size`, and no page is left
unfoldable pub next : Space → Answer → ℕ
next s end = s.size
next s (stop q l r) = span_end (s.span l) q
next s (run q g c h) = q + c

-- "Each search of a list gets the next page that the one before it left; none follows once the search is over": the answers of a list of searches that begins at
-- page `p`, and the next page that its last one left
pub data Searches (s : Space) : ℕ → List Answer → ℕ → Type 0 where
  none : {p : ℕ} → Searches s p [] p
  more : {p e : ℕ} {answers : List Answer} → p < s.size → Searches s (next s (search s p)) answers e → Searches s p (search s p ∷ answers) e

-- at most `k` of them, and the next page that the last of these left
unfoldable pub answers_from : Space → (k p : ℕ) → List Answer
answers_from s zero p = []
answers_from s (suc k) p = cond (ltb p s.size) (search s p ∷ answers_from s k (next s (search s p))) []

unfoldable pub left_after : Space → (k p : ℕ) → ℕ
left_after s zero p = p
left_after s (suc k) p = cond (ltb p s.size) (left_after s k (next s (search s p))) p
