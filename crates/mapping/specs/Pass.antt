-- The run search on its way over a part of the pages: what it has found, and the page that it has come to. A search over all pages goes through parts of them, one after the
-- other: `passed-search` of proofs/Pass.antt.
use Rattle.std.specs.Prelude.{ℕ, ◌-◌, min, cond, ltb}
use Rattle.mapping.specs.Pages.{Rights, Reason, PageState, absent, broken, mapped, Space}
use Rattle.mapping.specs.Search.{Answer, end, stop, run, first, nothing, line, half_end}

-- no page but absent ones; a broken page, with the level of its entry; a run, by its first page and frame
pub data Progress : Type 0 where
  unfound : Progress
  stopped : (page level : ℕ) → Reason → Progress
  running : (page frame : ℕ) → Rights → Progress

pub data Passed : Type 0 where
  at-page : Progress → (page : ℕ) → Passed

-- what begins at page `q`, up to page `e`
unfoldable pub begins : (f : ℕ → PageState) → (e q : ℕ) → PageState → Passed
begins f e q absent = at-page unfound e
begins f e q (broken l r) = at-page (stopped q l r) q
begins f e q (mapped g h) = at-page (running q g h) (first f (line q g h) (e - q) q)

-- from page `a` up to page `e`: pages are passed while they are absent, then while they are of the run; a broken page is not passed
unfoldable pub pass : (f : ℕ → PageState) → (a e : ℕ) → Progress → Passed
pass f a e unfound = cond (ltb (first f nothing (e - a) a) e) (begins f e (first f nothing (e - a) a) (f (first f nothing (e - a) a))) (at-page unfound e)
pass f a e (stopped q l r) = at-page (stopped q l r) a
pass f a e (running q g h) = at-page (running q g h) (first f (line q g h) (e - a) a)

-- the answer of a search that has come so far: a run ends with its half
unfoldable pub answer_of : Space → Passed → Answer
answer_of s (at-page unfound x) = end
answer_of s (at-page (stopped q l r) x) = stop q l r
answer_of s (at-page (running q g h) x) = run q g (min x (half_end s q) - q) h
