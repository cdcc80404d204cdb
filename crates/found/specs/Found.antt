-- What the cases of the code's answers stand for, and the answer made of what a search has found on its way: "the longest run from q in the same half" (document 01,
-- "Translation and mapped runs").
use Rattle.std.specs.Prelude.{ℕ, ◌-◌, ◌/◌, min, cond, ltb}
use Rattle.mapping.specs.Pass.{Progress, unfound, stopped, running}
use Rattle.mapping.specs.Search.{Answer, end, stop, run}
use Rattle.walk.specs.Rights.{rights_held}
use Rattle.found.specs.Progress.{reason_of}
use Rattle.found.specs.declared.found.Found.{Found}
use Rattle.found.specs.declared.found.Found.TheVariants as found

abbrev pub answer_of : Found → Answer
answer_of found.End = end
answer_of (found.Run q g c h) = run q g c (rights_held h)
answer_of (found.Stop q l r) = stop q l (reason_of r)

-- the page after the half that page `q` is in, of so many pages
abbrev pub end_of_half : (q pages : ℕ) → ℕ
end_of_half q pages = cond (ltb q (pages / 2)) (pages / 2) pages

-- the answer of a search that has come to page `x`, of so many pages, of which half are above the gap: the pages of a run are those before `x` and in their half
abbrev pub answer_in : (pages : ℕ) → Progress → ℕ → Answer
answer_in pages unfound x = end
answer_in pages (stopped q l r) x = stop q l r
answer_in pages (running q g h) x = run q g (min x (end_of_half q pages) - q) h
