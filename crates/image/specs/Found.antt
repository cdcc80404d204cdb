-- What holds of the answers of searches, and what is made of one.
use Rattle.std.specs.Prelude.{ℕ, ◌+◌, ◌^◌, ◌≤◌, ◌<◌, ◌≡◌}
use Rattle.mapping.specs.Pages.{PageState}
use Rattle.mapping.specs.Search.{Answer, end, stop, run, next}
use Rattle.mapping.specs.Walk.{span_pages, space_of}
use Rattle.paging.specs.Search.{report}
use Rattle.found.specs.Found.{answer_of}
use Rattle.found.specs.declared.found.Found.{Found}
use Rattle.image.specs.Search.{reported_of}
use Rattle.image.specs.declared.run_search.SearchAnswer.{SearchAnswer}

-- what holds of the answers of searches over so many pages: a run's frames are below 2^40, a stop's level is 1 to 5, and either leaves a page up to the last
abbrev pub Kept : (pages : ℕ) → Answer → Type 0
Kept pages end = Unit {0}
Kept pages (run q g c h) = (q < pages) × (g < 2 ^ 40) × (q + c ≤ pages)
Kept pages (stop q l r) = (q < pages) × (1 ≤ l) × (l ≤ 5)

abbrev pub OfAnswer : (pages : ℕ) → Found → Type 0
OfAnswer pages f = (pages ≤ 2 ^ 45) × Kept pages (answer_of f)

-- the next page that an answer leaves
abbrev pub Leaves : (pages : ℕ) → Found → ℕ → Type 0
Leaves pages f n = (levels : ℕ) (page : ℕ → PageState) → pages ≡ span_pages levels → n ≡ next (space_of levels page) (answer_of f)

-- what is reported of it, at the width `w`
abbrev pub ReportsFound : (w : ℕ) → Found → SearchAnswer → Type 0
ReportsFound w f r = reported_of r ≡ report w (answer_of f)
