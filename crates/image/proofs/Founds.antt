-- The page that an answer of the search leaves, by its case.
use Rattle.std.specs.Prelude.{◌≡◌, ℕ, ◌+◌, ◌-◌, refl}
use Rattle.mapping.specs.Pages.{PageState}
use Rattle.mapping.specs.Search.{next}
use Rattle.mapping.specs.Walk.{span_pages, space_of}
use Rattle.paging.specs.Span.{after}
use Rattle.walk.specs.declared.rights.Rights.{Rights}
use Rattle.found.specs.Found.{answer_of}
use Rattle.found.specs.declared.found.Found.TheVariants as found
use Rattle.found.specs.declared.progress.StopReason.{StopReason}

module _ (levels : ℕ) (page : ℕ → PageState) where
  pub after-end : span_pages levels ≡ next (space_of levels page) (answer_of found.End)
  unfolding next
  after-end = refl

  pub after_run : (q g c : ℕ) (h : Rights) → q + c ≡ next (space_of levels page) (answer_of (found.Run q g c h))
  unfolding next
  after_run q g c h = refl

  pub after_stop : (q l : ℕ) (r : StopReason) → after (l - 1) q ≡ next (space_of levels page) (answer_of (found.Stop q l r))
  unfolding next after
  after_stop q l r = refl
