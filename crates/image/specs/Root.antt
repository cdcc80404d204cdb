-- The root of a search over one image.
use Rattle.std.specs.Prelude.{ℕ, List, [], ◌∷◌, length, Result}
use Rattle.answer.specs.declared.refusal.Refusal.{Refusal}
use Rattle.paging.specs.Memory.{Segment, place_from}
use Rattle.paging.specs.Search.{search_refusal}
use Rattle.walk.specs.Root.{Placed}

-- the image is one segment
abbrev pub whole : List ℕ → (base : ℕ) → List Segment
whole image base = record { base = base; words = length image } ∷ []

-- its place, or the refusal, at the width `w`
abbrev pub Rooted : (w : ℕ) → List ℕ → (base root page : ℕ) → Result ℕ Refusal → Type 0
Rooted w image base root page r = Placed (search_refusal w image base root page) (place_from 0 (whole image base) root) r
