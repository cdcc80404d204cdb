-- Pages and frames in the convention.
use Rattle.std.specs.Prelude.{ℕ, List, [], ◌∷◌}
use Rattle.answer.specs.Outcome.{Outcome}
use Rattle.laws.specs.Item.{Item}
use Rattle.status.specs.Convention.{in_words}

-- a page or a frame is told by its start: its size is the one that was handed in, or that the call's name says
abbrev pub start_word : Outcome Item → Outcome (List ℕ)
start_word o = in_words (λ i. i.start ∷ []) o
