-- What an answer with an index, an offset or a level stands for.
use Rattle.std.specs.Prelude.{ℕ, Option, Result, Some, None}
use Rattle.answer.specs.Outcome.{Outcome, gives, none}
use Rattle.answer.specs.Answers.{outcome_of, optional_of}
use Rattle.answer.specs.declared.refusal.Refusal.{Refusal}
use Rattle.table.specs.Level.{level_of}
use Rattle.table.specs.declared.up_to.UpTo.{UpTo}
use Rattle.table.specs.declared.level.PageTableLevel.{PageTableLevel}

abbrev pub small_of : {n : ℕ} → Result (UpTo n) Refusal → Outcome ℕ
small_of = outcome_of (λ i. i.0)

abbrev pub small_step_of : {n : ℕ} → Result (Option (UpTo n)) Refusal → Outcome ℕ
small_step_of = optional_of (λ i. i.0)

abbrev pub level_answer_of : Option PageTableLevel → Outcome ℕ
level_answer_of (Some l) = gives (level_of l)
level_answer_of None = none
