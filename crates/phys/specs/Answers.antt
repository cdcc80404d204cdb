-- What an answer with a physical address stands for.
use Rattle.std.specs.Prelude.{ℕ, Result}
use Rattle.answer.specs.Outcome.{Outcome}
use Rattle.answer.specs.Answers.{outcome_of}
use Rattle.answer.specs.declared.refusal.Refusal.{Refusal}
use Rattle.phys.specs.declared.phys_addr.PhysAddr.{PhysAddr}

abbrev pub phys_of : Result PhysAddr Refusal → Outcome ℕ
phys_of = outcome_of (λ a. a.0)
