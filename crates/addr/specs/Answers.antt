-- What an answer with a virtual address stands for.
use Rattle.std.specs.Prelude.{ℕ, Option, Result}
use Rattle.answer.specs.Outcome.{Outcome}
use Rattle.answer.specs.Answers.{outcome_of, optional_of}
use Rattle.answer.specs.declared.refusal.Refusal.{Refusal}
use Rattle.addr.specs.declared.virt_addr.VirtAddr.{VirtAddr}

abbrev pub virt_of : Result VirtAddr Refusal → Outcome ℕ
virt_of = outcome_of (λ a. a.0)

abbrev pub virt_step_of : Result (Option VirtAddr) Refusal → Outcome ℕ
virt_step_of = optional_of (λ a. a.0)
