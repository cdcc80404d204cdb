-- The number of a refusal, as the first of two.
use Rattle.std.specs.Prelude.{◌≡◌, ℕ}
use Rattle.answer.specs.Answers.{number_of}
use Rattle.answer.specs.declared.refusal.Refusal.{Refusal}
use Rattle.answer.proofs.Refused.{not_zero}
use Rattle.laws.proofs.Item.{first-refused}
use Rattle.laws.specs.Item.{first_refusal}

pub first_number : (r : Refusal) (m : ℕ) → first_refusal (number_of r) m ≡ number_of r
first_number r m = first-refused (number_of r) m (not_zero r)
