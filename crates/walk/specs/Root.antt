-- Where the root of an image is, or the refusal, as the code has it.
use Rattle.std.specs.Prelude.{ℕ, ◌≡◌, List, Result, Ok, Err}
use Rattle.std.proofs.Math.Option.{Option, some}
use Rattle.answer.specs.Outcome.{Outcome, gives, and_then}
use Rattle.answer.specs.Answers.{number_of}
use Rattle.answer.specs.declared.refusal.Refusal.{Refusal}
use Rattle.laws.specs.Address.{virt, phys}
use Rattle.laws.specs.Item.{item_refusal, first_refusal, given_item}
use Rattle.paging.specs.Memory.{Segment, place_from}
use Rattle.paging.specs.Translate.{root_refusal}

-- the number that refuses, 0 for none, and the place
abbrev pub Placed : (refusal : ℕ) → Option ℕ → Result ℕ Refusal → Type 0
Placed k o (Ok p) = (k ≡ 0) × (o ≡ some p)
Placed k o (Err r) = k ≡ number_of r

abbrev pub RootAt : List Segment → (a : ℕ) → Result ℕ Refusal → Type 0
RootAt segments a = Placed (root_refusal a (place_from 0 segments a)) (place_from 0 segments a)

-- with the base of one image, which is tried first
abbrev pub ImageAt : List Segment → (base a : ℕ) → Result ℕ Refusal → Type 0
ImageAt segments base a = Placed (first_refusal (item_refusal (phys 52) base 0x1000) (root_refusal a (place_from 0 segments a))) (place_from 0 segments a)

-- with the page that a search is from, at the width `w`, which is tried last, so where the image is not refused
abbrev pub with_page : (w page : ℕ) → Outcome ℕ → Outcome ℕ
with_page w x place = and_then place (λ p. given_item (virt w) x 0x1000 (gives p))
