-- What steps of addresses and the steps between two are, over the width `w`. The sentences are those of document 01, "Addresses"; document 02, request Four: "Steps, distances .. are shown for a width as
-- parameter, and 48 and 57 cite that".
use Rattle.std.specs.Prelude.{ℕ, ◌+◌, ◌^◌, ◌≤◌, ◌≡◌, ◌↔◌}
use Rattle.answer.specs.Outcome.{gives, none, and_then}
use Rattle.laws.specs.Width.{low, sign_extend, InGap}
use Rattle.laws.specs.Steps.{forward, backward, steps}

pub record Stepping (w : ℕ) : Type 0 where
  -- "gives t exactly if low48(s) + n < 2^48: t canonical, low48(t) that sum": a low part is below 2^w
  pub forward-gives : (s n t : ℕ) → (forward w s n ≡ gives t) ↔ ((sign_extend w t ≡ t) × (low w t ≡ low w s + n))
  -- "gives t exactly if low48(s) ≥ n"
  pub backward-gives : (s n t : ℕ) → (backward w s n ≡ gives t) ↔ ((sign_extend w t ≡ t) × (low w t + n ≡ low w s))
  -- "low48(end) − low48(start), or `None` if end is lower"
  pub steps-gives : (s e n : ℕ) → (steps w s e ≡ gives n) ↔ (low w e ≡ low w s + n)
  -- "Stepping is bounded by 2^57": no step of so many leads anywhere
  pub bounded : (s n : ℕ) → 2 ^ w ≤ n → (forward w s n ≡ none) × (backward w s n ≡ none)
  -- they undo each other, add up, and are what lies between
  pub forward-backward : (s n t : ℕ) → sign_extend w s ≡ s → sign_extend w t ≡ t → (forward w s n ≡ gives t) ↔ (backward w t n ≡ gives s)
  pub forward-steps : (s n t : ℕ) → sign_extend w t ≡ t → (forward w s n ≡ gives t) ↔ (steps w s t ≡ gives n)
  pub forward-sum : (s m n : ℕ) → forward w s (m + n) ≡ and_then (forward w s m) (λ t. forward w t n)
  -- and none ends in the gap
  pub forward-no-gap : (s n t : ℕ) → forward w s n ≡ gives t → InGap w t → ⊥
  pub backward-no-gap : (s n t : ℕ) → backward w s n ≡ gives t → InGap w t → ⊥
