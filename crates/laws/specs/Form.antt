-- What a canonical number is, over the width `w`: by its bits, and by the gap.
use Rattle.std.specs.Prelude.{ℕ, ◌^◌, ◌≤◌, ◌<◌, ◌≡◌, true, ◌↔◌}
use Rattle.laws.specs.Width.{IsWidth, canonical, CopiesBit, InGap}

pub record CanonicalForm (w : ℕ) : Type 0 where
  -- "bits 48 to 63 equal bit 47"; document 02, request Four: "bits 57 to 63 copy bit 56"
  pub by-bits : (a : ℕ) → a < 2 ^ 64 → (canonical w a ≡ true) ↔ CopiesBit w a
  -- all but the numbers in the gap
  pub outside-gap : (a : ℕ) → a < 2 ^ 64 → (canonical w a ≡ true) ↔ (InGap w a → ⊥)
  -- an address is one at any greater width too
  pub wider : (u a : ℕ) → IsWidth u → w ≤ u → a < 2 ^ 64 → canonical w a ≡ true → canonical u a ≡ true
