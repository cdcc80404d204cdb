-- A displacement from the instruction pointer, over the width: when each answer comes, that the opposite displacement leads back, and that `+` and `-` with a count answer the same.
-- The sentences are those of document 02, request Two.
use Rattle.std.specs.Prelude.{ℕ, ◌+◌, ◌-◌, ◌^◌, ◌<◌, ◌≡◌, ◌≢◌, ◌↔◌, ◌⊎◌, true, false, ℤ, pos, negsuc, neg_ℤ, ◌+ℤ◌, ◌≤ℤ◌, ◌<ℤ◌, FitsSigned}
use Rattle.std.specs.Int.{w32}
use Rattle.answer.specs.Outcome.{gives, refuses}
use Rattle.laws.specs.Width.{canonical}
use Rattle.laws.specs.Address.{virt, plus, minus, plus_signed}

-- the least displacement, −2^31
abbrev pub least : ℤ
least = neg_ℤ (pos (2 ^ 31))

-- "The displacement is a signed 32-bit number": from −2^31 to 2^31 − 1
pub record IsDisplacement (d : ℤ) : Type 0 where
  pub at_least : least ≤ℤ d
  pub at_most : d ≤ℤ pos (2 ^ 31 - 1)

-- when each answer comes
pub record Displaced (w : ℕ) : Type 0 where
  -- a number that is no address, whatever the displacement: "added to a canonical address"
  pub refused-1 : (a : ℕ) (d : ℤ) → (plus_signed (virt w) a d ≡ refuses 1) ↔ (canonical w a ≡ false)
  -- "5 if the sum goes below zero or past 64 bits"
  pub refused-5 : (a : ℕ) (d : ℤ) → canonical w a ≡ true
      → (plus_signed (virt w) a d ≡ refuses 5) ↔ ((pos a +ℤ d) <ℤ pos 0 ⊎ pos (2 ^ 64) ≤ℤ (pos a +ℤ d))
  -- "then 6 if it isn't canonical"
  pub refused-6 : (a n : ℕ) (d : ℤ) → canonical w a ≡ true → pos a +ℤ d ≡ pos n → n < 2 ^ 64 → (plus_signed (virt w) a d ≡ refuses 6) ↔ (canonical w n ≡ false)
  -- "Otherwise the answer is the exact whole-number sum"
  pub answered : (a n : ℕ) (d : ℤ) → (plus_signed (virt w) a d ≡ gives n) ↔ ((canonical w a ≡ true) × ((canonical w n ≡ true) × (pos a +ℤ d ≡ pos n)))

-- which displacements have an opposite: "a displacement other than −2^31 and then its opposite"
pub record Opposites : Type 0 where
  -- the numbers meant are all that an i32 holds
  pub all : (d : ℤ) → FitsSigned w32 d ↔ IsDisplacement d
  pub opposite : (d : ℤ) → IsDisplacement d → d ≢ least → IsDisplacement (neg_ℤ d)
  -- why not −2^31: its opposite is no signed 32-bit number
  pub no-opposite : IsDisplacement (neg_ℤ least) → ⊥

-- "Applying a displacement other than −2^31 and then its opposite gives the first address back, if the first was answered."
pub record Returns (w : ℕ) : Type 0 where
  pub back : (a n : ℕ) (d : ℤ) → IsDisplacement d → d ≢ least → plus_signed (virt w) a d ≡ gives n → plus_signed (virt w) n (neg_ℤ d) ≡ gives a

-- by `+` and `-` with a count, as document 01 has them: what `+` answers with a displacement that isn't negative, else what `-` answers with its size, n + 1 for −(n + 1)
pub record AsCount (w : ℕ) : Type 0 where
  pub as_plus : (a n : ℕ) → plus_signed (virt w) a (pos n) ≡ plus (virt w) a n
  pub as_minus : (a n : ℕ) → plus_signed (virt w) a (negsuc n) ≡ minus (virt w) a (n + 1)
