-- Canonical form, over the address width `w`: 48 bits with four levels of tables, 57 with five.
use Rattle.std.specs.Prelude.{ℕ, ◌+◌, ◌-◌, ◌/◌, ◌%◌, ◌^◌, ◌≤◌, ◌<◌, ◌≡◌, Bool, cond, eqb}

-- what the laws ask of a width: more than a page's offset, and less than the 64 bits of a number
pub record IsWidth (w : ℕ) : Type 0 where
  pub above : 12 < w
  pub below : w < 64

-- a width in which a page of any size is much less than a half: what is said of ranges of pages is over these
pub record PageWidth : Type 0 where
  pub bits : ℕ
  pub width : IsWidth bits
  pub wide : 47 < bits

-- the bit `k` of a number, 0 or 1
abbrev pub bit : ℕ → ℕ → ℕ
bit k a = a / 2 ^ k % 2

-- "Low48 is its value modulo 2^48."
abbrev pub low : ℕ → ℕ → ℕ
low w a = a % 2 ^ w

-- the first number whose bit `w` − 1 is set: as many numbers are in each half
abbrev pub half : ℕ → ℕ
half w = 2 ^ (w - 1)

-- "virtual copies bit 47 upward" (`new_truncate`), as two cases, document 02, request Five: "the number modulo 2^48 if the bit is clear, that plus 2^64 − 2^48 if it is set";
-- "bits 57 to 63 copy bit 56" (request Four)
unfoldable pub sign_extend : ℕ → ℕ → ℕ
sign_extend w a = cond (eqb (bit (w - 1) a) 0) (low w a) (low w a + (2 ^ 64 - 2 ^ w))

-- "A virtual address is canonical if bits 48 to 63 equal bit 47."; "bits 57 to 63 copy bit 56" (document 02, request Four)
abbrev pub CopiesBit : ℕ → ℕ → Type 0
CopiesBit w a = (k : ℕ) → w ≤ k → k < 64 → bit k a ≡ bit (w - 1) a

-- the same as a test: copying the bit upward changes nothing (`canonical-by-bits` of proofs/Width.antt)
abbrev pub canonical : ℕ → ℕ → Bool
canonical w a = eqb (sign_extend w a) a

-- the first address above the gap, 0xffff_8000_0000_0000 at 48 bits, 0xff00_0000_0000_0000 at 57
abbrev pub first_high : ℕ → ℕ
first_high w = 2 ^ 64 - half w

-- "The gap lies between 0x7fff_ffff_ffff and 0xffff_8000_0000_0000": above the low half, below the high one; at 57 bits "between 0x00ff_ffff_ffff_ffff and 0xff00_0000_0000_0000" (document 02,
-- request Four)
abbrev pub InGap : ℕ → ℕ → Type 0
InGap w a = (half w ≤ a) × (a < 2 ^ 64 - half w)

-- a low address, then a high one: the gap lies between
pub record OverGap (w a b : ℕ) : Type 0 where
  pub start_low : a < half w
  pub end_high : first_high w ≤ b

-- two addresses in one half: "A half is the pages below the gap or those above it."
pub data InOneHalf (w a b : ℕ) : Type 0 where
  both_low : a < half w → b < half w → InOneHalf w a b
  both_high : first_high w ≤ a → first_high w ≤ b → InOneHalf w a b
