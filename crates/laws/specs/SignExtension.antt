-- Sign extension in its two cases, by the bit that is copied upward: the file to hold against the manual. The sentences are those of document 02, request Five, where no other is named.
-- `sign_extend w` is what truncation to `w` bits answers, by the contracts of `new_truncate` (crates/addr/src/virt_addr.rt: of `VirtAddr` at 48 bits, of `Width` at 48 and 57) and of
-- `Width::truncate` (crates/addr/src/width.rt), which is written as these two cases.
-- `bit k a` is bit k of the number a: a / 2^k modulo 2. `CopiesBit w a`: each bit of a from w to 63 equals bit w − 1. `(a : ℕ) → P → Q` is: for every number a, of any length, if P then Q.
-- `%` is modulo, `≡` is equal, `×` is and, `↔` is exactly if.
use Rattle.std.specs.Prelude.{ℕ, ◌+◌, ◌-◌, ◌%◌, ◌^◌, ◌<◌, ◌≡◌, ◌↔◌}
use Rattle.laws.specs.Width.{bit, sign_extend, CopiesBit}

-- over the width `w`, more than 12 and less than 64: "This is proved for a width as parameter, and 48 and 57 cite it." (`sign-extension` of proofs/SignExtension.antt)
pub record SignExtension (w : ℕ) : Type 0 where
  -- "the number modulo 2^48 if the bit is clear"
  pub bit-clear : (a : ℕ) → bit (w - 1) a ≡ 0 → sign_extend w a ≡ a % 2 ^ w
  -- "that plus 2^64 − 2^48 if it is set"
  pub bit-set : (a : ℕ) → bit (w - 1) a ≡ 1 → sign_extend w a ≡ a % 2 ^ w + (2 ^ 64 - 2 ^ w)
  -- the answer is canonical: it has 64 bits, and "bits 48 to 63 equal bit 47" (document 01), "bits 57 to 63 copy bit 56" (document 02, request Four)
  pub answer-canonical : (a : ℕ) → (sign_extend w a < 2 ^ 64) × CopiesBit w (sign_extend w a)
  -- the answer is the number itself exactly if the number is canonical
  pub unchanged : (a : ℕ) → (sign_extend w a ≡ a) ↔ ((a < 2 ^ 64) × CopiesBit w a)

-- 48 bits: all of this at 48 (`law`), and the "two cases against the manual, bit 47 clear and bit 47 set", with 2^48 and 2^64 − 2^48 in hexadecimal
pub record At48 : Type 0 where
  pub law : SignExtension 48
  pub bit-clear : (a : ℕ) → bit 47 a ≡ 0 → sign_extend 48 a ≡ a % 0x1_0000_0000_0000
  pub bit-set : (a : ℕ) → bit 47 a ≡ 1 → sign_extend 48 a ≡ a % 0x1_0000_0000_0000 + 0xffff_0000_0000_0000

-- 57 bits: all of this at 57, and bit 56 clear and bit 56 set, with 2^57 and 2^64 − 2^57 in hexadecimal
pub record At57 : Type 0 where
  pub law : SignExtension 57
  pub bit-clear : (a : ℕ) → bit 56 a ≡ 0 → sign_extend 57 a ≡ a % 0x200_0000_0000_0000
  pub bit-set : (a : ℕ) → bit 56 a ≡ 1 → sign_extend 57 a ≡ a % 0x200_0000_0000_0000 + 0xfe00_0000_0000_0000
