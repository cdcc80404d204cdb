-- Sign extension is its two cases, and canonical: over the width, and at 48 and 57 bits.
use mathlib.Core.Path.{◌≡◌}
use Prim.Native.Nat.{ℕ}
use native.Mathlib.Omega.{arith}
use Rattle.laws.specs.Width.{IsWidth, sign_extend, CopiesBit}
use Rattle.laws.specs.SignExtension.{SignExtension, At48, At57}
use Rattle.laws.proofs.Width.{width-48, width-57, bit_clear, bit_set, sign-lt, sign-canonical, canonical-fixed, canonical-by-bits}

module _ (w : ℕ) (v : IsWidth w) where
  copies : (a : ℕ) → sign_extend w a ≡ a → CopiesBit w a
  copies a e = (canonical-by-bits w v a (omega (arith, sign-lt w v a))).0 ((canonical-fixed w v a).1 e)

  pub sign-extension : SignExtension w
  sign-extension =
      record {
        bit-clear = bit_clear w;
        bit-set = bit_set w;
        answer-canonical = λ a. (sign-lt w v a, copies (sign_extend w a) ((canonical-fixed w v (sign_extend w a)).0 (sign-canonical w v a)));
        unchanged = λ a. (λ e. (omega (arith, sign-lt w v a), copies a e), λ c. (canonical-fixed w v a).0 ((canonical-by-bits w v a c.0).1 c.1));
      }

pub at-48 : At48
at-48 = let l = sign-extension 48 width-48 in record { law = l; bit-clear = l.bit-clear; bit-set = l.bit-set }

pub at-57 : At57
at-57 = let l = sign-extension 57 width-57 in record { law = l; bit-clear = l.bit-clear; bit-set = l.bit-set }
