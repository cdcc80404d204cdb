-- The ways to say that a number is canonical come to the same.
use mathlib.Core.Path.{◌≡◌}
use mathlib.Core.Bool.{true}
use Prim.Native.Nat.{ℕ, ◌-◌, ◌^◌, ◌≤◌, ◌<◌}
use native.Mathlib.Omega.{arith}
use lib.Pow.{pow_mono}
use borrow.Author.Tests.{eqb-true, eq-eqb}
use Rattle.laws.specs.Form.{CanonicalForm}
use Rattle.laws.specs.Width.{IsWidth, sign_extend, canonical, InGap, half}
use Rattle.laws.proofs.Width.{canonical-by-bits, canonical-no-gap, no-gap-canonical}

module _ (w : ℕ) (v : IsWidth w) where
  no-gap : (a : ℕ) → canonical w a ≡ true → InGap w a → ⊥
  no-gap a c = canonical-no-gap w v a (eqb-true (sign_extend w a) a c)

  outside : (a : ℕ) → a < 2 ^ 64 → (InGap w a → ⊥) → canonical w a ≡ true
  outside a f n = eq-eqb (sign_extend w a) a (no-gap-canonical w v a f n)

wider : (w u a : ℕ) → IsWidth w → IsWidth u → w ≤ u → a < 2 ^ 64 → canonical w a ≡ true → canonical u a ≡ true
wider w u a v x l f c =
    let h : half w ≤ half u = pow_mono {i = w - 1} {j = u - 1} (omega arith) in
    outside u x a f (λ g. no-gap w v a c (omega arith, omega arith))

pub canonical-form : (w : ℕ) → IsWidth w → CanonicalForm w
canonical-form w v =
    record {
      by-bits = canonical-by-bits w v;
      outside-gap = λ a f. (no-gap w v a, outside w v a f);
      wider = λ u a x l f c. wider w u a v x l f c;
    }
