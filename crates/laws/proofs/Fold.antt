-- "Virtual results are sign-extended as in the source, so downward to 2^48 gives 0": to every power of two from 2^w on.
use Prim.Native.Nat.{ℕ, ◌+◌, ◌-◌, ◌*◌, ◌/◌, ◌^◌, ◌≤◌}
use mathlib.Core.Path.{◌≡◌, sym, ◌∙◌}
use mathlib.Core.Bool.{true}
use native.Mathlib.Omega.{arith}
use native.Mathlib.Nat.{mul-mod_left, mul_assoc, zero-mod}
use lib.Count.{ones, ones_cat}
use lib.Pow.{pow_pos}
use borrow.Author.Tests.{eq-eqb}
use Rattle.answer.specs.Outcome.{gives}
use Rattle.laws.specs.Width.{IsWidth, low, canonical, sign_extend}
use Rattle.laws.specs.Align.{power_of_two, down}
use Rattle.laws.proofs.Width.{sign-by-low, sign_zero}
use Rattle.laws.proofs.Align.{blocks}
use Rattle.laws.specs.Address.{align_down_virt}

power : (k : ℕ) → power_of_two (2 ^ k) ≡ true
unfolding ones
power k =
    let e : 1 * 2 ^ k + 0 ≡ 2 ^ k = omega arith in
    let f : ones (1 * 2 ^ k + 0) ≡ 1 = ones_cat k 1 0 (pow_pos k) in
    eq-eqb (ones (2 ^ k)) 1 (rw e at f)

module _ (w k : ℕ) (v : IsWidth w) (h : w ≤ k) where
  low-multiple : (n : ℕ) → low w (n * 2 ^ k) ≡ 0
  low-multiple n =
      rw (← blocks w k h, ← mul_assoc n (2 ^ (k - w)) (2 ^ w)) (mul-mod_left (n * 2 ^ (k - w)) (2 ^ w))

  pub down-to-zero : (a : ℕ) → canonical w a ≡ true → align_down_virt w a (2 ^ k) ≡ gives 0
  unfolding down
  down-to-zero a c =
      let s : sign_extend w (a / 2 ^ k * 2 ^ k) ≡ 0 = sign-by-low w v (a / 2 ^ k * 2 ^ k) 0 (low-multiple (a / 2 ^ k) ∙ sym (zero-mod (2 ^ w))) ∙ sign_zero w in
      simp (c, power k, s)
