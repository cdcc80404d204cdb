-- A field of a number by its bits.
use Prim.Native.Nat.{ℕ, zero, suc, ◌+◌, ◌*◌, ◌/◌, ◌%◌, ◌^◌, ◌≤◌, ◌<◌}
use mathlib.Core.Path.{◌≡◌, sym, ap, ◌∙◌}
use native.Mathlib.Omega.{arith}
use native.Mathlib.Nat.{mod-one}
use lib.Pow.{mod-pow-add, shr-shr}
use Rattle.laws.specs.Width.{bit}

-- the highest bit of a field, and the rest of it
next_bit : (a n v : ℕ) → v / 2 ^ a % 2 ^ suc n ≡ bit (a + n) v * 2 ^ n + v / 2 ^ a % 2 ^ n
next_bit a n v =
    let e : suc n ≡ 1 + n = omega arith in
    rw e (mod-pow-add (v / 2 ^ a) 1 n ∙ ap (λ (x : ℕ). x % 2 * 2 ^ n + v / 2 ^ a % 2 ^ n) (shr-shr v a n))

-- `n` bits from bit `a` on are the same in two numbers that have the same bits there
pub same-field : (a n v u : ℕ) → ((k : ℕ) → a ≤ k → k < a + n → bit k v ≡ bit k u) → v / 2 ^ a % 2 ^ n ≡ u / 2 ^ a % 2 ^ n
same-field a zero v u h = mod-one (v / 2 ^ a) ∙ sym (mod-one (u / 2 ^ a))
same-field a (suc n) v u h =
    next_bit a n v
    ∙ ap (λ (x : ℕ). x * 2 ^ n + v / 2 ^ a % 2 ^ n) (h (a + n) (omega arith) (omega arith))
    ∙ ap (λ (x : ℕ). bit (a + n) u * 2 ^ n + x) (same-field a n v u (λ k i j. h k i (omega arith)))
    ∙ sym (next_bit a n u)
