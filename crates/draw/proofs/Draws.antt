-- The laws of draws, as the proofs of the code cite them.
use Prim.Native.Nat.{ℕ, ◌+◌, ◌-◌, ◌*◌, ◌/◌, ◌≤◌, ◌<◌, min}
use mathlib.Core.Path.{◌≡◌, refl, ap}
use native.Mathlib.Omega.{arith}
use native.Mathlib.Decide.{dec_lt}
use native.Mathlib.Nat.{min-le_right, mul-le-mul_right, div-mul-le_self}
use Rattle.std.proofs.lemmas.Bool.Decides.{nat_tests}
use Rattle.laws.specs.Run.{len_below, len_through}
use Rattle.laws.proofs.Cases.{by_cases}
use Rattle.laws.proofs.Run.{run_at, back_at, last-below, last-through, back-within, after_last}
use Rattle.laws.proofs.Next.{next-below-none, next-below-some, next-back-below-none, next-back-below-some, next-through-none, next-through-top, next-through-some, next-back-through-none, next-back-through-first, next-back-through-some, rest-room}

pub ruleset items = (nat_tests, run_at, back_at)

-- what is taken of an exclusive range lies between its ends
pub taken_below : (a b s n : ℕ) → min (n + 1) (len_below a b s) * s ≤ b - a
unfolding len_below
taken_below a b s n = omega (arith, mul-le-mul_right s (min-le_right (n + 1) ((b - a) / s)), div-mul-le_self (b - a) s)

pub ruleset below = (nat_tests, last-below, taken_below)

-- what is taken of an inclusive range passes 0 only where the start is below one size
pub taken_through : (a b s n : ℕ) → s ≤ a → min (n + 1) (len_through a b s) * s ≤ b
taken_through a b s n h = by_cases (dec_lt b (min (n + 1) (len_through a b s) * s)) (λ l. absurd (passed (min (n + 1) (len_through a b s)) refl l)) (λ m. omega arith)
  where
    passed : (j : ℕ) → j ≡ min (n + 1) (len_through a b s) → b < j * s → ⊥
    passed j e l =
        let p : j ≡ 0 → ⊥ = λ z. omega (arith, ap (λ (x : ℕ). x * s) z) in
        omega (arith, back-within a b s n (len_through a b s) j refl e p, after_last j s p)

pub ruleset through = (nat_tests, last-through, taken_through)

pub ruleset next_below = (nat_tests, next-below-none, next-below-some)

pub ruleset next_back_below = (nat_tests, next-back-below-none, next-back-below-some, rest-room)

pub ruleset next_through = (nat_tests, next-through-none, next-through-top, next-through-some)

pub ruleset next_back_through = (nat_tests, next-back-through-none, next-back-through-first, next-back-through-some)
