-- Decisions and tests, taken apart.
use Prim.Native.Nat.{ℕ}
use mathlib.Core.Path.{◌≡◌, refl}
use mathlib.Core.Bool.{Bool, true, false, ◌&&◌}
use native.Mathlib.Omega.{arith}

pub by_cases : {A C : Type 0} → Dec A → (A → C) → ((A → ⊥) → C) → C
by_cases (yes a) f g = f a
by_cases (no n) f g = g n

pub and-false : (t : Bool) → (t && false) ≡ false
and-false true = refl
and-false false = refl

-- the parts of three joined tests
pub all_three : (x y z : Bool) → (x && (y && z)) ≡ true → (x ≡ true) × ((y ≡ true) × (z ≡ true))
all_three true true z e = (refl, (refl, e))
all_three true false z e = let o : ◌≡◌ {A = ℕ} 0 1 = cc in absurd (omega arith)
all_three false y z e = let o : ◌≡◌ {A = ℕ} 0 1 = cc in absurd (omega arith)
