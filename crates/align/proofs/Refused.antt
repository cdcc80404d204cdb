-- What an alignment whose answer refuses says, where nothing but 4 is refused: it is no power of two.
use Prim.Native.Nat.{ℕ}
use mathlib.Core.Path.{◌≡◌, refl}
use mathlib.Core.Bool.{Bool, true, false}
use native.Mathlib.Omega.{arith}
use Rattle.answer.specs.Outcome.{gives, refuses, unless}
use Rattle.answer.specs.Refusal.{not_power_of_two}

pub refused : {A : Type 0} (k : ℕ) (t : Bool) (x : A) → refuses k ≡ unless not_power_of_two t (gives x) → t ≡ false
refused k false x e = refl
refused k true x e = let z : ◌≡◌ {A = ℕ} 0 1 = cc in absurd (omega arith)
