-- The rule of a table of numbers, at every entry, by one test that is computed over the whole table.
use mathlib.Core.Path.{◌≡◌, refl}
use mathlib.Core.Bool.{Bool, true, false, cond}
use mathlib.Core.List.{List, [], ◌∷◌}
use Prim.Native.Nat.{ℕ, zero, suc, ◌+◌, ◌<◌}
use native.Mathlib.Omega.{arith}
use native.Mathlib.Nat.{add-zero, zero-add}
use lib.Dec.{eqb}
use lib.ListN.{length, get_or}
use borrow.Author.Tests.{eqb-true}

-- each entry is what the rule gives for its place, counted from `i`
abbrev pub follows : (ℕ → ℕ) → ℕ → List ℕ → Bool
follows f i [] = true
follows f i (x ∷ xs) = cond (eqb x (f i)) (follows f (suc i) xs) (eqb x (f i))

split : (b c : Bool) → cond b c b ≡ true → (b ≡ true) × (c ≡ true)
split true c e = (refl, e)
split false c e = let z : ◌≡◌ {A = ℕ} 0 1 = cc in absurd (omega arith)

from : (f : ℕ → ℕ) (xs : List ℕ) (i : ℕ) → follows f i xs ≡ true → (k : ℕ) → k < length xs → get_or xs k 0 ≡ f (i + k)
from f [] i t k h = absurd (omega arith)
from f (x ∷ xs) i t zero h = rw (add-zero i) (eqb-true x (f i) (split (eqb x (f i)) (follows f (suc i) xs) t).0)
from f (x ∷ xs) i t (suc k) h =
    let e : i + suc k ≡ suc i + k = omega arith in
    rw e (from f xs (suc i) (split (eqb x (f i)) (follows f (suc i) xs) t).1 k (omega arith))

pub entry : (f : ℕ → ℕ) (xs : List ℕ) → follows f 0 xs ≡ true → (k : ℕ) → k < length xs → get_or xs k 0 ≡ f k
entry f xs t k h = let e = from f xs 0 t k h in rw zero-add at e
