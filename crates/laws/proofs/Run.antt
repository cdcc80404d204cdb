-- Laws of runs, over any size and length: what stands where, from the front and from the back, and what is left after a draw.
use Prim.Native.Nat.{ℕ, zero, suc, ◌+◌, ◌-◌, ◌*◌, ◌/◌, ◌≤◌, ◌<◌, min, max}
use mathlib.Core.Path.{◌≡◌, refl, sym, ap, ◌∙◌}
use mathlib.Core.Bool.{cond}
use mathlib.Core.List.{List, [], ◌∷◌, ◌++◌, reverse, reverse-append}
use mathlib.Core.Option.{none, some}
use native.Mathlib.Omega.{arith}
use native.Mathlib.Decide.{dec_le}
use native.Mathlib.Nat.{zero-mul, suc-mul, suc-min-suc, zero-min, suc-sub-suc, sub-zero, zero-sub, add-zero, add_assoc, add_comm, div-mul-le_self, sub-eq-zero_of_le, le_of_lt, div-eq_of_lt, zero-div, div-eq-sub-div, sub-add-eq, mul-le-mul_right, add-div_right, le_trans, mul-le-mul_left}
use borrow.Author.Tests.{lt-ltb, le-ltb}
use lib.Dec.{ltb, leb-zero, leb-suc-zero, leb-suc-suc}
use lib.ListN.{length, get_elem?, drop}
use lib.Seq.{drop-nil}
use Rattle.laws.specs.Run.{run, len_below, len_through, below}

pub run_length : (a s k : ℕ) → length (run a s k) ≡ k
unfolding run
run_length a s zero = refl
run_length a s (suc k) = ap suc (run_length (a + s) s k)

-- what stands at n
pub run_at : (a s k n : ℕ) → get_elem? (run a s k) n ≡ cond (ltb n k) (some (a + n * s)) none
unfolding run
run_at a s zero n = simp leb-suc-zero
run_at a s (suc k) zero = rw (leb-suc-suc 0 k, leb-zero) (simp (zero-mul, add-zero))
run_at a s (suc k) (suc n) = run_at (a + s) s k n ∙ simp (leb-suc-suc, suc-mul, add_assoc, add_comm (n * s) s)

-- without the first m
pub run_drop : (a s k m : ℕ) → drop m (run a s k) ≡ run (a + min m k * s) s (k - m)
unfolding run
run_drop a s zero m = simp (drop-nil, zero-sub)
run_drop a s (suc k) zero = simp (zero-min, zero-mul, add-zero, sub-zero)
run_drop a s (suc k) (suc m) = run_drop (a + s) s k m ∙ simp (suc-min-suc, suc-sub-suc, suc-mul, add_assoc, add_comm (min m k * s) s)

-- the steps left after j of them, of the x from a run's start to its end
less_one : (x s : ℕ) → 0 < s → (x - s) / s ≡ x / s - 1
less_one x s p = go (dec_le s x)
  where
    go : Dec (s ≤ x) → (x - s) / s ≡ x / s - 1
    go (yes h) = omega (arith, div-eq-sub-div p h)
    go (no h) = let l : x < s = omega arith in rw (sub-eq-zero_of_le (le_of_lt l), div-eq_of_lt l, zero-div) (omega arith)

pub len-left : (x s j : ℕ) → 0 < s → (x - j * s) / s ≡ x / s - j
len-left x s zero p = simp (zero-mul, sub-zero)
len-left x s (suc j) p = rw (suc-mul, sub-add-eq, less_one (x - j * s) s p, len-left x s j p) (omega arith)

-- ---- a run from its last item
run-snoc : (a s k : ℕ) → run a s (suc k) ≡ run a s k ++ ((a + k * s) ∷ [])
unfolding run
run-snoc a s zero = simp (zero-mul, add-zero)
run-snoc a s (suc k) = ap (λ (l : List ℕ). a ∷ l) (run-snoc (a + s) s k) ∙ simp (suc-mul, add_assoc, add_comm (k * s) s)

pub run-back : (a s k : ℕ) → reverse (run a s (suc k)) ≡ (a + k * s) ∷ reverse (run a s k)
run-back a s k = rw (run-snoc, reverse-append)

-- what stands n places before the last
pub back_at : (a s k n : ℕ) → get_elem? (reverse (run a s k)) n ≡ cond (ltb n k) (some (a + (k - 1 - n) * s)) none
unfolding run
back_at a s zero n = simp leb-suc-zero
back_at a s (suc k) zero =
    let e : suc k - 1 - 0 ≡ k = omega arith in
    ap (λ (l : List ℕ). get_elem? l 0) (run-back a s k) ∙ rw (leb-suc-suc 0 k, leb-zero, e)
back_at a s (suc k) (suc n) =
    let e : suc k - 1 - suc n ≡ k - 1 - n = omega arith in
    ap (λ (l : List ℕ). get_elem? l (suc n)) (run-back a s k) ∙ rw (leb-suc-suc, e) (back_at a s k n)

-- without the last m
pub back-drop : (a s k m : ℕ) → drop m (reverse (run a s k)) ≡ reverse (run a s (k - m))
unfolding run
back-drop a s zero m = simp (drop-nil, zero-sub)
back-drop a s (suc k) zero = simp sub-zero
back-drop a s (suc k) (suc m) = rw run-back (back-drop a s k m ∙ simp suc-sub-suc)

-- ---- the lengths
-- n of k steps, and one step more
pub steps-fit : (n k s : ℕ) → n < k → n * s + s ≤ k * s
steps-fit n k s h = omega (arith, suc-mul n s, mul-le-mul_right s h)

pub fits_below : (a b s : ℕ) → a + len_below a b s * s ≤ max a b
unfolding len_below
fits_below a b s = omega (arith, div-mul-le_self (b - a) s)

-- the last of them
pub last-below : (a b s : ℕ) → a + (len_below a b s - 1) * s ≤ max a b
last-below a b s = omega (arith, fits_below a b s, mul-le-mul_right {m = len_below a b s - 1} {n = len_below a b s} s (omega arith))

-- an inclusive range is as long as the exclusive one whose end is one step on
pub through-is : (a b s : ℕ) → 0 < s → len_through a b s ≡ len_below a (b + s) s
unfolding len_through len_below
through-is a b s p = go (dec_le a b)
  where
    go : Dec (a ≤ b) → cond (ltb b a) 0 ((b - a) / s + 1) ≡ (b + s - a) / s
    go (yes h) = let e : b + s - a ≡ (b - a) + s = omega arith in rw (le-ltb b a h, e) (sym (add-div_right (b - a) p))
    go (no h) = let l : b < a = omega arith in rw (lt-ltb b a l) (sym (div-eq_of_lt (omega arith)))

pub fits-through : (a b s : ℕ) → 0 < s → a + len_through a b s * s ≤ max a (b + s)
fits-through a b s p = rw (through-is a b s p) (fits_below a (b + s) s)

pub last-through : (a b s : ℕ) → a + (len_through a b s - 1) * s ≤ max a b
unfolding len_through
last-through a b s = go (dec_le a b)
  where
    go : Dec (a ≤ b) → a + (cond (ltb b a) 0 ((b - a) / s + 1) - 1) * s ≤ max a b
    go (yes h) = let e : (b - a) / s + 1 - 1 ≡ (b - a) / s = omega arith in rw (le-ltb b a h, e) (omega (arith, div-mul-le_self (b - a) s))
    go (no h) = rw (lt-ltb b a (omega arith)) (omega (arith, zero-mul s))

-- a step above 1 goes at most half as often
pub half : (x s : ℕ) → 1 < s → x / s * 2 ≤ x
half x s h = le_trans (mul-le-mul_left (x / s) h) (div-mul-le_self x s)

-- the last of j items taken, and the one after it
pub after_last : (j s : ℕ) → (j ≡ 0 → ⊥) → (j - 1) * s + s ≡ j * s
after_last zero s h = absurd (h refl)
after_last (suc j) s h = let e : suc j - 1 ≡ j = omega arith in rw e (sym (suc-mul j s))

-- ---- what is left of a range: its start moved on, or its end moved back, by the items taken
pub below-front : (a b s j : ℕ) → 0 < s → len_below (a + j * s) b s ≡ len_below a b s - j
unfolding len_below
below-front a b s j p = rw (sub-add-eq, len-left (b - a) s j p)

pub below-back : (a b s j : ℕ) → 0 < s → len_below a (b - j * s) s ≡ len_below a b s - j
unfolding len_below
below-back a b s j p = let e : b - j * s - a ≡ b - a - j * s = omega arith in rw (e, len-left (b - a) s j p)

pub through-front : (a b s j : ℕ) → 0 < s → len_through (a + j * s) b s ≡ len_through a b s - j
through-front a b s j p = rw (through-is (a + j * s) b s p, through-is a b s p) (below-front a (b + s) s j p)

pub through-back : (a b s j : ℕ) → 0 < s → j * s ≤ b → len_through a (b - j * s) s ≡ len_through a b s - j
through-back a b s j p h =
    let e : b - j * s + s ≡ b + s - j * s = omega arith in
    rw (through-is a (b - j * s) s p, through-is a b s p, e) (below-back a (b + s) s j p)

pub below_none : (a b s : ℕ) → b ≤ a → len_below a b s ≡ 0
unfolding len_below
below_none a b s h = rw (sub-eq-zero_of_le h, zero-div)

pub through-none : (a b s : ℕ) → b < a → len_through a b s ≡ 0
unfolding len_through
through-none a b s h = rw (lt-ltb b a h)

pub front-left : (a b s m : ℕ) → 0 < s → below (a + min m (len_below a b s) * s) b s ≡ drop m (below a b s)
front-left a b s m p =
    let k = len_below a b s in
    let e : k - min m k ≡ k - m = omega arith in
    ap (run (a + min m k * s) s) (below-front a b s (min m k) p ∙ e) ∙ sym (run_drop a s k m)

pub back-left : (a b s m : ℕ) → 0 < s → reverse (below a (b - min m (len_below a b s) * s) s) ≡ drop m (reverse (below a b s))
back-left a b s m p =
    let k = len_below a b s in
    let e : k - min m k ≡ k - m = omega arith in
    ap (λ (x : ℕ). reverse (run a s x)) (below-back a b s (min m k) p ∙ e) ∙ sym (back-drop a s k m)

-- the items drawn from the back lie between the start and the end
pub back-within : (a b s n k j : ℕ) → k ≡ len_through a b s → j ≡ min (n + 1) k → (j ≡ 0 → ⊥) → a + (j - 1) * s ≤ b
unfolding len_through
back-within a b s n k j e f h = go (dec_le a b)
  where
    go : Dec (a ≤ b) → a + (j - 1) * s ≤ b
    go (yes l) =
        let g : k ≡ (b - a) / s + 1 = simp (le-ltb b a l) at e in
        omega (arith, mul-le-mul_right {m = j - 1} {n = (b - a) / s} s (omega arith), div-mul-le_self (b - a) s)
    go (no m) =
        let g : k ≡ 0 = simp (lt-ltb b a (omega arith)) at e in
        absurd (h (omega arith))
