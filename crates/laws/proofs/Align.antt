-- Laws of alignment: powers of two by their count of ones, the multiples on both sides of a number, and the mask that finds them.
use mathlib.Core.Path.{◌≡◌, refl, sym, ap, ◌∙◌}
use mathlib.Core.Logic.{◌↔◌}
use Prim.Native.Nat.{ℕ, zero, suc, ◌+◌, ◌-◌, ◌*◌, ◌/◌, ◌%◌, ◌^◌, ◌≤◌, ◌<◌}
use native.Mathlib.Omega.{arith}
use native.Mathlib.Decide.{dec_lt}
use native.Mathlib.Nat.{pow-suc, div-add-mod', mul-mod_left, mul-le-mul_right, le-div_iff_mul-le, div-eq_of_lt-le, mod-lt, add-mul, div-lt_iff_lt-mul, mul-div_cancel, lt_of_mul-lt-mul_right, suc-mul, mod-eq-zero_of_dvd, dvd_of_mod-eq-zero, dvd-sub, dvd_refl, div-mul_cancel}
use lib.Arith.{bin_ind}
use lib.Bits.{bit_and, and_mask}
use lib.Count.{ones, ones_step, ones_cat}
use lib.Pow.{pow_pos, pow_mono, pow-add}
use Rattle.laws.specs.Align.{down, up}
use Rattle.laws.proofs.Cases.{by_cases}

abbrev pub Power : ℕ → Type 0
Power n = (k : ℕ) × (n ≡ 2 ^ k)

no_ones : (n : ℕ) → ones n ≡ 0 → n ≡ 0
no_ones = bin_ind (λ (n : ℕ). ones n ≡ 0 → n ≡ 0) (λ e. refl) (λ n ih e.
    let s = ones_step n in
    let h : n / 2 ≡ 0 = ih (omega arith) in
    omega arith)

one→power : (n : ℕ) → ones n ≡ 1 → Power n
unfolding ones
one→power = bin_ind (λ (n : ℕ). ones n ≡ 1 → Power n) (λ e. absurd (omega arith)) (λ n ih e. step n ih e (ones_step n) (n % 2) refl)
  where
    step : (n : ℕ) → (ones (n / 2) ≡ 1 → Power (n / 2)) → ones n ≡ 1 → ones n ≡ n % 2 + ones (n / 2) → (d : ℕ) → n % 2 ≡ d → Power n
    step n ih e s zero h = let p = ih (omega arith) in (suc p.0, omega (arith, p.1, pow-suc 2 p.0))
    step n ih e s (suc d) h = (zero, omega (arith, no_ones (n / 2) (omega arith)))

power→one : (n : ℕ) → Power n → ones n ≡ 1
unfolding ones
power→one n p = let e : n ≡ 1 * 2 ^ p.0 + 0 = omega (arith, p.1) in ap ones e ∙ ones_cat p.0 1 0 (pow_pos p.0)

-- just one bit is set exactly in the powers of two
pub one_bit : (n : ℕ) → (ones n ≡ 1) ↔ Power n
one_bit n = (one→power n, power→one n)

pub one-bit-pos : (n : ℕ) → ones n ≡ 1 → 0 < n
one-bit-pos n e = let p = one→power n e in omega (arith, p.1, pow_pos p.0)

-- the mask of a power of two takes the remainder
pub one-bit-mask : (n a : ℕ) → ones n ≡ 1 → bit_and a (n - 1) ≡ a % n
one-bit-mask n a e = let p = one→power n e in rw p.1 (and_mask a p.0)

-- the multiples by the remainder
pub down-rest : (n a : ℕ) → down n a ≡ a - a % n
unfolding down
down-rest n a = omega (arith, div-add-mod' a n)

module _ (n a : ℕ) (p : 0 < n) where
  pub down-greatest : (down n a % n ≡ 0) × (down n a ≤ a) × ((m : ℕ) → m * n ≤ a → m * n ≤ down n a)
  unfolding down
  down-greatest = (mul-mod_left (a / n) n, omega (arith, div-add-mod' a n), λ m h. mul-le-mul_right n ((le-div_iff_mul-le p).1 h))

  -- the quotient of the multiple above: that of the number, and one more where something is left over
  pub up-exact : a % n ≡ 0 → up n a ≡ a
  unfolding up
  up-exact z =
      let d = div-add-mod' a n in
      let q : (a + (n - 1)) / n ≡ a / n = div-eq_of_lt-le n (omega arith) (omega (arith, add-mul (a / n) 1 n)) in
      rw q (omega arith)

  pub up_rest : 0 < a % n → up n a ≡ a - a % n + n
  unfolding up
  up_rest z =
      let d = div-add-mod' a n in
      let l = mod-lt a p in
      let s = add-mul (a / n) 1 n in
      let q : (a + (n - 1)) / n ≡ a / n + 1 = div-eq_of_lt-le n (omega arith) (omega (arith, add-mul (a / n + 1) 1 n)) in
      rw q (omega arith)

  pub up_least : (up n a % n ≡ 0) × (a ≤ up n a) × ((m : ℕ) → a ≤ m * n → up n a ≤ m * n)
  unfolding up
  up_least = (multiple, by_cases (dec_lt 0 (a % n)) (λ z. omega (arith, up_rest z, mod-lt a p)) (λ z. omega (arith, up-exact (omega arith))), least)
    where
      multiple : up n a % n ≡ 0
      multiple = mul-mod_left ((a + (n - 1)) / n) n

      least : (m : ℕ) → a ≤ m * n → up n a ≤ m * n
      least m h =
          let q : (a + (n - 1)) / n < m + 1 = (div-lt_iff_lt-mul p).1 (omega (arith, add-mul m 1 n)) in
          mul-le-mul_right n (omega arith)

-- a power of two is a whole number of each smaller one
pub blocks : (k m : ℕ) → k ≤ m → 2 ^ (m - k) * 2 ^ k ≡ 2 ^ m
blocks k m h = let e : m - k + k ≡ m = omega arith in let q : 2 ^ (m - k + k) ≡ 2 ^ (m - k) * 2 ^ k = pow-add 2 (m - k) k in sym (rw e at q)

-- a number of at most 2^m, rounded up to a power of two that is not larger, is at most 2^m
pub up-within : (m n a : ℕ) → ones n ≡ 1 → n < 2 ^ suc m → a ≤ 2 ^ m → up n a ≤ 2 ^ m
up-within m n a e f h = go (one→power n e)
  where
    go : Power n → up n a ≤ 2 ^ m
    go (k, q) =
        let l : k < suc m = by_cases (dec_lt k (suc m)) (λ l. l) (λ o. absurd (omega (arith, pow_mono {i = suc m} {j = k} (omega arith)))) in
        let b : 2 ^ m ≡ 2 ^ (m - k) * n = rw (← q) at (sym (blocks k m (omega arith))) in
        rw b ((up_least n a (one-bit-pos n e)).2 (2 ^ (m - k)) (omega arith))

-- so a 64-bit number is at most 2^64, and one below 2^63 stays below 2^64
pub up_top : (n a : ℕ) → ones n ≡ 1 → n < 2 ^ 64 → a < 2 ^ 64 → up n a ≤ 2 ^ 64
up_top n a e f h = up-within 64 n a e (omega arith) (omega arith)

pub up_fits : (n a : ℕ) → ones n ≡ 1 → n < 2 ^ 64 → a < 2 ^ 63 → up n a < 2 ^ 64
up_fits n a e f h = omega (arith, up-within 63 n a e (omega arith) (omega arith))

-- it is the quotient by a smaller one, times that
pub pow-blocks : (k m : ℕ) → k ≤ m → 2 ^ m / 2 ^ k * 2 ^ k ≡ 2 ^ m
pow-blocks k m h =
    let q : 2 ^ m ≡ 2 ^ (m - k) * 2 ^ k = sym (blocks k m h) in
    rw q (ap (λ (x : ℕ). x * 2 ^ k) (mul-div_cancel (2 ^ (m - k)) (pow_pos k)))

-- a multiple of a power of two that is below a larger one leaves room for one more
pub under_top : (k m a : ℕ) → k ≤ m → a < 2 ^ m → a % 2 ^ k ≡ 0 → a + 2 ^ k ≤ 2 ^ m
under_top k m a h l z =
    let w = pow-blocks k m h in
    let d = div-add-mod' a (2 ^ k) in
    let q : a / 2 ^ k < 2 ^ m / 2 ^ k = lt_of_mul-lt-mul_right (2 ^ k) (omega arith) in
    let g : suc (a / 2 ^ k) * 2 ^ k ≤ 2 ^ m / 2 ^ k * 2 ^ k = mul-le-mul_right (2 ^ k) q in
    omega (arith, suc-mul (a / 2 ^ k) (2 ^ k))

-- a larger power of two is a multiple of it, and so is the topmost multiple below that
pub power-whole : (k m : ℕ) → k ≤ m → 2 ^ m % 2 ^ k ≡ 0
power-whole k m h = let e = pow-blocks k m h in let q = mul-mod_left (2 ^ m / 2 ^ k) (2 ^ k) in rw e at q

pub top-whole : (k m : ℕ) → k ≤ m → (2 ^ m - 2 ^ k) % 2 ^ k ≡ 0
top-whole k m h = mod-eq-zero_of_dvd (2 ^ k) (dvd-sub (2 ^ k) (dvd_of_mod-eq-zero (2 ^ k) (power-whole k m h)) (dvd_refl (2 ^ k)))

-- two multiples are whole sizes apart
pub apart-whole : (s x y : ℕ) → x % s ≡ 0 → y % s ≡ 0 → (y - x) / s * s ≡ y - x
apart-whole s x y p q = div-mul_cancel s (dvd-sub s (dvd_of_mod-eq-zero s q) (dvd_of_mod-eq-zero s p))
