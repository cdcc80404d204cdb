-- Laws of canonical form, over the width.
use mathlib.Core.Path.{◌≡◌, sym, ap, ◌∙◌}
use mathlib.Core.Logic.{◌↔◌}
use mathlib.Core.Bool.{true, false}
use Prim.Native.Nat.{ℕ, zero, suc, ◌+◌, ◌-◌, ◌*◌, ◌/◌, ◌%◌, ◌^◌, ◌≤◌, ◌<◌}
use native.Mathlib.Omega.{arith}
use native.Mathlib.Decide.{dec_lt, ℕ_discrete}
use native.Mathlib.Nat.{zero-div, zero-mod, div-eq_of_lt, div-eq_of_lt-le, mod-lt, mod-eq_of_lt, add-mul-mod_self_right, add-zero, add-suc, zero-add, zero-mul, one-mul, suc-mul, pow-suc}
use native.Mathlib.Numerals.{add-one}
use lib.Dec.{leb, lit<}
use lib.Pow.{pow_pos, pow_mono, pow-add, field, high_ones, mod-pow-add}
use lib.Bits.{bit_and}
use Rattle.std.proofs.lemmas.Nat.Bits.{and_pow}
use borrow.Author.Tests.{eq-eqb, ne_eqb, eqb-true, le-leb, lt-leb}
use Rattle.laws.specs.Width.{IsWidth, bit, low, half, sign_extend, canonical, CopiesBit, InGap}
use Rattle.laws.proofs.Cases.{by_cases}

-- 48 bits and 57 are widths
pub width-48 : IsWidth 48
width-48 = record { above = lit< tt; below = lit< tt }

pub width-57 : IsWidth 57
width-57 = record { above = lit< tt; below = lit< tt }

-- the sizes of a width: two halves are the whole, which is at most 2^63
pub record Sizes (w : ℕ) : Type 0 where
  pub whole : half w + half w ≡ 2 ^ w
  pub some : 0 < half w
  pub most : 2 ^ w ≤ 2 ^ 63

pub sizes : (w : ℕ) → IsWidth w → Sizes w
sizes w v =
    let e : w - 1 + 1 ≡ w = omega arith in
    let p : 2 ^ (w - 1 + 1) ≡ 2 ^ (w - 1) * 2 ^ 1 = pow-add 2 (w - 1) 1 in
    record { whole = omega (arith, rw e at p); some = pow_pos (w - 1); most = pow_mono {i = w} {j = 63} (omega arith) }

-- the two cases of sign extension
module _ (w a : ℕ) where
  pub bit_clear : bit (w - 1) a ≡ 0 → sign_extend w a ≡ low w a
  unfolding sign_extend
  bit_clear e = simp (eq-eqb (bit (w - 1) a) 0 e)

  pub bit_set : bit (w - 1) a ≡ 1 → sign_extend w a ≡ low w a + (2 ^ 64 - 2 ^ w)
  unfolding sign_extend
  bit_set e = simp (ne_eqb (bit (w - 1) a) 0 (λ z. omega arith))

  -- the bit is clear exactly if a mask of it leaves nothing
  masked : (bit_and a (half w) ≡ 0) ↔ (bit (w - 1) a ≡ 0)
  masked = (λ m. by_cases (ℕ_discrete (bit (w - 1) a) 0) (λ z. z) (other m), λ z. rw (left, z) (zero-mul (half w)))
    where
      left : bit_and a (half w) ≡ bit (w - 1) a * half w
      left = and_pow a (w - 1)

      other : bit_and a (half w) ≡ 0 → (bit (w - 1) a ≡ 0 → ⊥) → bit (w - 1) a ≡ 0
      other m n =
          let o : bit (w - 1) a ≡ 1 = omega arith in
          let p : 0 < half w = pow_pos (w - 1) in
          omega (arith, rw o at left)

  pub masked_clear : bit_and a (half w) ≡ 0 → sign_extend w a ≡ low w a
  masked_clear m = bit_clear (masked.0 m)

  pub masked_set : (bit_and a (half w) ≡ 0 → ⊥) → sign_extend w a ≡ low w a + (2 ^ 64 - 2 ^ w)
  masked_set n = let s : bit (w - 1) a ≡ 0 → ⊥ = λ z. n (masked.1 z) in bit_set (omega arith)

module _ (w : ℕ) (v : IsWidth w) where
  pub low-lt : (a : ℕ) → low w a < 2 ^ w
  low-lt a = mod-lt a (pow_pos w)

  -- the bit that is copied upward is the half in which the low part lies
  bit-low : (a : ℕ) → bit (w - 1) a ≡ low w a / half w
  bit-low a =
      let e : 1 + (w - 1) ≡ w = omega arith in
      let f : a % 2 ^ (1 + (w - 1)) / 2 ^ (w - 1) ≡ a / 2 ^ (w - 1) % 2 ^ 1 = field a 1 (w - 1) in
      sym (rw e at f)

  -- the cases by the halves
  pub sign_clear : (a : ℕ) → low w a < half w → sign_extend w a ≡ low w a
  sign_clear a h = bit_clear w a (bit-low a ∙ div-eq_of_lt h)

  pub sign_set : (a : ℕ) → half w ≤ low w a → sign_extend w a ≡ low w a + (2 ^ 64 - 2 ^ w)
  sign_set a h =
      let s = sizes w v in
      let l = low-lt a in
      bit_set w a (bit-low a ∙ div-eq_of_lt-le (half w) (omega arith) (omega arith))

  -- the halves of the low parts, for a proof that takes each by itself
  pub by-half : {C : Type 0} (a : ℕ) → (low w a < half w → C) → (half w ≤ low w a → C) → C
  by-half a f g = by_cases (dec_lt (low w a) (half w)) f (λ n. g (omega arith))

  -- sign extension keeps the low part, is a 64-bit number, and depends on the low part alone
  low-top : (l : ℕ) → l < 2 ^ w → low w (l + (2 ^ 64 - 2 ^ w)) ≡ l
  low-top l h =
      let e : 64 - w + w ≡ 64 = omega arith in
      let o : 2 ^ (64 - w + w) - 2 ^ w ≡ (2 ^ (64 - w) - 1) * 2 ^ w = high_ones (64 - w) w in
      let o' : 2 ^ 64 - 2 ^ w ≡ (2 ^ (64 - w) - 1) * 2 ^ w = rw e at o in
      rw o' (add-mul-mod_self_right l (2 ^ (64 - w) - 1) (2 ^ w) ∙ mod-eq_of_lt h)

  pub sign_low : (a : ℕ) → low w (sign_extend w a) ≡ low w a
  sign_low a = by-half a clear set
    where
      clear : low w a < half w → low w (sign_extend w a) ≡ low w a
      clear h = rw (sign_clear a h) (mod-eq_of_lt (low-lt a))

      set : half w ≤ low w a → low w (sign_extend w a) ≡ low w a
      set h = rw (sign_set a h) (low-top (low w a) (low-lt a))

  pub sign-lt : (a : ℕ) → sign_extend w a < 2 ^ 64
  sign-lt a = by-half a (λ h. omega (arith, sizes w v, sign_clear a h)) (λ h. omega (arith, sizes w v, low-lt a, sign_set a h))

  pub sign-by-low : (a b : ℕ) → low w a ≡ low w b → sign_extend w a ≡ sign_extend w b
  sign-by-low a b e =
      by-half a (λ h. omega (arith, sign_clear a h, sign_clear b (omega arith)))
      (λ h. omega (arith, sign_set a h, sign_set b (omega arith)))

  -- truncation is canonical, and is the identity exactly on canonical numbers
  pub sign-canonical : (a : ℕ) → canonical w (sign_extend w a) ≡ true
  sign-canonical a = eq-eqb (sign_extend w (sign_extend w a)) (sign_extend w a) (sign-by-low (sign_extend w a) a (sign_low a))

  pub canonical-fixed : (a : ℕ) → (canonical w a ≡ true) ↔ (sign_extend w a ≡ a)
  canonical-fixed a = (eqb-true (sign_extend w a) a, eq-eqb (sign_extend w a) a)

  -- a number below 2^w is extended from its own half
  pub sign-of-low : (a : ℕ) → a < half w → sign_extend w a ≡ a
  sign-of-low a h = let e : low w a ≡ a = mod-eq_of_lt (omega (arith, sizes w v)) in omega (arith, sign_clear a (omega arith))

  -- the low part is one-to-one on canonical numbers
  pub low-one-to-one : (a b : ℕ) → sign_extend w a ≡ a → sign_extend w b ≡ b → low w a ≡ low w b → a ≡ b
  low-one-to-one a b p q e = omega (arith, sign-by-low a b e)

  -- and keeps their order, both ways
  pub low-order : (a b : ℕ) → sign_extend w a ≡ a → sign_extend w b ≡ b → (a < b) ↔ (low w a < low w b)
  low-order a b p q = by-half a (λ h. by-half b (λ k. clear-clear h k) (λ k. clear-set h k)) (λ h. by-half b (λ k. set-clear h k) (λ k. set-set h k))
    where
      clear-clear : low w a < half w → low w b < half w → (a < b) ↔ (low w a < low w b)
      clear-clear h k = let x = sign_clear a h in let y = sign_clear b k in (λ l. omega arith, λ l. omega arith)

      clear-set : low w a < half w → half w ≤ low w b → (a < b) ↔ (low w a < low w b)
      clear-set h k = let x = sign_clear a h in let y = sign_set b k in let s = sizes w v in (λ l. omega arith, λ l. omega arith)

      set-clear : half w ≤ low w a → low w b < half w → (a < b) ↔ (low w a < low w b)
      set-clear h k = let x = sign_set a h in let y = sign_clear b k in let s = sizes w v in (λ l. omega arith, λ l. omega arith)

      set-set : half w ≤ low w a → half w ≤ low w b → (a < b) ↔ (low w a < low w b)
      set-set h k = let x = sign_set a h in let y = sign_set b k in let s = sizes w v in (λ l. omega arith, λ l. omega arith)

  -- a number of 64 bits is canonical exactly if it isn't in the gap
  pub canonical-no-gap : (a : ℕ) → sign_extend w a ≡ a → InGap w a → ⊥
  canonical-no-gap a e g =
      by-half a (λ h. omega (arith, sign_clear a h)) (λ h. omega (arith, sizes w v, sign_set a h))

  pub no-gap-canonical : (a : ℕ) → a < 2 ^ 64 → (InGap w a → ⊥) → sign_extend w a ≡ a
  no-gap-canonical a f n = by_cases (dec_lt a (half w)) (sign-of-low a) (λ m. high (omega arith))
    where
      high : half w ≤ a → sign_extend w a ≡ a
      high h =
          let s = sizes w v in
          let m : 2 ^ 64 - half w ≤ a = by_cases (dec_lt a (2 ^ 64 - half w)) (λ l. absurd (n (h, l))) (λ m. omega arith) in
          let t = low-top (a - (2 ^ 64 - 2 ^ w)) (omega arith) in
          let e : a - (2 ^ 64 - 2 ^ w) + (2 ^ 64 - 2 ^ w) ≡ a = omega arith in
          let l : low w a ≡ a - (2 ^ 64 - 2 ^ w) = rw e at t in
          omega (arith, sign_set a (omega arith))

  -- the test, by where the number lies
  pub canonical-low : (a : ℕ) → a < half w → canonical w a ≡ true
  canonical-low a h = eq-eqb (sign_extend w a) a (sign-of-low a h)

  pub canonical-high : (a : ℕ) → a < 2 ^ 64 → 2 ^ 64 - half w ≤ a → canonical w a ≡ true
  canonical-high a f h = eq-eqb (sign_extend w a) a (no-gap-canonical a f (λ g. omega arith))

  pub canonical-gap : (a : ℕ) → InGap w a → canonical w a ≡ false
  canonical-gap a g = ne_eqb (sign_extend w a) a (λ e. canonical-no-gap a e g)

  -- a number that is low or high
  pub canonical-halves : (a : ℕ) → a < 2 ^ 64 → (half w ≤ a → 2 ^ 64 - half w ≤ a) → canonical w a ≡ true
  canonical-halves a f h = by_cases (dec_lt a (half w)) (canonical-low a) (λ n. canonical-high a f (h (omega arith)))

  pub canonical-from : (a : ℕ) → a < 2 ^ 64 → half w ≤ a → leb (2 ^ 64 - half w) a ≡ canonical w a
  canonical-from a f h =
      by_cases (dec_lt a (2 ^ 64 - half w)) (λ l. lt-leb (2 ^ 64 - half w) a l ∙ sym (canonical-gap a (h, l)))
      (λ n. le-leb (2 ^ 64 - half w) a (omega arith) ∙ sym (canonical-high a f (omega arith)))

-- the bits from `k` up to `k + n`, all clear or all set
module _ (a k : ℕ) where
  next_bit : (n : ℕ) → a % 2 ^ (k + suc n) ≡ bit (k + n) a * 2 ^ (k + n) + a % 2 ^ (k + n)
  next_bit n = let e : k + suc n ≡ 1 + (k + n) = omega arith in rw e (mod-pow-add a 1 (k + n))

  clear-bits : (n : ℕ) → ((i : ℕ) → k ≤ i → i < k + n → bit i a ≡ 0) → a % 2 ^ (k + n) < 2 ^ k
  clear-bits zero f = rw (add-zero k) (mod-lt a (pow_pos k))
  clear-bits (suc n) f =
      let h = clear-bits n (λ i p q. f i p (omega arith)) in
      let b = f (k + n) (omega arith) (omega arith) in
      rw (next_bit n, b, zero-mul, zero-add) h

  set-bits : (n : ℕ) → ((i : ℕ) → k ≤ i → i < k + n → bit i a ≡ 1) → 2 ^ (k + n) ≤ a % 2 ^ (k + n) + 2 ^ k
  set-bits zero f = rw (add-zero k) (omega arith)
  set-bits (suc n) f =
      let h = set-bits n (λ i p q. f i p (omega arith)) in
      let b = f (k + n) (omega arith) (omega arith) in
      rw (next_bit n, b, one-mul, add-suc, pow-suc) (omega arith)

-- a bit of a number that is below 2^k, or at most 2^k below 2^64
bit-low-number : (k a : ℕ) → a < 2 ^ k → bit k a ≡ 0
bit-low-number k a h = rw (div-eq_of_lt h)

-- the last of the `suc m` blocks of `n` numbers
last_block : (m n a : ℕ) → suc m * n ≤ a + n → a < suc m * n → a / n ≡ m
last_block m n a h f = div-eq_of_lt-le n (omega (arith, suc-mul m n)) (rw (add-one m) f)

bit-high-number : (k a : ℕ) → k < 64 → 2 ^ 64 ≤ a + 2 ^ k → a < 2 ^ 64 → bit k a ≡ 1
bit-high-number k a l h f = odd (2 ^ (63 - k)) (pow_pos (63 - k)) pows
  where
    pows : 2 ^ (63 - k) * 2 * 2 ^ k ≡ 2 ^ 64
    pows =
        let e : 63 - k + 1 + k ≡ 64 = omega arith in
        let p : 2 ^ (63 - k + 1 + k) ≡ 2 ^ (63 - k + 1) * 2 ^ k = pow-add 2 (63 - k + 1) k in
        sym (rw (e, pow-add 2 (63 - k) 1) at p)

    odd : (n : ℕ) → 0 < n → n * 2 * 2 ^ k ≡ 2 ^ 64 → bit k a ≡ 1
    odd n p e =
        let s : n * 2 ≡ suc (n * 2 - 1) = omega arith in
        let t : suc (n * 2 - 1) * 2 ^ k ≡ 2 ^ 64 = rw s at e in
        let d : a / 2 ^ k ≡ n * 2 - 1 = last_block (n * 2 - 1) (2 ^ k) a (omega arith) (omega arith) in
        rw d (omega arith)

module _ (w : ℕ) (v : IsWidth w) where
  bits_of : (a : ℕ) → a < 2 ^ 64 → sign_extend w a ≡ a → CopiesBit w a
  bits_of a f e = by-half w v a clear set
    where
      clear : low w a < half w → CopiesBit w a
      clear h k p q =
          let z : a < half w = omega (arith, sign_clear w v a h) in
          let m : half w ≤ 2 ^ k = pow_mono {i = w - 1} {j = k} (omega arith) in
          bit-low-number k a (omega arith) ∙ sym (bit-low-number (w - 1) a z)

      set : half w ≤ low w a → CopiesBit w a
      set h k p q =
          let z : 2 ^ 64 ≤ a + half w = omega (arith, sizes w v, sign_set w v a h) in
          let m : half w ≤ 2 ^ k = pow_mono {i = w - 1} {j = k} (omega arith) in
          bit-high-number k a q (omega arith) f ∙ sym (bit-high-number (w - 1) a (omega arith) z f)

  -- the same bit in each place from `w` − 1 on
  same_bit : (a : ℕ) → CopiesBit w a → (i : ℕ) → w - 1 ≤ i → i < w - 1 + (65 - w) → bit i a ≡ bit (w - 1) a
  same_bit a c i p q = by_cases (dec_lt i w) (λ l. ap (λ (j : ℕ). bit j a) (omega arith)) (λ n. c i (omega arith) (omega arith))

  by_bits : (a : ℕ) → a < 2 ^ 64 → CopiesBit w a → sign_extend w a ≡ a
  by_bits a f c = no-gap-canonical w v a f (λ g. by_cases (dec_lt (bit (w - 1) a) 1) (λ l. clear g (omega arith)) (λ n. set g (omega arith)))
    where
      e : w - 1 + (65 - w) ≡ 64
      e = omega arith

      whole : a % 2 ^ 64 ≡ a
      whole = mod-eq_of_lt f

      clear : InGap w a → bit (w - 1) a ≡ 0 → ⊥
      clear g z = let h = clear-bits a (w - 1) (65 - w) (λ i p q. same_bit a c i p q ∙ z) in omega (arith, whole, rw e at h)

      set : InGap w a → bit (w - 1) a ≡ 1 → ⊥
      set g z = let h = set-bits a (w - 1) (65 - w) (λ i p q. same_bit a c i p q ∙ z) in omega (arith, whole, rw e at h)

  -- the test by sign extension is document 01's sentence
  pub canonical-by-bits : (a : ℕ) → a < 2 ^ 64 → (canonical w a ≡ true) ↔ CopiesBit w a
  canonical-by-bits a f =
      let i = canonical-fixed w v a in
      (λ t. bits_of a f (i.0 t), λ c. i.1 (by_bits a f c))

pub sign_zero : (w : ℕ) → sign_extend w 0 ≡ 0
unfolding sign_extend
sign_zero w = simp (zero-div, zero-mod)
