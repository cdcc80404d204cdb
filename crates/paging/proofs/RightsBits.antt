-- Rights by the bits that all words have, and as three bits.
use Prim.Native.Nat.{ℕ, zero, suc, ◌+◌, ◌-◌, ◌*◌, ◌/◌, ◌%◌, ◌^◌, ◌<◌}
use mathlib.Core.Path.{◌≡◌, refl}
use mathlib.Core.Bool.{Bool, true, false, cond, not, ◌&&◌}
use native.Mathlib.Omega.{arith}
use native.Mathlib.Nat.{mod-lt}
use native.Mathlib.Decide.{ℕ_discrete}
use borrow.Author.Tests.{eq-eqb, ne_eqb}
use lib.Dec.{lit<, eqb}
use lib.Bits.{bit_and, bit_xor, and_mask, and_shr, and_mod, xor_shr, xor_mod, xor_zero_r}
use Rattle.laws.proofs.Cases.{by_cases}
use Rattle.mapping.specs.Pages.{Rights, rights}
use Rattle.mapping.specs.Walk.{joined}
use Rattle.paging.specs.Entry.{set, rights_of}
use Rattle.paging.specs.Packed.{digit, rights_bits, rights_from, rights_over}

and-digit : (x y : ℕ) → x < 2 → y < 2 → eqb (bit_and x y) 1 ≡ cond (eqb x 1) (eqb y 1) false
and-digit zero y p q = refl
and-digit (suc zero) zero p q = refl
and-digit (suc zero) (suc zero) p q = refl
and-digit (suc zero) (suc (suc y)) p q = absurd (omega arith)
and-digit (suc (suc x)) y p q = absurd (omega arith)

set-and : (k a b : ℕ) → set k (bit_and a b) ≡ cond (set k a) (set k b) false
set-and k a b =
    rw (and_shr a b k, and_mod (a / 2 ^ k) (b / 2 ^ k) 1)
    (and-digit (a / 2 ^ k % 2) (b / 2 ^ k % 2) (mod-lt (a / 2 ^ k) (lit< tt)) (mod-lt (b / 2 ^ k) (lit< tt)))

-- turned over at bit 63, a word keeps its other bits
not_digit : (x : ℕ) → x < 2 → eqb (bit_xor x 1) 1 ≡ not (eqb x 1)
not_digit zero p = refl
not_digit (suc zero) p = refl
not_digit (suc (suc x)) p = absurd (omega arith)

set-over : (v : ℕ) → set 63 (bit_xor v (2 ^ 63)) ≡ not (set 63 v)
set-over v = rw (xor_shr v (2 ^ 63) 63, xor_mod (v / 2 ^ 63) (2 ^ 63 / 2 ^ 63) 1) (not_digit (v / 2 ^ 63 % 2) (mod-lt (v / 2 ^ 63) (lit< tt)))

set-kept : (k v : ℕ) → 2 ^ 63 / 2 ^ k % 2 ≡ 0 → set k (bit_xor v (2 ^ 63)) ≡ set k v
set-kept k v e = rw (xor_shr v (2 ^ 63) k, xor_mod (v / 2 ^ k) (2 ^ 63 / 2 ^ k) 1, e, xor_zero_r)

not-and : (a b : Bool) → not (cond a (not b) false) ≡ cond (not a) true b
not-and true true = refl
not-and true false = refl
not-and false b = refl

-- one entry further down
pub rights-step : (all v : ℕ) → rights_over (bit_and all (bit_xor v (2 ^ 63))) ≡ joined (rights_over all) (rights_of v)
rights-step all v =
    rw (
      set-and 1 all (bit_xor v (2 ^ 63)),
      set-and 2 all (bit_xor v (2 ^ 63)),
      set-and 63 all (bit_xor v (2 ^ 63)),
      set-over v,
      set-kept 1 v refl,
      set-kept 2 v refl,
      not-and (set 63 all) (set 63 v),
    )

-- three bits have the rights that they stand for
pub bits-from : (h : Rights) → rights_from (rights_bits h) ≡ h
bits-from (rights true true true) = refl
bits-from (rights true true false) = refl
bits-from (rights true false true) = refl
bits-from (rights true false false) = refl
bits-from (rights false true true) = refl
bits-from (rights false true false) = refl
bits-from (rights false false true) = refl
bits-from (rights false false false) = refl

pub bits-lt : (h : Rights) → rights_bits h < 8
bits-lt (rights w u x) = go w u x
  where
    one : (b : Bool) → digit b < 2
    one true = lit< tt
    one false = lit< tt

    go : (w u x : Bool) → digit w + 2 * digit u + 4 * digit x < 8
    go w u x = omega (arith, one w, one u, one x)

-- a bit as a number
pub digit_set : (k v : ℕ) → digit (set k v) ≡ v / 2 ^ k % 2
digit_set k v = go (v / 2 ^ k % 2) (mod-lt (v / 2 ^ k) (lit< tt))
  where
    go : (x : ℕ) → x < 2 → digit (eqb x 1) ≡ x
    go zero p = refl
    go (suc zero) p = refl
    go (suc (suc x)) p = absurd (omega arith)

pub digit_clear : (k v : ℕ) → digit (not (set k v)) ≡ 1 - v / 2 ^ k % 2
digit_clear k v = go (v / 2 ^ k % 2) (mod-lt (v / 2 ^ k) (lit< tt))
  where
    go : (x : ℕ) → x < 2 → digit (not (eqb x 1)) ≡ 1 - x
    go zero p = refl
    go (suc zero) p = refl
    go (suc (suc x)) p = absurd (omega arith)

over-bits : (a : ℕ) → a < 2 ^ 64 → rights_bits (rights_over a) ≡ a / 2 % 4 + 4 * (1 - a / 2 ^ 63)
over-bits a h =
    let top : a / 2 ^ 63 % 2 ≡ a / 2 ^ 63 = omega arith in
    rw (digit_set 1 a, digit_set 2 a, digit_clear 63 a, top) (omega arith)

-- two words say the same rights exactly if they have the same bits 1, 2 and 63
pub same_bits : (a b : ℕ) → a < 2 ^ 64 → b < 2 ^ 64
    → (eqb (bit_and (a / 2) 3) (bit_and (b / 2) 3) && eqb (a / 2 ^ 63) (b / 2 ^ 63)) ≡ eqb (rights_bits (rights_over a)) (rights_bits (rights_over b))
same_bits a b h k =
    rw (and_mask (a / 2) 2, and_mask (b / 2) 2, over-bits a h, over-bits b k)
    (by_cases (ℕ_discrete (a / 2 % 4) (b / 2 % 4))
    (λ e. by_cases (ℕ_discrete (a / 2 ^ 63) (b / 2 ^ 63))
    (λ f. simp (eq-eqb (a / 2 % 4) (b / 2 % 4) e, eq-eqb (a / 2 ^ 63) (b / 2 ^ 63) f, eq-eqb (a / 2 % 4 + 4 * (1 - a / 2 ^ 63)) (b / 2 % 4 + 4 * (1 - b / 2 ^ 63)) (omega arith)))
    (λ f. simp (eq-eqb (a / 2 % 4) (b / 2 % 4) e, ne_eqb (a / 2 ^ 63) (b / 2 ^ 63) f, ne_eqb (a / 2 % 4 + 4 * (1 - a / 2 ^ 63)) (b / 2 % 4 + 4 * (1 - b / 2 ^ 63)) (omega arith))))
    (λ e. simp (ne_eqb (a / 2 % 4) (b / 2 % 4) e, ne_eqb (a / 2 % 4 + 4 * (1 - a / 2 ^ 63)) (b / 2 % 4 + 4 * (1 - b / 2 ^ 63)) (omega arith))))

-- these bits of a word alone say the same
pub kept_bits : (a : ℕ) → rights_over (bit_and a 0x8000_0000_0000_0006) ≡ rights_over a
kept_bits a =
    let one : set 1 0x8000_0000_0000_0006 ≡ true = refl in
    let two : set 2 0x8000_0000_0000_0006 ≡ true = refl in
    let top : set 63 0x8000_0000_0000_0006 ≡ true = refl in
    rw (
      set-and 1 a 0x8000_0000_0000_0006,
      set-and 2 a 0x8000_0000_0000_0006,
      set-and 63 a 0x8000_0000_0000_0006,
      one,
      two,
      top,
      itself (set 1 a),
      itself (set 2 a),
      itself (set 63 a),
    )
  where
    itself : (b : Bool) → cond b true false ≡ b
    itself true = refl
    itself false = refl
