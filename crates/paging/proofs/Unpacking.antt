-- What the walk says of a page is had back from one number by shifts and masks.
use Prim.Native.Nat.{ℕ, zero, suc, ◌+◌, ◌-◌, ◌*◌, ◌/◌, ◌%◌, ◌^◌, ◌<◌}
use mathlib.Core.Path.{◌≡◌}
use native.Mathlib.Omega.{arith}
use native.Mathlib.Nat.{mod-eq_of_lt}
use lib.Bits.{bit_and, and_mask}
use Rattle.mapping.specs.Pages.{reserved, outside}
use Rattle.mapping.specs.Walk.{Walked, absent, broken, mapped}
use Rattle.paging.specs.Packed.{rights_bits, rights_from, Fits, packed}
use Rattle.paging.proofs.RightsBits.{bits-from, bits-lt}

-- what the kind, the level, the rights and the frame stand for
abbrev pub unpacked : (kind level bits frame : ℕ) → Walked
unpacked zero l b g = absent l
unpacked (suc zero) l b g = broken l reserved
unpacked (suc (suc zero)) l b g = broken l outside
unpacked (suc (suc (suc k))) l b g = mapped g l (rights_from b)

by-division : (s : Walked) → Fits s → unpacked (packed s % 4) (packed s / 4 % 8) (packed s / 32 % 8) (packed s / 256 % 2 ^ 40) ≡ s
unfolding packed
by-division (absent l) f =
    let k : 4 * l % 4 ≡ 0 = omega arith in
    let d : 4 * l / 4 ≡ l = omega arith in
    rw (k, d, mod-eq_of_lt f)
by-division (broken l reserved) f =
    let k : (4 * l + 1) % 4 ≡ 1 = omega arith in
    let d : (4 * l + 1) / 4 ≡ l = omega arith in
    rw (k, d, mod-eq_of_lt f)
by-division (broken l outside) f =
    let k : (4 * l + 2) % 4 ≡ 2 = omega arith in
    let d : (4 * l + 2) / 4 ≡ l = omega arith in
    rw (k, d, mod-eq_of_lt f)
by-division (mapped g l h) f = go (rights_bits h) (bits-lt h) (bits-from h)
  where
    go : (b : ℕ) → b < 8 → rights_from b ≡ h
        → (let n = 256 * g + 32 * b + 4 * l + 3 in unpacked (n % 4) (n / 4 % 8) (n / 32 % 8) (n / 256 % 2 ^ 40) ≡ mapped g l h)
    go b p q =
        let n = 256 * g + 32 * b + 4 * l + 3 in
        let k : n % 4 ≡ 3 = omega arith in
        let d : n / 4 ≡ 64 * g + 8 * b + l = omega arith in
        let e : (64 * g + 8 * b + l) % 8 ≡ l = omega arith in
        let u : n / 32 ≡ 8 * g + b = omega arith in
        let v : (8 * g + b) % 8 ≡ b = omega arith in
        let w : n / 256 ≡ g = omega arith in
        rw (k, d, e, u, v, w, mod-eq_of_lt f.2, q)

-- the number gives it back
pub unpack : (s : Walked) (n : ℕ) → Fits s → packed s ≡ n → unpacked (bit_and n 3) (bit_and (n / 2 ^ 2) 7) (bit_and (n / 2 ^ 5) 7) (bit_and (n / 2 ^ 8) (2 ^ 40 - 1)) ≡ s
unpack s n f e =
    rw (← e, and_mask (packed s) 2, and_mask (packed s / 2 ^ 2) 3, and_mask (packed s / 2 ^ 5) 3, and_mask (packed s / 2 ^ 8) 40) (by-division s f)
