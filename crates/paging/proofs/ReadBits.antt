-- The bits of an entry of level 1 that are read: words in which these differ by so many frames have the same rights, and frames that far apart.
use Prim.Native.Nat.{ℕ, ◌+◌, ◌-◌, ◌*◌, ◌/◌, ◌%◌, ◌^◌, ◌<◌}
use mathlib.Core.Path.{◌≡◌, sym, ap, ◌∙◌}
use native.Mathlib.Omega.{arith}
use native.Mathlib.Nat.{mod-lt}
use lib.Bits.{bit_and, and_mask, and_block}
use lib.Dec.{lit<, eqb}
use lib.Pow.{split, field, mod-mod-pow}
use Rattle.paging.specs.Entry.{set, rights_of}

-- the bits that are read: present and two rights, the frame, no-execute
abbrev pub read_mask : ℕ
read_mask = 2 ^ 63 + (2 ^ 40 - 1) * 2 ^ 12 + 7

read-fields : (v : ℕ) → bit_and v read_mask ≡ v / 2 ^ 63 % 2 * 2 ^ 63 + (v / 2 ^ 12 % 2 ^ 40 * 2 ^ 12 + v % 8)
read-fields v =
    let low = v % 2 ^ 63 in
    let top : bit_and (v / 2 ^ 63 * 2 ^ 63 + low) (1 * 2 ^ 63 + ((2 ^ 40 - 1) * 2 ^ 12 + 7)) ≡ bit_and (v / 2 ^ 63) 1 * 2 ^ 63 + bit_and low ((2 ^ 40 - 1) * 2 ^ 12 + 7)
    = and_block 63 (v / 2 ^ 63) 1 low ((2 ^ 40 - 1) * 2 ^ 12 + 7) (mod-lt v (lit< tt)) (lit< tt) in
    let rest : bit_and (low / 2 ^ 12 * 2 ^ 12 + low % 2 ^ 12) ((2 ^ 40 - 1) * 2 ^ 12 + 7) ≡ bit_and (low / 2 ^ 12) (2 ^ 40 - 1) * 2 ^ 12 + bit_and (low % 2 ^ 12) 7
    = and_block 12 (low / 2 ^ 12) (2 ^ 40 - 1) (low % 2 ^ 12) 7 (mod-lt low (lit< tt)) (lit< tt) in
    let frame : low / 2 ^ 12 % 2 ^ 40 ≡ v / 2 ^ 12 % 2 ^ 40 = ap (λ (k : ℕ). k % 2 ^ 40) (field v 51 12) ∙ mod-mod-pow (v / 2 ^ 12) 11 40 in
    let bits : low % 2 ^ 12 % 2 ^ 3 ≡ v % 2 ^ 3 = mod-mod-pow low 9 3 ∙ mod-mod-pow v 60 3 in
    let back : v ≡ v / 2 ^ 63 * 2 ^ 63 + low = sym (split v 63) in
    let again : low ≡ low / 2 ^ 12 * 2 ^ 12 + low % 2 ^ 12 = sym (split low 12) in
    ap (λ (n : ℕ). bit_and n read_mask) back ∙ top
    ∙ ap (λ (n : ℕ). n * 2 ^ 63 + bit_and low ((2 ^ 40 - 1) * 2 ^ 12 + 7)) (and_mask (v / 2 ^ 63) 1)
    ∙ ap (λ (n : ℕ). v / 2 ^ 63 % 2 * 2 ^ 63 + n) (ap (λ (n : ℕ). bit_and n ((2 ^ 40 - 1) * 2 ^ 12 + 7)) again ∙ rest
    ∙ ap (λ (n : ℕ). n * 2 ^ 12 + bit_and (low % 2 ^ 12) 7) (and_mask (low / 2 ^ 12) 40 ∙ frame)
    ∙ ap (λ (n : ℕ). v / 2 ^ 12 % 2 ^ 40 * 2 ^ 12 + n) (and_mask (low % 2 ^ 12) 3 ∙ bits))

-- the three low bits
low_bits : (u v : ℕ) → u % 8 ≡ v % 8 → (u / 2 ^ 0 % 2 ≡ v / 2 ^ 0 % 2) × (u / 2 ^ 1 % 2 ≡ v / 2 ^ 1 % 2) × (u / 2 ^ 2 % 2 ≡ v / 2 ^ 2 % 2)
low_bits u v e = (omega arith, omega arith, omega arith)

-- two words whose read bits differ by so many frames
module _ (u v d : ℕ) (h : bit_and u read_mask ≡ bit_and v read_mask + d * 4096) (b : d < 512) where
  same-fields : (u / 2 ^ 63 % 2 ≡ v / 2 ^ 63 % 2) × (u / 2 ^ 12 % 2 ^ 40 ≡ v / 2 ^ 12 % 2 ^ 40 + d) × (u % 8 ≡ v % 8)
  same-fields =
      go (u / 2 ^ 63 % 2) (v / 2 ^ 63 % 2) (u / 2 ^ 12 % 2 ^ 40) (v / 2 ^ 12 % 2 ^ 40) (u % 8) (v % 8)
      (mod-lt (u / 2 ^ 63) (lit< tt)) (mod-lt (v / 2 ^ 63) (lit< tt)) (mod-lt (u / 2 ^ 12) (lit< tt)) (mod-lt (v / 2 ^ 12) (lit< tt)) (mod-lt u (lit< tt)) (mod-lt v (lit< tt))
      (sym (read-fields u) ∙ h ∙ ap (λ (n : ℕ). n + d * 4096) (read-fields v))
    where
      go : (p q f g l m : ℕ) → p < 2 → q < 2 → f < 2 ^ 40 → g < 2 ^ 40 → l < 8 → m < 8
          → p * 2 ^ 63 + (f * 2 ^ 12 + l) ≡ q * 2 ^ 63 + (g * 2 ^ 12 + m) + d * 4096 → (p ≡ q) × (f ≡ g + d) × (l ≡ m)
      go p q f g l m a c e k i j z = (omega arith, omega arith, omega arith)

  pub same-present : set 0 u ≡ set 0 v
  same-present = ap (λ (n : ℕ). eqb n 1) (low_bits u v same-fields.2).0

  pub same-rights : rights_of u ≡ rights_of v
  same-rights = let (zero, one, two) = low_bits u v same-fields.2 in rw (one, two, same-fields.0)

  pub next-frame : u / 2 ^ 12 % 2 ^ 40 ≡ v / 2 ^ 12 % 2 ^ 40 + d
  next-frame = same-fields.1
