-- Indices, shifted to their places and joined, are the assembled address.
use mathlib.Core.Path.{◌≡◌, ◌∙◌, refl}
use mathlib.Core.Bool.{true}
use mathlib.Core.List.{[], ◌∷◌}
use Prim.Native.Nat.{ℕ, ◌+◌, ◌*◌, ◌%◌, ◌^◌, ◌<◌}
use native.Mathlib.Omega.{arith}
use native.Mathlib.Nat.{mod-eq_of_lt}
use lib.Bits.{bit_or, or_shifted}
use borrow.Author.Tests.{eqb-true}
use Rattle.laws.specs.Index.{assemble}
use Rattle.addr.specs.Widths.{levels_of}
use Rattle.addr.specs.declared.width.Width.{Width}
use Rattle.addr.specs.declared.width.Width.TheVariants.{Bits48, Bits57}
use Rattle.page.specs.Page.{indices, fifth_index_fits}

-- a shifted index fits, and each lies above what is below its place
five-joined : (p5 p4 p3 p2 p1 : ℕ) → p5 < 512 → p4 < 512 → p3 < 512 → p2 < 512 → p1 < 512
    → bit_or (p5 * 2 ^ 48 % 2 ^ 64) (bit_or (p4 * 2 ^ 39 % 2 ^ 64) (bit_or (p3 * 2 ^ 30 % 2 ^ 64) (bit_or (p2 * 2 ^ 21 % 2 ^ 64) (p1 * 2 ^ 12 % 2 ^ 64))))
    ≡ p5 * 2 ^ 48 + (p4 * 2 ^ 39 + (p3 * 2 ^ 30 + (p2 * 2 ^ 21 + p1 * 2 ^ 12)))
five-joined p5 p4 p3 p2 p1 h5 h4 h3 h2 h1 =
    let e5 : p5 * 2 ^ 48 % 2 ^ 64 ≡ p5 * 2 ^ 48 = mod-eq_of_lt (omega arith) in
    let e4 : p4 * 2 ^ 39 % 2 ^ 64 ≡ p4 * 2 ^ 39 = mod-eq_of_lt (omega arith) in
    let e3 : p3 * 2 ^ 30 % 2 ^ 64 ≡ p3 * 2 ^ 30 = mod-eq_of_lt (omega arith) in
    let e2 : p2 * 2 ^ 21 % 2 ^ 64 ≡ p2 * 2 ^ 21 = mod-eq_of_lt (omega arith) in
    let e1 : p1 * 2 ^ 12 % 2 ^ 64 ≡ p1 * 2 ^ 12 = mod-eq_of_lt (omega arith) in
    let o2 = or_shifted p2 21 (p1 * 2 ^ 12) (omega arith) in
    let o3 = or_shifted p3 30 (p2 * 2 ^ 21 + p1 * 2 ^ 12) (omega arith) in
    let o4 = or_shifted p4 39 (p3 * 2 ^ 30 + (p2 * 2 ^ 21 + p1 * 2 ^ 12)) (omega arith) in
    let o5 = or_shifted p5 48 (p4 * 2 ^ 39 + (p3 * 2 ^ 30 + (p2 * 2 ^ 21 + p1 * 2 ^ 12))) (omega arith) in
    rw (e5, e4, e3, e2, e1, o2, o3, o4, o5) refl

-- at a width without level 5 its index is 0
in-place : (x : Width) (p5 p4 p3 p2 p1 : ℕ) → fifth_index_fits (levels_of x) p5 ≡ true
    → p5 * 2 ^ 48 + (p4 * 2 ^ 39 + (p3 * 2 ^ 30 + (p2 * 2 ^ 21 + p1 * 2 ^ 12))) ≡ assemble (levels_of x) (indices (p1 ∷ p2 ∷ p3 ∷ p4 ∷ p5 ∷ [])) 0
unfolding assemble
in-place Bits48 p5 p4 p3 p2 p1 h = omega (arith, eqb-true p5 0 h)
in-place Bits57 p5 p4 p3 p2 p1 h = omega arith

pub joined : (x : Width) (p5 p4 p3 p2 p1 : ℕ) → p5 < 512 → p4 < 512 → p3 < 512 → p2 < 512 → p1 < 512 → fifth_index_fits (levels_of x) p5 ≡ true
    → bit_or (p5 * 2 ^ 48 % 2 ^ 64) (bit_or (p4 * 2 ^ 39 % 2 ^ 64) (bit_or (p3 * 2 ^ 30 % 2 ^ 64) (bit_or (p2 * 2 ^ 21 % 2 ^ 64) (p1 * 2 ^ 12 % 2 ^ 64))))
    ≡ assemble (levels_of x) (indices (p1 ∷ p2 ∷ p3 ∷ p4 ∷ p5 ∷ [])) 0
joined x p5 p4 p3 p2 p1 h5 h4 h3 h2 h1 h = five-joined p5 p4 p3 p2 p1 h5 h4 h3 h2 h1 ∙ in-place x p5 p4 p3 p2 p1 h
