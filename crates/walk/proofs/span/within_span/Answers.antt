-- `within_span` meets its contract.
use Prim.Native.Nat.{ℕ, ◌-◌, ◌*◌, ◌%◌, ◌^◌, ◌≤◌, ◌<◌}
use mathlib.Core.Path.{◌≡◌, sym, ap, ◌∙◌}
use native.Mathlib.Omega.{arith}
use native.Mathlib.Nat.{one-mul, mod-eq_of_lt}
use lib.Bits.{bit_and, and_mask}
use lib.Pow.{pow-lt, pow_mono}
use Rattle.mapping.specs.Walk.{span_pages}
use Rattle.walk.proofs.span.within_span.Goals as goal

pub returns-then-below-ge8 : goal.returns-then-below-ge8
returns-then-below-ge8 c =
    let a = c.args in
    let b : 2 ^ 64 ≤ span_pages a.below = pow_mono {i = 64} {j = 9 * a.below} (omega (arith, c.if-below-ge8.true)) in
    sym (mod-eq_of_lt (omega arith))

-- a span's pages, by the shift
pages : (below : ℕ) → below < 8 → 1 * 2 ^ (9 * below) % 2 ^ 64 ≡ span_pages below
pages below l =
    let n = 9 * below in
    let b : 1 * 2 ^ n < 2 ^ 64 = rw (one-mul (2 ^ n)) (pow-lt {i = n} {j = 64} (omega (arith, l))) in
    mod-eq_of_lt b ∙ one-mul (2 ^ n)

pub returns : goal.returns
returns c =
    let a = c.args in
    ap (λ (m : ℕ). bit_and a.page (m - 1)) (pages a.below c.if-below-ge8.false) ∙ and_mask a.page (9 * a.below)
