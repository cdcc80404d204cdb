-- The pages below the root are those of its span.
use Prim.Native.Nat.{ℕ, ◌*◌, ◌/◌, ◌^◌, ◌≤◌, ◌<◌}
use mathlib.Core.Path.{◌≡◌}
use native.Mathlib.Omega.{arith}
use native.Mathlib.Nat.{div-eq_of_lt}
use lib.Pow.{pow_mono}
use Rattle.mapping.specs.Walk.{span_pages}
use Rattle.addr.specs.Widths.{levels_of}
use Rattle.addr.specs.declared.width.Width.{Width}
use Rattle.addr.proofs.Widths.{few-levels}
use Rattle.paging.specs.Span.{after}
use Rattle.paging.proofs.Spanning.{lowest-ends}

pub all-pages : (levels x : ℕ) → x < span_pages levels → after levels x ≡ span_pages levels
unfolding after
all-pages levels x h = let z : x / span_pages levels ≡ 0 = div-eq_of_lt h in rw z (omega arith)

module _ (width : Width) where
  pub pages-top : span_pages (levels_of width) ≤ 2 ^ 45
  pages-top = pow_mono {i = 9 * levels_of width} {j = 45} (omega (arith, (few-levels width).1))

  -- a table of level 1 ends no later than all pages do
  pub ends-inside : (x : ℕ) → x < span_pages (levels_of width) → after 1 x ≤ span_pages (levels_of width)
  ends-inside x h = omega (arith, all-pages (levels_of width) x h, lowest-ends (levels_of width) x (omega (arith, (few-levels width).0)) (few-levels width).1)
