-- `span_end` meets its contract: the mask takes how far into its span the page is.
use Prim.Native.Nat.{◌*◌, ◌/◌}
use native.Mathlib.Omega.{arith}
use native.Mathlib.Nat.{div-add-mod', add-mul}
use lib.Bits.{and_mask}
use Rattle.mapping.specs.Walk.{span_pages}
use Rattle.paging.specs.Span.{after}
use Rattle.image.proofs.span.span_end.Goals as goal

pub returns : goal.returns
unfolding after
returns c =
    let s = span_pages c.args.below in
    rw (c.span_pages-pages.ensures, and_mask c.args.page (9 * c.args.below)) (omega (arith, div-add-mod' c.args.page s, add-mul (c.args.page / s) 1 s))
