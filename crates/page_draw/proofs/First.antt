-- Draws of one page: an accepted range meets the gap where its start or its end would come to lie in it, of an inclusive range if the other end is in the other half.
use Prim.Native.Nat.{ℕ, ◌-◌}
use mathlib.Core.Path.{◌≡◌}
use mathlib.Core.Bool.{◌&&◌}
use lib.Dec.{ltb, leb, eqb}
use Rattle.laws.specs.Width.{half, first_high}
use Rattle.laws.specs.Draw as draw
use Rattle.laws.specs.Run.{below, through}
use Rattle.laws.proofs.Next as one
use Rattle.laws.proofs.Within as within
use Rattle.table.specs.Level.{bytes_of}
use Rattle.table.specs.declared.size.PageSize.{PageSize}
use Rattle.laws.specs.Address.{virt}
use Rattle.laws.specs.Item.{items_refusal}
use Rattle.addr.specs.Widths.{width_of}
use Rattle.addr.specs.declared.width.Width.{Width}
use Rattle.addr.proofs.Widths.{page-width}
use Rattle.page_draw.proofs.Accepted.{accepted, gap-room}

module _ (v : Width) (a : ℕ) (s : PageSize) (b : ℕ) (t : PageSize) (e : items_refusal (virt (width_of v)) a (bytes_of s) b (bytes_of t) ≡ 0) where
  pub next_below : eqb (draw.front_below (below a b (bytes_of s)) a b (bytes_of s) 0).start (half (width_of v)) ≡ draw.gap_front (width_of v) a b (bytes_of s) 0
  next_below = one.next-below-gap (width_of v) (bytes_of s) a b (accepted (page-width v) a s b t e).ends (gap-room (page-width v) a s b t e)

  pub next_back_below : eqb (draw.back_below (below a b (bytes_of s)) a b (bytes_of s) 0).end (first_high (width_of v) - bytes_of s) ≡ draw.gap_back (width_of v) a b (bytes_of s) 0
  next_back_below = one.next-back-below-gap (width_of v) (bytes_of s) a b (accepted (page-width v) a s b t e).ends (gap-room (page-width v) a s b t e)

  pub next_through : (eqb (draw.front_through (through a b (bytes_of s)) (draw.top_page (bytes_of s)) a b (bytes_of s) 0).start (half (width_of v)) && leb (first_high (width_of v)) b)
      ≡ draw.gap_front (width_of v) a b (bytes_of s) 0
  next_through = within.next-through-gap (width_of v) (bytes_of s) a b (accepted (page-width v) a s b t e).ends (gap-room (page-width v) a s b t e) (through a b (bytes_of s))

  pub next_back_through : (eqb (draw.back_through (through a b (bytes_of s)) 0 a b (bytes_of s) 0).end (first_high (width_of v) - bytes_of s) && ltb a (half (width_of v)))
      ≡ draw.gap_back (width_of v) a b (bytes_of s) 0
  next_back_through = within.next-back-through-gap (width_of v) (bytes_of s) a b (accepted (page-width v) a s b t e).ends (gap-room (page-width v) a s b t e) (through a b (bytes_of s))
