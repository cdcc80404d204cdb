-- The bytes of an inclusive range that is not refused fit 64 bits.
use Rattle.std.specs.Prelude.{◌≡◌, ℕ, ◌*◌, ◌^◌, ◌<◌, ◌≢◌, true}
use Rattle.std.proofs.Common.{arith}
use Rattle.laws.specs.Address.{Addresses}
use Rattle.laws.specs.Item.{items_refusal}
use Rattle.laws.specs.Run.{len_through}
use Rattle.laws.proofs.Item.{item-passed, items-passed}
use Rattle.laws.proofs.Run.{fits-through}
use Rattle.table.specs.Level.{bytes_of}
use Rattle.table.specs.declared.size.PageSize.{PageSize}
use Rattle.table.proofs.Sizes.{bytes_within}

module _ (s : Addresses) (n : s.argument ≢ 0) (f : (a : ℕ) → s.holds a ≡ true → s.position a < 2 ^ 63) (a : ℕ) (y : PageSize) (b : ℕ) (z : PageSize) where
  pub fits_through : items_refusal s a (bytes_of y) b (bytes_of z) ≡ 0 → len_through (s.position a) (s.position b) (bytes_of y) * bytes_of y < 2 ^ 64
  fits_through r =
      let i = items-passed s a (bytes_of y) b (bytes_of z) r in
      let g = item-passed s a (bytes_of y) n i.0 in
      let h = item-passed s b (bytes_of z) n i.1 in
      omega (arith, bytes_within y, f a g.0, f b h.0, fits-through (s.position a) (s.position b) (bytes_of y) (bytes_within y).0)
