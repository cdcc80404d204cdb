-- The bytes that `bytes_through` counts fit 64 bits.
use Rattle.std.specs.Prelude.{◌≡◌}
use Rattle.std.proofs.Common.{arith, sym}
use Rattle.std.proofs.lemmas.Grind.{common_steps}
use Rattle.laws.specs.Item.{items_refusal}
use Rattle.table.specs.Level.{bytes_of}
use Rattle.item.proofs.Bytes.{fits_through}
use Rattle.item.proofs.range.bytes_through.Goals as goal

pub overflow_mul-result : goal.overflow_mul-result
overflow_mul-result g c =
    let x = c.args.start in
    let y = c.args.end in
    let s = g.S.Addresses.space c.args.space in
    let r : items_refusal s x.start (bytes_of x.size) y.start (bytes_of y.size) ≡ 0 = sym (rw c.in_ok-check_both.was at c.check_both.ensures) in
    let t = fits_through s (g.met.S.Addresses.numbered c.args.space) (g.met.S.Addresses.positions_fit c.args.space) x.start x.size y.start y.size r in
    grind (arith, common_steps)
