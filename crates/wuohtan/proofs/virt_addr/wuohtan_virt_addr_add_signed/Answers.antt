-- `wuohtan_virt_addr_add_signed` meets its contract: the width chosen has the bits asked for, and the displacement is the one handed in.
use Prim.Native.Nat.{ℕ}
use mathlib.Core.Path.{◌≡◌, ap, ◌∙◌}
use Rattle.std.proofs.Common.{w32}
use Rattle.std.proofs.Math.Facts.{to_z-of_z}
use Rattle.answer.specs.Outcome.{Outcome}
use Rattle.addr.specs.Widths.{width_of}
use Rattle.status.specs.Convention.{leaves, word}
use Rattle.convention.proofs.Choice.{bits_with}
use Rattle.wuohtan.proofs.virt_addr.wuohtan_virt_addr_add_signed.Goals as goal

pub returns : goal.returns
returns c =
    let chosen = c.in-Some.ensures in
    let bits : width_of c.in-Some.w ≡ c.args.width = rw chosen.1 (bits_with c.args.width chosen.0) in
    let sum = rw (to_z-of_z {w = w32} c.ranges.displacement) at c.add_signed.ensures in
    rw (chosen.0, ← bits) (c.give_word.ensures ∙ ap (λ (o : Outcome ℕ). leaves (word o) c.args.out.now) sum)
