-- `step_at` does at an entry what its word asks for.
use mathlib.Core.Path.{sym, ◌∙◌, refl}
use native.Mathlib.Omega.{arith}
use Rattle.paging.proofs.Passing.{passes-absent, ends-absent, stops-broken, passes-mapped, ends-mapped}
use Rattle.paging.proofs.Spanning.{ahead_of}
use Rattle.image.proofs.Under.{absent-under, reserved-under, leaf-frame, leaf-under, outside-under, lower-under, empty-under}
use Rattle.image.proofs.tables.step_at.Goals as goal

pub returns-then-is_unfound : goal.returns-then-is_unfound
returns-then-is_unfound c = passes-absent (ahead_of _ _) _ (absent-under _ c.in-Absent.ensures) (sym c.is_unfound.ensures ∙ c.if-is_unfound.true)

pub overflow_add-frame : goal.overflow_add-frame
overflow_add-frame c = omega (arith, leaf-frame c.in-Leaf.ensures, c.within_span.ensures)

pub returns-then-take_by_bits : goal.returns-then-take_by_bits
returns-then-take_by_bits c =
    passes-mapped (ahead_of _ _) (leaf-under c.in-Leaf.ensures _) _ c.requires.going (leaf-frame c.in-Leaf.ensures)
    (rw (c.within_span.ensures, c.allows.ensures, c.if-take_by_bits.true) at c.take_by_bits.ensures.takes)

pub returns-in_default : goal.returns-in_default
returns-in_default c = stops-broken (ahead_of _ _) _ c.requires.going (outside-under _ c.in-Next.ensures c.requires.inside c.in_default.ensures) c.stop-in_default.ensures.halts

pub returns-then-is_empty : goal.returns-then-is_empty
returns-then-is_empty c =
    passes-absent (ahead_of _ _) _
    (empty-under (lower-under _ c.in-Next.ensures c.requires.inside c.in-Some.ensures) c.args.empty.now c.requires.known c.requires.upper.0 c.requires.upper.1 (sym c.is_empty.ensures ∙ c.if-is_empty.true))
    (sym c.is_unfound-in-Next.ensures ∙ c.if-is_unfound-2.true)

pub returns-else-is_unfound : goal.returns-else-is_unfound
returns-else-is_unfound c =
    ends-absent (ahead_of _ _) _ c.requires.going (absent-under _ c.in-Absent.ensures _ (omega arith) (ahead_of _ _)) (sym c.is_unfound.ensures ∙ c.if-is_unfound.false)

pub returns-in-Reserved : goal.returns-in-Reserved
returns-in-Reserved c = stops-broken (ahead_of _ _) _ c.requires.going (reserved-under _ c.in-Reserved.ensures) c.stop.ensures.halts

pub returns-else-take_by_bits : goal.returns-else-take_by_bits
returns-else-take_by_bits c =
    ends-mapped (ahead_of _ _) (leaf-under c.in-Leaf.ensures _) _ c.requires.going
    (rw (c.within_span.ensures, c.allows.ensures, c.if-take_by_bits.false) at c.take_by_bits.ensures.takes)

pub returns-else-is_unfound-2 : goal.returns-else-is_unfound-2
returns-else-is_unfound-2 c = (refl, rw c.allows-in-Next.ensures (lower-under _ c.in-Next.ensures c.requires.inside c.in-Some.ensures))
