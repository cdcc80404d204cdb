-- `pass_pages` goes over the pages of a table of level 1.
use mathlib.Core.Path.{sym, ◌∙◌}
use Rattle.image.proofs.PagesTurn.{at-first, all-passed, reserved-page, other-page, mapped-on, run-ends, absent-on}
use Rattle.image.proofs.pages.pass_pages.Goals as goal

pub loop-i-init : goal.loop-i-init
loop-i-init c = at-first c.requires.going

pub returns-then-word-reserved-ne0 : goal.returns-then-word-reserved-ne0
returns-then-word-reserved-ne0 c =
    reserved-page c.loop-i.invariant c.loop-i-test.true (sym c.is_present.ensures ∙ c.if-is_present.true) c.if-word-reserved-ne0.true c.stop.ensures.halts

pub returns-then-not-take_by_bits : goal.returns-then-not-take_by_bits
returns-then-not-take_by_bits c =
    other-page c.loop-i.invariant c.loop-i-test.true (sym c.is_present.ensures ∙ c.if-is_present.true) c.if-word-reserved-ne0.false
    (rw (c.frame_in.ensures, c.allows.ensures, c.if-not-take_by_bits.true) at c.take_by_bits.ensures.takes)

pub loop-i-preserved-then-is_present : goal.loop-i-preserved-then-is_present
loop-i-preserved-then-is_present c =
    mapped-on c.loop-i.invariant c.loop-i-test.true (sym c.is_present.ensures ∙ c.if-is_present.true) c.if-word-reserved-ne0.false
    (rw (c.frame_in.ensures, c.allows.ensures, c.if-not-take_by_bits.false) at c.take_by_bits.ensures.takes) c.alike-i.ensures

pub returns-then-not-is_unfound : goal.returns-then-not-is_unfound
returns-then-not-is_unfound c =
    run-ends c.loop-i.invariant c.loop-i-test.true (sym c.is_present.ensures ∙ c.if-is_present.false) (sym c.is_unfound.ensures ∙ c.if-not-is_unfound.true)

pub loop-i-preserved : goal.loop-i-preserved
loop-i-preserved c =
    absent-on c.loop-i.invariant c.loop-i-test.true (sym c.is_present.ensures ∙ c.if-is_present.false) (sym c.is_unfound.ensures ∙ c.if-not-is_unfound.false) c.alike-i-else-is_present.ensures

pub returns : goal.returns
returns c = all-passed c.loop-i.invariant c.loop-i-test.false
