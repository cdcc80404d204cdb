-- Draws of frames are those of before, and so are lengths.
use Prim.Native.Nat.{ℕ, ◌*◌, ◌-◌, ◌^◌, ◌<◌}
use mathlib.Core.Path.{◌≡◌, refl, sym, ap, ◌∙◌}
use mathlib.Core.Bool.{true, false, cond}
use native.Mathlib.Omega.{arith}
use native.Mathlib.Decide.{ℕ_discrete}
use borrow.Author.Tests.{ltb-true}
use lib.Dec.{eqb}
use Rattle.answer.specs.Outcome.{Outcome, gives, unless}
use Rattle.answer.specs.Refusal.{overflow}
use Rattle.laws.specs.Address.{phys}
use Rattle.laws.specs.Item.{given_items}
use Rattle.laws.specs.Run.{len_through}
use Rattle.laws.proofs.Cases.{by_cases}
use Rattle.laws.proofs.Item.{phys-argument, item-passed, items-passed, items_refused}
use Rattle.laws.proofs.Length.{not-whole}
use Rattle.table.proofs.Sizes.{bytes_within}
use Rattle.frame.specs.Frame.{start, bytes}
use Rattle.frame.specs.Range.{refusal}
use Rattle.frame.specs.declared.frame.PhysFrame.{PhysFrame}
use Rattle.laws.specs.Run.{through}
use Rattle.laws.specs.Draw as draw
use Rattle.laws.proofs.Before.{back-from-zero}
use Rattle.frame.specs.Range as now
use Rattle.frame.specs.Range.{frames, frame_draw}
use Rattle.frame.specs.Before as before
use Rattle.frame.specs.Before.{AsBefore, LengthAsBefore}

back-numbers : (a y b z n : ℕ) → now.nth_back_through a y b z n ≡ before.nth_back_through a y b z n
unfolding now.nth_back_through before.nth_back_through
back-numbers a y b z n = ap (λ (d : draw.Draw). frame_draw a y b z false d) (back-from-zero (through a b y) a b y n)

pub as_before : AsBefore
unfolding now.nth_below now.nth_back_below now.nth_through before.nth_below before.nth_back_below before.nth_through
as_before =
    record {
      nth = λ r n. refl;
      nth-back = λ r n. refl;
      nth-inclusive = λ r n. refl;
      nth-back-inclusive = λ r n. rw (back-numbers (frames.item r.start).start (frames.item r.start).bytes (frames.item r.end).start (frames.item r.end).bytes n);
    }

-- no frame ends at 2^64
module _ (x y : PhysFrame) where
  abbrev given : Outcome ℕ → Outcome ℕ
  given o = given_items (phys 52) (start x) (bytes x) (start y) (bytes y) o

  size-through : (t : ℕ) → given (gives t) ≡ given (unless overflow (cond (eqb (start y) (2 ^ 64 - bytes x)) (cond (eqb (start x) 0) false true) true) (gives t))
  size-through t = by_cases (ℕ_discrete (refusal x y) 0) passed (λ n. sym (items_refused (phys 52) (start x) (bytes x) (start y) (bytes y) _ n) ∙ items_refused (phys 52) (start x) (bytes x) (start y) (bytes y) _ n)
    where
      passed : refusal x y ≡ 0 → given (gives t) ≡ given (unless overflow (cond (eqb (start y) (2 ^ 64 - bytes x)) (cond (eqb (start x) 0) false true) true) (gives t))
      passed e =
          let i = items-passed (phys 52) (start x) (bytes x) (start y) (bytes y) e in
          let h = (item-passed (phys 52) (start y) (bytes y) (phys-argument 52) i.1).0 in
          let l : start y < 2 ^ 52 = ltb-true (start y) (2 ^ 52) h in
          rw (e, not-whole (start x) (start y) (bytes x) (λ f g. omega (arith, bytes_within x.size)))

pub length-as-before : LengthAsBefore
length-as-before =
    record {
      len = λ r. refl;
      len-inclusive = λ r. refl;
      size = λ r. refl;
      size-inclusive = λ r. size-through r.start r.end (len_through (start r.start) (start r.end) (bytes r.start) * bytes r.start);
    }
