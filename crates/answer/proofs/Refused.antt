-- What a refusal's number says: it is not 0, so it refuses.
use Rattle.std.specs.Prelude.{◌≡◌, ℕ, suc, refl}
use Rattle.answer.specs.Outcome.{Outcome, refuses, unless_refused}
use Rattle.answer.specs.Answers.{number_of}
use Rattle.answer.specs.declared.refusal.Refusal.{Refusal}
use Rattle.answer.specs.declared.refusal.Refusal.TheVariants as refusal

pub refused_number : {A : Type 0} (r : Refusal) (o : Outcome A) → unless_refused (number_of r) o ≡ refuses (number_of r)
refused_number refusal.NotCanonical o = refl
refused_number refusal.NotPhysical o = refl
refused_number refusal.NotAligned o = refl
refused_number refusal.NotPowerOfTwo o = refl
refused_number refusal.Overflow o = refl
refused_number refusal.ResultNotCanonical o = refl
refused_number refusal.SizesDiffer o = refl
refused_number refusal.ResultNotPhysical o = refl
refused_number refusal.IndexTooLarge o = refl
refused_number refusal.DrawMeetsGap o = refl
refused_number refusal.PfnTooLarge o = refl
refused_number refusal.WrongFile o = refl
refused_number refusal.RootOutside o = refl

pub not_zero : (r : Refusal) → number_of r ≡ 0 → ⊥
not_zero refusal.NotCanonical e = cc
not_zero refusal.NotPhysical e = cc
not_zero refusal.NotAligned e = cc
not_zero refusal.NotPowerOfTwo e = cc
not_zero refusal.Overflow e = cc
not_zero refusal.ResultNotCanonical e = cc
not_zero refusal.SizesDiffer e = cc
not_zero refusal.ResultNotPhysical e = cc
not_zero refusal.IndexTooLarge e = cc
not_zero refusal.DrawMeetsGap e = cc
not_zero refusal.PfnTooLarge e = cc
not_zero refusal.WrongFile e = cc
not_zero refusal.RootOutside e = cc
