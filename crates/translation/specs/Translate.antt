-- What the cases of the code's answers stand for: translation.
use Rattle.std.specs.Prelude.{ℕ, ◌-◌, ◌≤◌, ◌≡◌, Result}
use Rattle.answer.specs.Outcome.{Outcome}
use Rattle.answer.specs.Answers.{outcome_of}
use Rattle.answer.specs.declared.refusal.Refusal.{Refusal}
use Rattle.laws.specs.Index.{span}
use Rattle.mapping.specs.Pages.{reserved, outside}
use Rattle.table.specs.Level.{bytes_of}
use Rattle.table.specs.declared.size.PageSize.{PageSize}
use Rattle.paging.specs.Translate.{Translated, mapped, absent, broken}
use Rattle.walk.specs.Rights.{rights_held}
use Rattle.translation.specs.declared.translation.TranslateAnswer.{TranslateAnswer}
use Rattle.translation.specs.declared.translation.TranslateAnswer.TheVariants as answer

-- what each case of an answer stands for
abbrev pub translated_of : TranslateAnswer → Translated
translated_of (answer.Mapped p s r) = mapped p.0 (bytes_of s) (rights_held r)
translated_of (answer.Absent l) = absent l
translated_of (answer.Reserved l) = broken l reserved
translated_of (answer.Outside l) = broken l outside

abbrev pub translation_of : Result TranslateAnswer Refusal → Outcome Translated
translation_of = outcome_of translated_of

-- the size of the pages that an entry of level 1, 2 or 3 maps
abbrev pub SizeAt : ℕ → PageSize → Type 0
SizeAt l s = 1 ≤ l → l ≤ 3 → bytes_of s ≡ span (l - 1)
