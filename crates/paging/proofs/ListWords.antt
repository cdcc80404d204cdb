-- The words of answers, joined.
use Prim.Native.Nat.{ℕ, ◌*◌}
use mathlib.Core.Path.{◌≡◌, refl, sym, ap, ◌∙◌}
use mathlib.Core.List.{List, [], ◌∷◌, ◌++◌, append_assoc}
use native.Mathlib.Omega.{arith}
use lib.ListN.{length, length-append}
use Rattle.mapping.specs.Pages.{reserved, outside}
use Rattle.paging.specs.Search.{Report, report_words}
use Rattle.paging.specs.Search as reports
use Rattle.paging.specs.List.{all_words}

-- five words for each
words-length : (r : Report) → length (report_words r) ≡ 5
words-length reports.end = refl
words-length (reports.stop p l reserved) = refl
words-length (reports.stop p l outside) = refl
words-length (reports.run p f c h) = refl

pub all-length : (l : List Report) → length (all_words l) ≡ 5 * length l
unfolding all_words
all-length [] = refl
all-length (r ∷ l) = length-append (report_words r) (all_words l) ∙ omega (arith, words-length r, all-length l)

pub all_append : (l m : List Report) → all_words (l ++ m) ≡ all_words l ++ all_words m
unfolding all_words
all_append [] m = refl
all_append (r ∷ l) m = ap (λ (x : List ℕ). report_words r ++ x) (all_append l m) ∙ sym (append_assoc (report_words r) (all_words l) (all_words m))
