-- What the cases of the code's answers stand for: the run search.
use Rattle.std.specs.Prelude.{Result}
use Rattle.answer.specs.Outcome.{Outcome}
use Rattle.answer.specs.Answers.{outcome_of}
use Rattle.answer.specs.declared.refusal.Refusal.{Refusal}
use Rattle.frame.specs.Frame as frame
use Rattle.page.specs.Page as page
use Rattle.paging.specs.Search.{Report, end, stop, run}
use Rattle.walk.specs.Rights.{rights_held}
use Rattle.found.specs.Progress.{reason_of}
use Rattle.image.specs.declared.run_search.SearchAnswer.{SearchAnswer}
use Rattle.image.specs.declared.run_search.SearchAnswer.TheVariants as answer

-- what each case of an answer stands for
abbrev pub reported_of : SearchAnswer → Report
reported_of answer.End = end
reported_of (answer.Stop p l r) = stop (page.item_of p) l (reason_of r)
reported_of (answer.Run p f c h) = run (page.item_of p) (frame.item_of f) c (rights_held h)

abbrev pub report_of : Result SearchAnswer Refusal → Outcome Report
report_of = outcome_of reported_of
