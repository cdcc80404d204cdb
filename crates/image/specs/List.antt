-- What the code's answers stand for: lists of searches.
use Rattle.std.specs.Prelude.{ℕ, List, Option, Some, None, Result}
use Rattle.std.proofs.Math.Option as math
use Rattle.answer.specs.Outcome.{Outcome}
use Rattle.answer.specs.Answers.{outcome_of}
use Rattle.answer.specs.declared.refusal.Refusal.{Refusal}
use Rattle.laws.specs.Item.{Item}
use Rattle.page.specs.Page as page
use Rattle.page.specs.declared.page.Page.{Page}
use Rattle.paging.specs.List as list
use Rattle.image.specs.declared.list_searches.Listed.{Listed}

-- the next page, if the search is not over
abbrev pub next_of : Option Page → math.Option Item
next_of (Some p) = math.some (page.item_of p)
next_of None = math.none

abbrev pub written_of : Listed → list.Listed
written_of l = record { written = l.written; next = next_of l.next }

-- what a call's result stands for
abbrev pub listed_of : Result Listed Refusal → Outcome list.Listed
listed_of = outcome_of written_of

abbrev pub listing_of : Result Listed Refusal → List ℕ → list.Listing
listing_of r out = record { answer = listed_of r; words = out }
