-- The answers of a list of searches, written into lent words.
use Rattle.std.specs.Prelude.{ℕ, ◌/◌, true, cond, List, [], ◌∷◌, ◌++◌, map, ◌≡◌, ltb, length, drop}
use Rattle.std.proofs.Math.Option.{Option, none, some}
use Rattle.answer.specs.Outcome.{Outcome, gives, refuses, unless_refused}
use Rattle.answer.specs.Outcome as outcome
use Rattle.mapping.specs.Pages.{Space}
use Rattle.mapping.specs.Search.{answers_from, left_after}
use Rattle.laws.specs.Item.{Item}
use Rattle.paging.specs.EmptyTables.{TrueOf}
use Rattle.paging.specs.Entry.{entry}
use Rattle.paging.specs.Memory.{table_at}
use Rattle.paging.specs.Translate.{root_table, page_number}
use Rattle.paging.specs.Search.{Report, page_item, report, report_words, answer_words, search_refusal, image_pages}

-- the words of what is reported, one after the other
unfoldable pub all_words : List Report → List ℕ
all_words [] = []
all_words (r ∷ reports) = report_words r ++ all_words reports

-- what is reported of at most `k` searches from page `p` on
abbrev pub reports_from : ℕ → Space → (k p : ℕ) → List Report
reports_from w s k p = map (report w) (answers_from s k p)

-- how many answers were written, and the next page that the last of them left; none once the search is over
pub record Listed : Type 0 where
  pub written : ℕ
  pub next : Option Item

-- what a call answers, and the lent words after it
pub record Listing : Type 0 where
  pub answer : Outcome Listed
  pub words : List ℕ

-- the answers that have room in the lent words
abbrev pub room : List ℕ → ℕ
room out = length out / answer_words

abbrev pub listed_from : ℕ → Space → (p : ℕ) → List ℕ → Listed
listed_from w s p out =
    record {
      written = length (answers_from s (room out) p);
      next = cond (ltb (left_after s (room out) p) s.size) (some (page_item w (left_after s (room out) p))) none;
    }

-- the answers' words stand at the start of the lent ones; on a refusal, and beyond them, the lent words are as they were
abbrev pub settled : ℕ → Outcome (Space) → (p : ℕ) → List ℕ → Listing
settled w (gives s) p out =
    record {
      answer = gives (listed_from w s p out);
      words = all_words (reports_from w s (room out) p) ++ drop (length (all_words (reports_from w s (room out) p))) out;
    }
settled w outcome.none p out = record { answer = outcome.none; words = out }
settled w (refuses k) p out = record { answer = refuses k; words = out }

unfoldable pub listing : (w levels : ℕ) → List ℕ → (base root a : ℕ) → List ℕ → Listing
listing w levels image base root a out =
    settled w (unless_refused (search_refusal w image base root a) (gives (image_pages levels image base (root_table image base root)))) (page_number w a) out

-- the lent bytes before and after: as long as before; on a refusal as they were, else free, but a set bit is true of the image
pub record Remembered (w : ℕ) (image : List ℕ) (base root a : ℕ) (before after : List ℕ) : Type 0 where
  pub as_long : length after ≡ length before
  pub untouched : (search_refusal w image base root a ≡ 0 → ⊥) → after ≡ before
  pub true_of : search_refusal w image base root a ≡ 0 → TrueOf (entry 52 true) (table_at image base) image after
