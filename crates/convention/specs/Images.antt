-- Translation and the run search in the convention.
use Rattle.std.specs.Prelude.{ℕ, ◌≤◌, ◌<◌, ◌≡◌, true, false, cond, List, [], ◌∷◌, leb, length}
use Rattle.std.proofs.Math.Option.{Option, none, some}
use Rattle.answer.specs.Outcome.{Outcome}
use Rattle.laws.specs.Item.{Item}
use Rattle.paging.specs.Translate.{Translated, translated_words}
use Rattle.paging.specs.Search.{Report, report_words}
use Rattle.paging.specs.List.{Listed, Listing, Remembered}
use Rattle.status.specs.Status.{no_room, no_such_choice}
use Rattle.status.specs.Convention.{Left, left, leaves, in_words}
use Rattle.convention.specs.Choice.{is_width}

abbrev pub translation_words : Outcome Translated → Outcome (List ℕ)
translation_words o = in_words translated_words o

abbrev pub search_words : Outcome Report → Outcome (List ℕ)
search_words o = in_words report_words o

-- a list: how many answers were written, whether the search is over, and the next page's address, 0 if it is over
abbrev pub listed_words : ℕ → Option Item → List ℕ
listed_words n none = n ∷ 1 ∷ 0 ∷ []
listed_words n (some p) = n ∷ 0 ∷ p.start ∷ []

abbrev pub listed : Outcome Listed → Outcome (List ℕ)
listed o = in_words (λ l. listed_words l.written l.next) o

-- what a call that lists leaves: its status, the words of the answers, and its own words
pub record LeftList : Type 0 where
  pub answers : List ℕ
  pub rest : Left

abbrev pub left_list : List ℕ → ℕ → List ℕ → LeftList
left_list answers s words = record { answers = answers; rest = left s words }

-- how many words its own are
abbrev pub listed_length : ℕ
listed_length = 3

-- no room where too few words were lent for its own: then nothing was asked
unfoldable pub leaves_list : Listing → (answers out : List ℕ) → LeftList
leaves_list l answers out =
    cond (leb listed_length (length out)) (record { answers = l.words; rest = leaves (listed l.answer) out }) (left_list answers no_room out)

-- at a width, which is tried before that room
abbrev pub leaves_list_at : ℕ → Listing → (answers out : List ℕ) → LeftList
leaves_list_at w l answers out = cond (is_width w) (leaves_list l answers out) (left_list answers no_such_choice out)

-- the bytes that are lent for the memory of empty tables: as they were where nothing was asked
pub record LeftBytes (w : ℕ) (image : List ℕ) (base root a : ℕ) (out before after : List ℕ) : Type 0 where
  pub not-asked : length out < listed_length → after ≡ before
  pub asked : listed_length ≤ length out → Remembered w image base root a before after

-- at a width
pub record LeftBytesAt (w : ℕ) (image : List ℕ) (base root a : ℕ) (out before after : List ℕ) : Type 0 where
  pub no-width : is_width w ≡ false → after ≡ before
  pub at-width : is_width w ≡ true → LeftBytes w image base root a out before after
