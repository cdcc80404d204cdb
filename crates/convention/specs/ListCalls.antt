-- That what calls of the C function that lists leave agrees with translating all 4 KiB pages singly, as its caller reads it.
use Rattle.std.specs.Prelude.{ℕ, ◌≤◌, ◌≡◌, cond, List, eqb, length, get_or}
use Rattle.std.proofs.Math.Option.{none, some}
use Rattle.answer.specs.Outcome.{gives, refuses}
use Rattle.laws.specs.Item.{item}
use Rattle.paging.specs.Translate.{image_refusal}
use Rattle.paging.specs.List.{Listing, listing}
use Rattle.paging.specs.ListAgreement.{ChainsAgree}
use Rattle.status.specs.Status.{answered}
use Rattle.convention.specs.Images.{LeftList, listed_length, leaves_list_at}

-- of a call that is answered, its own words: how many answers were written, whether the search is over, and the address of the next page, of 4 KiB; another status is
-- the number of a refusal. The answers' words are where they were lent
unfoldable pub read_list : LeftList → Listing
read_list l =
    let own = l.rest.words in
    record {
      answer =
          cond (eqb l.rest.status answered)
          (gives (record { written = get_or own 0 0; next = cond (eqb (get_or own 1 0) 1) none (some (item (get_or own 2 0) 0x1000)) }))
          (refuses l.rest.status);
      words = l.answers;
    }

-- of every accepted image, with any words lent for the answers and enough for the call's own
abbrev pub ListCallsAgree : (w levels : ℕ) → Type 0
ListCallsAgree w levels =
    (image : List ℕ) (base root : ℕ) → image_refusal image base root ≡ 0
    → (own : ℕ → List ℕ → List ℕ) → ((a : ℕ) (answers : List ℕ) → listed_length ≤ length (own a answers))
    → ChainsAgree w levels image base root (λ a answers. read_list (leaves_list_at w (listing w levels image base root a answers) answers (own a answers)))
