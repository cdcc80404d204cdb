-- The convention of the C interface: a status, and the answer's words in what the caller lent.
use Rattle.std.specs.Prelude.{ℕ, Bool, cond, List, [], ◌∷◌, ◌++◌, leb, length, drop}
use Rattle.answer.specs.Outcome.{Outcome, gives, none, refuses, and_then}
use Rattle.status.specs.Status.{answered, no_room, no_item}

-- what a call leaves: its status, and the lent words
pub record Left : Type 0 where
  pub status : ℕ
  pub words : List ℕ

abbrev pub left : ℕ → List ℕ → Left
left s ws = record { status = s; words = ws }

-- answered: the answer's words stand at the start of the lent ones. A refusal's status is its number. All but the answer's words is as it was.
unfoldable pub leaves : Outcome (List ℕ) → List ℕ → Left
leaves (gives vs) out = cond (leb (length vs) (length out)) (left answered (vs ++ drop (length vs) out)) (left no_room out)
leaves none out = left no_item out
leaves (refuses k) out = left k out

-- an answer told by the words of its value
abbrev pub in_words : {A : Type 0} → (A → List ℕ) → Outcome A → Outcome (List ℕ)
in_words words o = and_then o (λ x. gives (words x))

-- an answer of one number, and of a truth value: 1 or 0
abbrev pub word : Outcome ℕ → Outcome (List ℕ)
word o = in_words (λ n. n ∷ []) o

abbrev pub truth : Outcome Bool → Outcome (List ℕ)
truth o = in_words (λ b. cond b 1 0 ∷ []) o
