-- A list of searches by turns: what holds after each, and what is left at the end.
use Prim.Native.Nat.{ℕ, ◌+◌, ◌-◌, ◌*◌, ◌≤◌, ◌<◌}
use mathlib.Core.Path.{◌≡◌, refl, sym, ap, ◌∙◌}
use mathlib.Core.Bool.{cond}
use mathlib.Core.List.{List, [], ◌∷◌, ◌++◌, append-nil, append_assoc, map, map-append}
use mathlib.Core.Option.{none, some}
use native.Mathlib.Omega.{arith}
use lib.Dec.{ltb}
use borrow.Author.Tests.{lt-ltb, le-ltb}
use lib.ListN.{length, length-append, length-drop, length-map, take, drop}
use lib.Seq.{take_at, drop_at, drop-drop}
use Rattle.answer.specs.Outcome.{gives}
use Rattle.mapping.specs.Pages.{Space, Spanned}
use Rattle.mapping.specs.Search.{Answer, search, next, answers_from, left_after}
use Rattle.mapping.proofs.Found.{finds}
use Rattle.mapping.proofs.Steps.{forward, next-inside}
use Rattle.mapping.proofs.Some.{one_more, left-more, none_more, left_over, answers-add, left-add}
use Rattle.paging.specs.Search.{page_item, report, report_words}
use Rattle.paging.specs.List.{all_words, reports_from, room, settled}
use Rattle.paging.proofs.ListWords.{all-length, all_append}

-- after so many searches from page p, before the one from page x: their words, so many, stand at the start of the lent ones
pub record Turn (w : ℕ) (s : Space) (p : ℕ) (lent out : List ℕ) (x written used : ℕ) : Type 0 where
  pub five-each : used ≡ 5 * written
  pub has_room : used ≤ length lent
  pub inside : x ≤ s.size
  pub left : left_after s written p ≡ x
  pub count : length (answers_from s written p) ≡ written
  pub words : out ≡ all_words (reports_from w s written p) ++ drop used lent

pub first-turn : (w : ℕ) (s : Space) (p : ℕ) (lent : List ℕ) → p ≤ s.size → Turn w s p lent lent p 0 0
unfolding left_after answers_from all_words
first-turn w s p lent i = record { five-each = refl; has_room = omega arith; inside = i; left = refl; count = refl; words = refl }

module _ {w : ℕ} {s : Space} {p : ℕ} {lent out : List ℕ} {x written used : ℕ} (turn : Turn w s p lent out x written used) where
  words-used : length (all_words (reports_from w s written p)) ≡ used
  words-used = all-length (reports_from w s written p) ∙ omega (arith, length-map (answers_from s written p) (report w), turn.count, turn.five-each)

  pub same_length : length out ≡ length lent
  same_length =
      ap length turn.words ∙ length-append (all_words (reports_from w s written p)) (drop used lent)
      ∙ omega (arith, words-used, length-drop used lent, turn.has_room)

  -- one more, with its words
  module _ (spanned : Spanned s) (i : x < s.size) where
    pub later : x < next s (search s x)
    later = forward s spanned i (finds s spanned.halves x turn.inside)

    one : answers_from s (written + 1) p ≡ answers_from s written p ++ (search s x ∷ [])
    unfolding answers_from
    one =
        answers-add s written 1 p
        ∙ ap (λ (l : List Answer). answers_from s written p ++ l) (ap (answers_from s 1) turn.left ∙ one_more s 0 x i)

    pub next-turn : (out' : List ℕ) → used + 5 ≤ length lent → out' ≡ take used out ++ (report_words (report w (search s x)) ++ drop (used + 5) out)
        → Turn w s p lent out' (next s (search s x)) (written + 1) (used + 5)
    unfolding left_after all_words
    next-turn out' h e =
        let before : take used out ≡ all_words (reports_from w s written p)
        = ap (take used) turn.words ∙ take_at (all_words (reports_from w s written p)) (drop used lent) used words-used in
        let after : drop (used + 5) out ≡ drop (used + 5) lent
        = sym (drop-drop 5 used out)
        ∙ ap (drop 5) (ap (drop used) turn.words ∙ drop_at (all_words (reports_from w s written p)) (drop used lent) used words-used)
        ∙ drop-drop 5 used lent in
        let all : all_words (reports_from w s (written + 1) p) ≡ all_words (reports_from w s written p) ++ report_words (report w (search s x))
        = ap all_words (ap (map (report w)) one ∙ map-append (report w) (answers_from s written p) (search s x ∷ []))
        ∙ all_append (reports_from w s written p) (report w (search s x) ∷ [])
        ∙ ap (λ (l : List ℕ). all_words (reports_from w s written p) ++ l) (append-nil (report_words (report w (search s x)))) in
        record {
          five-each = omega (arith, turn.five-each);
          has_room = h;
          inside = next-inside s spanned (finds s spanned.halves x turn.inside);
          left = left-add s written 1 p ∙ ap (left_after s 1) turn.left ∙ left-more s 0 x i;
          count = ap length one ∙ length-append (answers_from s written p) (search s x ∷ []) ∙ omega (arith, turn.count);
          words =
              e
              ∙ rw (before, after, all)
              (sym (append_assoc (all_words (reports_from w s written p)) (report_words (report w (search s x))) (drop (used + 5) lent)));
        }

  -- where as many have room
  ends : answers_from s (room lent) p ≡ answers_from s written p → left_after s (room lent) p ≡ x
      → record { answer = gives (record { written = written; next = cond (ltb x s.size) (some (page_item w x)) none }); words = out } ≡ settled w (gives s) p lent
  ends a l = rw (a, l, turn.count, words-used, turn.words)

  -- the search is over
  pub over : s.size ≤ x → record { answer = gives (record { written = written; next = none }); words = out } ≡ settled w (gives s) p lent
  over h = rw (le-ltb x s.size h) at (ends all last)
    where
      rest : ℕ
      rest = room lent - written

      split : room lent ≡ written + rest
      split = omega (arith, turn.five-each, turn.has_room)

      all : answers_from s (room lent) p ≡ answers_from s written p
      all =
          ap (λ (n : ℕ). answers_from s n p) split ∙ answers-add s written rest p
          ∙ rw (turn.left, none_more s rest x h) (append-nil (answers_from s written p))

      last : left_after s (room lent) p ≡ x
      last = ap (λ (n : ℕ). left_after s n p) split ∙ left-add s written rest p ∙ rw turn.left (left_over s rest x h)

  -- no room is left
  pub full : x < s.size → length out - used < 5 → record { answer = gives (record { written = written; next = some (page_item w x) }); words = out } ≡ settled w (gives s) p lent
  full h r =
      let e : room lent ≡ written = omega (arith, turn.five-each, turn.has_room, same_length) in
      rw (lt-ltb x s.size h) at (ends (ap (λ (n : ℕ). answers_from s n p) e) (ap (λ (n : ℕ). left_after s n p) e ∙ turn.left))
