-- The first answers of a list of searches, one by one: they are a list of searches, and leave the page that it says. Lists that follow each other.
use Prim.Native.Nat.{ℕ, zero, suc, ◌+◌, ◌≤◌, ◌<◌}
use mathlib.Core.Path.{◌≡◌, refl, sym, ap, ◌∙◌}
use mathlib.Core.List.{List, [], ◌∷◌, ◌++◌}
use native.Mathlib.Omega.{arith}
use native.Mathlib.Decide.{dec_lt}
use native.Mathlib.Nat.{zero-add, suc-add}
use borrow.Author.Tests.{lt-ltb, le-ltb}
use lib.ListN.{length}
use Rattle.laws.proofs.Cases.{by_cases}
use Rattle.mapping.specs.Pages.{Space}
use Rattle.mapping.specs.Search.{Answer, search, next, Searches, none, more, answers_from, left_after}

module _ (s : Space) where
  pub one_more : (k p : ℕ) → p < s.size → answers_from s (suc k) p ≡ search s p ∷ answers_from s k (next s (search s p))
  unfolding answers_from
  one_more k p h = rw (lt-ltb p s.size h)

  pub left-more : (k p : ℕ) → p < s.size → left_after s (suc k) p ≡ left_after s k (next s (search s p))
  unfolding left_after
  left-more k p h = rw (lt-ltb p s.size h)

  -- once it is over, none follows
  pub none_more : (k p : ℕ) → s.size ≤ p → answers_from s k p ≡ []
  unfolding answers_from
  none_more zero p h = refl
  none_more (suc k) p h = rw (le-ltb p s.size h)

  pub left_over : (k p : ℕ) → s.size ≤ p → left_after s k p ≡ p
  unfolding left_after
  left_over zero p h = refl
  left_over (suc k) p h = rw (le-ltb p s.size h)

  pub some-searches : (k p : ℕ) → Searches s p (answers_from s k p) (left_after s k p)
  unfolding answers_from left_after
  some-searches zero p = none
  some-searches (suc k) p =
      by_cases (dec_lt p s.size) (λ h. rw (lt-ltb p s.size h) (more h (some-searches k (next s (search s p)))))
      (λ n. rw (le-ltb p s.size (omega arith)) none)

  pub at_most : (k p : ℕ) → length (answers_from s k p) ≤ k
  unfolding answers_from
  at_most zero p = omega arith
  at_most (suc k) p =
      by_cases (dec_lt p s.size) (λ h. rw (lt-ltb p s.size h) (omega (arith, at_most k (next s (search s p)))))
      (λ n. rw (le-ltb p s.size (omega arith)) (omega arith))

  -- where it is not over, all of them are there
  pub all_there : (k p : ℕ) → left_after s k p < s.size → length (answers_from s k p) ≡ k
  unfolding answers_from left_after
  all_there zero p h = refl
  all_there (suc k) p h =
      by_cases (dec_lt p s.size)
      (λ i. rw (lt-ltb p s.size i) (ap suc (all_there k (next s (search s p)) (rw (lt-ltb p s.size i) at h))))
      (λ n. let o = rw (le-ltb p s.size (omega arith)) at h in absurd (n o))

  -- lists that follow each other are one
  pub join : {p e o : ℕ} {answers later : List Answer} → Searches s p answers e → Searches s e later o → Searches s p (answers ++ later) o
  join none t = t
  join (more o r) t = more o (join r t)

  -- k more after the first n go on from the page that these left
  pub answers-add : (n k p : ℕ) → answers_from s (n + k) p ≡ answers_from s n p ++ answers_from s k (left_after s n p)
  unfolding answers_from left_after
  answers-add zero k p = ap (λ (m : ℕ). answers_from s m p) (zero-add k)
  answers-add (suc n) k p =
      ap (λ (m : ℕ). answers_from s m p) (suc-add n k)
      ∙ by_cases (dec_lt p s.size) (λ h. rw (lt-ltb p s.size h) (ap (λ (l : List Answer). search s p ∷ l) (answers-add n k (next s (search s p)))))
      (λ h. rw (le-ltb p s.size (omega arith)) (sym (none_more k p (omega arith))))

  pub left-add : (n k p : ℕ) → left_after s (n + k) p ≡ left_after s k (left_after s n p)
  unfolding left_after
  left-add zero k p = ap (λ (m : ℕ). left_after s m p) (zero-add k)
  left-add (suc n) k p =
      ap (λ (m : ℕ). left_after s m p) (suc-add n k)
      ∙ by_cases (dec_lt p s.size) (λ h. rw (lt-ltb p s.size h) (left-add n k (next s (search s p))))
      (λ h. rw (le-ltb p s.size (omega arith)) (sym (left_over k p (omega arith))))
