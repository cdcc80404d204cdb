-- The laws of `first`: what it finds, that it finds nothing else, and how it goes over pages in two parts.
use Prim.Native.Nat.{ℕ, zero, suc, ◌+◌, ◌≤◌, ◌<◌}
use mathlib.Core.Path.{◌≡◌, refl, sym, ◌∙◌}
use native.Mathlib.Decide.{ℕ_discrete, dec_lt}
use native.Mathlib.Nat.{zero-add, suc-add}
use native.Mathlib.Omega.{arith}
use Rattle.mapping.specs.Pages.{PageState, same_state}
use Rattle.mapping.specs.Search.{first}
use Rattle.laws.proofs.Cases.{by_cases}

module _ (f w : ℕ → PageState) where
  pub first-same : (k p : ℕ) → f p ≡ w p → first f w (suc k) p ≡ first f w k (suc p)
  unfolding first
  first-same k p e = go (same_state (f p) (w p)) refl
    where
      go : (d : Dec (f p ≡ w p)) → same_state (f p) (w p) ≡ d → first f w (suc k) p ≡ first f w k (suc p)
      go (yes a) h = rw (h, first)
      go (no n) h = absurd (n e)

  pub first-other : (k p : ℕ) → (f p ≡ w p → ⊥) → first f w k p ≡ p
  unfolding first
  first-other zero p n = refl
  first-other (suc k) p n = go (same_state (f p) (w p)) refl
    where
      go : (d : Dec (f p ≡ w p)) → same_state (f p) (w p) ≡ d → first f w (suc k) p ≡ p
      go (yes a) h = absurd (n a)
      go (no _) h = rw (h, first)

  -- what it finds
  pub first-ge : (k p : ℕ) → p ≤ first f w k p
  unfolding first
  first-ge zero p = omega arith
  first-ge (suc k) p = go (same_state (f p) (w p)) (first-ge k (suc p))
    where
      go : Dec (f p ≡ w p) → suc p ≤ first f w k (suc p) → p ≤ first f w (suc k) p
      go (yes a) h = rw (first-same k p a) (omega arith)
      go (no n) h = rw (first-other (suc k) p n) (omega arith)

  pub first-le : (k p : ℕ) → first f w k p ≤ p + k
  unfolding first
  first-le zero p = omega arith
  first-le (suc k) p = go (same_state (f p) (w p)) (first-le k (suc p))
    where
      go : Dec (f p ≡ w p) → first f w k (suc p) ≤ suc p + k → first f w (suc k) p ≤ p + suc k
      go (yes a) h = rw (first-same k p a) (omega arith)
      go (no n) h = rw (first-other (suc k) p n) (omega arith)

  pub first_below : (k p x : ℕ) → p ≤ x → x < first f w k p → f x ≡ w x
  unfolding first
  first_below zero p x a b = absurd (omega arith)
  first_below (suc k) p x a b = go (same_state (f p) (w p)) (ℕ_discrete x p) (first_below k (suc p) x)
    where
      go : Dec (f p ≡ w p) → Dec (x ≡ p) → (suc p ≤ x → x < first f w k (suc p) → f x ≡ w x) → f x ≡ w x
      go (no n) d h = absurd (omega (arith, first-other (suc k) p n))
      go (yes e) (yes x=p) h = rw x=p e
      go (yes e) (no x≠p) h = h (omega arith) (rw (first-same k p e) at b)

  pub first-stop : (k p : ℕ) → first f w k p < p + k → f (first f w k p) ≡ w (first f w k p) → ⊥
  unfolding first
  first-stop zero p b = absurd (omega arith)
  first-stop (suc k) p b = go (same_state (f p) (w p)) (first-stop k (suc p))
    where
      go : Dec (f p ≡ w p) → (first f w k (suc p) < suc p + k → f (first f w k (suc p)) ≡ w (first f w k (suc p)) → ⊥)
          → f (first f w (suc k) p) ≡ w (first f w (suc k) p) → ⊥
      go (yes e) h = rw (first-same k p e) (h (omega (arith, first-same k p e)))
      go (no n) h = rw (first-other (suc k) p n) n

  -- it finds nothing else
  pub first-is : (k p c : ℕ) → p ≤ c → c ≤ p + k → ((x : ℕ) → p ≤ x → x < c → f x ≡ w x) → (c < p + k → f c ≡ w c → ⊥) → first f w k p ≡ c
  first-is k p c a b below stop =
      by_cases (dec_lt (first f w k p) c) (λ h. absurd (first-stop k p (omega arith) (below _ (first-ge k p) h)))
      (λ m. by_cases (dec_lt c (first f w k p)) (λ h. absurd (stop (omega (arith, first-le k p)) (first_below k p c a h))) (λ n. omega arith))

  pub first-all : (k p : ℕ) → ((x : ℕ) → p ≤ x → x < p + k → f x ≡ w x) → first f w k p ≡ p + k
  first-all k p h = first-is k p (p + k) (omega arith) (omega arith) h (λ z. absurd (omega arith))

  -- in two parts: `a` pages, and from where that ends `b` more
  pub first-add : (a b p : ℕ) → first f w (a + b) p ≡ first f w b (first f w a p)
  unfolding first
  first-add zero b p = rw zero-add
  first-add (suc a) b p = go (same_state (f p) (w p)) (first-add a b (suc p))
    where
      go : Dec (f p ≡ w p) → first f w (a + b) (suc p) ≡ first f w b (first f w a (suc p)) → first f w (suc a + b) p ≡ first f w b (first f w (suc a) p)
      go (yes e) h = rw (suc-add a b, first-same (a + b) p e, first-same a p e) h
      go (no n) h = rw (first-other (suc a + b) p n, first-other (suc a) p n, first-other b p n)

-- only the pages gone over count
pub first-congr : (f f' w w' : ℕ → PageState) (k p : ℕ) → ((x : ℕ) → p ≤ x → x < p + k → f x ≡ f' x) → ((x : ℕ) → p ≤ x → x < p + k → w x ≡ w' x)
    → first f w k p ≡ first f' w' k p
first-congr f f' w w' k p ef ew =
    let ge = first-ge f' w' k p in
    let le = first-le f' w' k p in
    first-is f w k p (first f' w' k p) ge le (λ x a b. ef x a (omega arith) ∙ first_below f' w' k p x a b ∙ sym (ew x a (omega arith)))
    (λ b e. first-stop f' w' k p b (sym (ef _ ge b) ∙ e ∙ ew _ ge b))
