-- Every list of searches agrees with the pages looked at singly, and extends to one that is over.
use Prim.Native.Nat.{ℕ, zero, suc, ◌+◌, ◌*◌, ◌/◌, ◌≤◌, ◌<◌}
use mathlib.Core.Path.{◌≡◌, refl, sym, ◌∙◌, subst}
use mathlib.Core.Logic.{◌⊎◌, inl, inr, ⊎_elim}
use mathlib.Core.List.{List, [], ◌∷◌}
use native.Mathlib.Decide.{dec_lt}
use native.Mathlib.Numerals.{add-one}
use native.Mathlib.Omega.{arith}
use Rattle.mapping.specs.Pages.{Rights, Reason, absent, broken, mapped, Space, Spanned}
use Rattle.mapping.specs.Search.{Answer, end, stop, run, search, next, Searches, none, more}
use Rattle.mapping.specs.Agreement.{InRun, UnderStop, Holds, says, nth, ExactlyOne, Agrees}
use Rattle.laws.proofs.Cases.{by_cases}
use Rattle.mapping.proofs.Found.{Found, finds, mapped-absent, broken-absent, mapped-broken}
use Rattle.mapping.proofs.Steps.{Boundary, Complete, complete, forward, next-inside, holds-between, says-true, absent-or-held, zero-boundary, next-boundary}

-- `end` holds no page, so none stands past the end of a list
pub end-holds : (s : Space) (x : ℕ) → Holds s end x → ⊥
unfolding InRun UnderStop
end-holds s x = ⊎_elim (λ z. z) (λ z. z)

-- what an answer says of a page that it holds, by its kind
run-says : (a : Answer) (x : ℕ) → InRun a x → (g : ℕ) × (h : Rights) × (says a x ≡ mapped g h)
unfolding InRun says
run-says end x m = absurd m
run-says (stop q l r) x m = absurd m
run-says (run q g c h) x m = (_, h, refl)

stop-says : (s : Space) (a : Answer) (x : ℕ) → UnderStop s a x → (l : ℕ) × (r : Reason) × (says a x ≡ broken l r)
unfolding UnderStop says
stop-says s end x m = absurd m
stop-says s (stop q l r) x m = (l, r, refl)
stop-says s (run q g c h) x m = absurd m

-- once no page is left nothing follows
none_left : {s : Space} {p e : ℕ} {answers : List Answer} (i : ℕ) → s.size ≤ p → Searches s p answers e → nth answers i ≡ end
none_left i b none = refl
none_left i b (more o r) = absurd (omega arith)

end-last : {s : Space} {p e : ℕ} {answers : List Answer} (i : ℕ) → Searches s p answers e → nth answers i ≡ end → nth answers (suc i) ≡ end
unfolding next
end-last i none z = refl
end-last {s} zero (more o r) z = none_left 0 (rw z (omega arith)) r
end-last (suc i) (more o r) z = end-last i r z

module _ (s : Space) (w : Spanned s) where
  found : (p : ℕ) → p < s.size → Found s p (search s p)
  found p i = finds s w.halves p (omega arith)

  -- the next page that is left: not before the first search's, and at most the end of the pages
  ahead : {p e : ℕ} {answers : List Answer} → Searches s p answers e → p ≤ e
  ahead none = omega arith
  ahead (more {p} o r) = omega (arith, forward s w o (found p o), ahead r)

  left-inside : {p e : ℕ} {answers : List Answer} → p ≤ s.size → Searches s p answers e → e ≤ s.size
  left-inside b none = b
  left-inside b (more {p} o r) = left-inside (next-inside s w (found p o)) r

  -- every page is absent or held, and as it is said where it is held
  cover : {p e : ℕ} {answers : List Answer} (x : ℕ) → Searches s p answers e → p ≤ x → x < e → (s.page x ≡ absent) ⊎ ((i : ℕ) × Holds s (nth answers i) x)
  cover x none a b = absurd (omega arith)
  cover x (more {p} o r) a b =
      by_cases (dec_lt x (next s (search s p))) (λ h. ⊎_elim inl (λ m. inr (0, m)) (absent-or-held s w x (found p o) a h))
      (λ n. ⊎_elim inl (λ m. inr (suc m.0, m.1)) (cover x r (omega arith) b))

  held-is : {p e : ℕ} {answers : List Answer} (x i : ℕ) → Searches s p answers e → Holds s (nth answers i) x → s.page x ≡ says (nth answers i) x
  held-is x i none m = absurd (end-holds s x m)
  held-is x zero (more {p} o r) m = says-true s w x (found p o) m
  held-is x (suc n) (more o r) m = held-is x n r m

  -- the pages held ascend, and no answer can be extended
  between : {p e : ℕ} {answers : List Answer} (x i : ℕ) → Boundary s p → Searches s p answers e → Holds s (nth answers i) x → (p ≤ x) × (x < e)
  between x i ok none m = absurd (end-holds s x m)
  between x zero ok (more {p} o r) m = omega (arith, holds-between s w p o ok x (found p o) m, ahead r)
  between x (suc n) ok (more {p} o r) m = omega (arith, between x n (next-boundary s w (found p o)) r m, forward s w o (found p o))

  ascend : {p e : ℕ} {answers : List Answer} (i j x y : ℕ) → i < j → Boundary s p → Searches s p answers e → Holds s (nth answers i) x
      → Holds s (nth answers j) y → x < y
  ascend i j x y b ok none m k = absurd (end-holds s x m)
  ascend i zero x y b ok (more o r) m k = absurd (omega arith)
  ascend zero (suc j) x y b ok (more {p} o r) m k =
      omega (arith, holds-between s w p o ok x (found p o) m, between y j (next-boundary s w (found p o)) r k)
  ascend (suc i) (suc j) x y b ok (more {p} o r) m k = ascend i j x y (omega arith) (next-boundary s w (found p o)) r m k

  complete-at : {p e : ℕ} {answers : List Answer} (i : ℕ) → Boundary s p → Searches s p answers e → Complete s (nth answers i)
  unfolding Complete
  complete-at i ok none = tt
  complete-at zero ok (more {p} o r) = complete s w p o ok (found p o)
  complete-at (suc n) ok (more {p} o r) = complete-at n (next-boundary s w (found p o)) r

  -- a list that goes on to the end of the pages
  finish : (n p : ℕ) → p ≤ s.size → s.size ≤ p + n → (later : List Answer) × Searches s p later s.size
  finish zero p a b = ([], subst (λ (e : ℕ). Searches s p [] e) (omega arith) none)
  finish (suc n) p a b =
      by_cases (dec_lt p s.size)
      (λ o. let t = finish n (next s (search s p)) (next-inside s w (found p o)) (omega (arith, forward s w o (found p o))) in (search s p ∷ t.0, more o t.1))
      (λ m. ([], subst (λ (e : ℕ). Searches s p [] e) (omega arith) none))

module _ (s : Space) (w : Spanned s) (answers : List Answer) (passed : ℕ) (all : Searches s 0 answers passed) where
  in-run : (x i : ℕ) → InRun (nth answers i) x → (g : ℕ) × (h : Rights) × (s.page x ≡ mapped g h)
  in-run x i m = let (g, h, e) = run-says (nth answers i) x m in (g, h, held-is s w x i all (inl m) ∙ e)

  under-stop : (x i : ℕ) → UnderStop s (nth answers i) x → (l : ℕ) × (r : Reason) × (s.page x ≡ broken l r)
  under-stop x i m = let (l, r, e) = stop-says s (nth answers i) x m in (l, r, held-is s w x i all (inr m) ∙ e)

  one : (x i j : ℕ) → Holds s (nth answers i) x → Holds s (nth answers j) x → j ≡ i
  one x i j m k =
      by_cases (dec_lt i j) (λ b. absurd (omega (arith, ascend s w i j x x b (zero-boundary s w) all m k)))
      (λ n. by_cases (dec_lt j i) (λ b. absurd (omega (arith, ascend s w j i x x b (zero-boundary s w) all k m))) (λ o. omega arith))

  of-mapped : (x g : ℕ) (h : Rights) → x < passed → s.page x ≡ mapped g h
      → ExactlyOne (λ i. InRun (nth answers i) x) (λ i. says (nth answers i) x ≡ mapped g h) × ((i : ℕ) → UnderStop s (nth answers i) x → ⊥)
  of-mapped x g h b e = (go (cover s w x all (omega arith) b), λ i u. mapped-broken e (under-stop x i u).2)
    where
      go : (s.page x ≡ absent) ⊎ ((i : ℕ) × Holds s (nth answers i) x) → ExactlyOne (λ i. InRun (nth answers i) x) (λ i. says (nth answers i) x ≡ mapped g h)
      go (inl z) = absurd (mapped-absent e z)
      go (inr (i, inl m)) = (i, m, sym (held-is s w x i all (inl m)) ∙ e, λ j k. one x i j (inl m) (inl k))
      go (inr (i, inr m)) = absurd (mapped-broken e (under-stop x i m).2)

  of-broken : (x l : ℕ) (r : Reason) → x < passed → s.page x ≡ broken l r
      → ExactlyOne (λ i. UnderStop s (nth answers i) x) (λ i. says (nth answers i) x ≡ broken l r) × ((i : ℕ) → InRun (nth answers i) x → ⊥)
  of-broken x l r b e = (go (cover s w x all (omega arith) b), λ i u. mapped-broken (in-run x i u).2 e)
    where
      go : (s.page x ≡ absent) ⊎ ((i : ℕ) × Holds s (nth answers i) x) → ExactlyOne (λ i. UnderStop s (nth answers i) x) (λ i. says (nth answers i) x ≡ broken l r)
      go (inl z) = absurd (broken-absent e z)
      go (inr (i, inl m)) = absurd (mapped-broken (in-run x i m).2 e)
      go (inr (i, inr m)) = (i, m, sym (held-is s w x i all (inr m)) ∙ e, λ j k. one x i j (inr m) (inr k))

  inside : passed ≤ s.size
  inside = left-inside s w (omega arith) all

  pub agrees : Agrees s answers passed
  unfolding Complete
  agrees =
      record {
        mapped-page = of-mapped;
        broken-page = of-broken;
        absent-page = λ x i b e. (λ m. mapped-absent (in-run x i m).2 e, λ m. broken-absent (under-stop x i m).2 e);
        runs-passed = λ x i m. (between s w x i (zero-boundary s w) all (inl m)).1;
        stops-passed = λ x i m. (between s w x i (zero-boundary s w) all (inr m)).1;
        ascending = λ i j x y b m k. ascend s w i j x y b (zero-boundary s w) all m k;
        maximal = λ i q g c h e. subst (Complete s) e (complete-at s w i (zero-boundary s w) all);
        stop-first = λ i q l r e. let z : q ≡ q / s.span l * s.span l = subst (Complete s) e (complete-at s w i (zero-boundary s w) all) in omega arith;
        end-last = λ i z. rw add-one (end-last i all z);
        inside = inside;
      }

  -- searches from the page that it left go on to the end
  pub extends : (later : List Answer) × Searches s passed later s.size
  extends = finish s w s.size passed inside (omega arith)
