-- Two lists that agree with the same passed pages have the same answer at every place; as lists of runs and stops they are the same.
use Prim.Native.Nat.{ℕ, zero, suc, ◌+◌, ◌*◌, ◌-◌, ◌/◌, ◌≤◌, ◌<◌}
use mathlib.Core.Path.{◌≡◌, refl, sym, ap, ◌∙◌, subst}
use mathlib.Core.Logic.{inl, inr}
use mathlib.Core.List.{List, [], ◌∷◌}
use native.Mathlib.Decide.{ℕ_discrete, dec_lt}
use native.Mathlib.Nat.{div-mul-le_self}
use native.Mathlib.Numerals.{add-one}
use native.Mathlib.Omega.{arith}
use Rattle.mapping.specs.Pages.{Rights, PageState, absent, broken, mapped, Space}
use Rattle.mapping.specs.Search.{Answer, end, stop, run}
use Rattle.mapping.specs.Agreement.{InRun, UnderStop, Holds, says, nth, Agrees, RunsAndStops, Unique}
use Rattle.laws.proofs.Cases.{by_cases}
use Rattle.mapping.proofs.Lists.{end-holds}

is-end : (a : Answer) → Dec (a ≡ end)
is-end end = yes refl
is-end (stop q l r) = no (λ e. let z : ◌≡◌ {A = ℕ} 0 1 = cc in omega arith)
is-end (run q g c h) = no (λ e. let z : ◌≡◌ {A = ℕ} 0 1 = cc in omega arith)

-- the first page that an answer holds
first_page : Answer → ℕ
first_page end = 0
first_page (stop q l r) = q
first_page (run q g c h) = q

-- what the claims say of one list
module _ (s : Space) (a : List Answer) (passed : ℕ) (ag : Agrees s a passed) where
  held-passed : (x i : ℕ) → Holds s (nth a i) x → x < passed
  held-passed x i (inl m) = ag.runs-passed x i m
  held-passed x i (inr m) = ag.stops-passed x i m

  held-is : (x i : ℕ) → Holds s (nth a i) x → s.page x ≡ says (nth a i) x
  held-is x i m = go (s.page x) refl m
    where
      b : x < passed
      b = held-passed x i m

      go : (p : PageState) → s.page x ≡ p → Holds s (nth a i) x → p ≡ says (nth a i) x
      go absent e (inl k) = absurd ((ag.absent-page x i b e).0 k)
      go absent e (inr k) = absurd ((ag.absent-page x i b e).1 k)
      go (broken l r) e (inl k) = absurd ((ag.broken-page x l r b e).1 i k)
      go (broken l r) e (inr k) = let o = (ag.broken-page x l r b e).0 in sym (rw (o.3 i k) o.2)
      go (mapped g h) e (inl k) = let o = (ag.mapped-page x g h b e).0 in sym (rw (o.3 i k) o.2)
      go (mapped g h) e (inr k) = absurd ((ag.mapped-page x g h b e).1 i k)

  held-present : (x i : ℕ) → Holds s (nth a i) x → s.page x ≡ absent → ⊥
  held-present x i (inl m) e = (ag.absent-page x i (ag.runs-passed x i m) e).0 m
  held-present x i (inr m) e = (ag.absent-page x i (ag.stops-passed x i m) e).1 m

  present-held : (x : ℕ) → x < passed → (s.page x ≡ absent → ⊥) → (i : ℕ) × Holds s (nth a i) x
  present-held x b n = go (s.page x) refl
    where
      go : (p : PageState) → s.page x ≡ p → (i : ℕ) × Holds s (nth a i) x
      go absent e = absurd (n e)
      go (broken l r) e = let o = (ag.broken-page x l r b e).0 in (o.0, inr o.1)
      go (mapped g h) e = let o = (ag.mapped-page x g h b e).0 in (o.0, inl o.1)

  -- after `end` stands `end`
  ends : (i j : ℕ) → i ≤ j → nth a i ≡ end → nth a j ≡ end
  ends i zero b e = subst (λ (k : ℕ). nth a k ≡ end) (omega arith) e
  ends i (suc j) b e = by_cases (ℕ_discrete i (suc j)) (λ z. rw (← z) e) (λ z. rw add-one at (ag.end-last j (ends i j (omega arith) e)))

  -- an answer's first page is the least that it holds
  first-held : (i : ℕ) → (nth a i ≡ end → ⊥) → Holds s (nth a i) (first_page (nth a i))
  unfolding InRun UnderStop first_page
  first-held i n = go (nth a i) refl
    where
      go : (v : Answer) → nth a i ≡ v → Holds s v (first_page v)
      go end e = absurd (n e)
      go (stop q l r) e = inr refl
      go (run q g c h) e = inl (omega (arith, (ag.maximal i q g c h e).some))

  first-least : (i y : ℕ) → Holds s (nth a i) y → first_page (nth a i) ≤ y
  unfolding InRun UnderStop first_page
  first-least i y m = go (nth a i) refl m
    where
      go : (v : Answer) → nth a i ≡ v → Holds s v y → first_page v ≤ y
      go end e k = omega arith
      go (stop q l r) e (inl k) = absurd k
      go (stop q l r) e (inr k) = let d : q ≡ q / s.span l * s.span l = ag.stop-first i q l r e in omega (arith, rw k at (div-mul-le_self y (s.span l)))
      go (run q g c h) e (inl k) = k.0
      go (run q g c h) e (inr k) = absurd k

  run-page : (i q g c : ℕ) (h : Rights) → nth a i ≡ run q g c h → (k : ℕ) → k < c → (q + k < passed) × (s.page (q + k) ≡ mapped (g + k) h)
  unfolding InRun says
  run-page i q g c h e k b =
      let m : Holds s (nth a i) (q + k) = inl (rw e (omega arith)) in
      (held-passed (q + k) i m, held-is (q + k) i m ∙ rw e (ap (λ (n : ℕ). mapped (g + n) h) (omega arith)))

-- the place i of two lists whose answers before it are the same
module _ (s : Space) (a b : List Answer) (passed : ℕ) (aa : Agrees s a passed) (bb : Agrees s b passed) (i : ℕ)
    (before : (k : ℕ) → k < i → nth a k ≡ nth b k) (n : nth a i ≡ end → ⊥) where
  -- the other list holds the first page of the answer there, and not before
  held : (j : ℕ) × (i ≤ j) × Holds s (nth b j) (first_page (nth a i))
  held =
      let q = first_page (nth a i) in
      let m = first-held s a passed aa i n in
      let (j, k) = present-held s b passed bb q (held-passed s a passed aa q i m) (held-present s a passed aa q i m) in
      (j, by_cases (dec_lt j i) (λ z. absurd (omega (arith, aa.ascending j i q q z (rw (before j z) k) m))) (λ z. omega arith), k)

  not_end : nth b i ≡ end → ⊥
  not_end e = let (j, z, k) = held in end-holds s (first_page (nth a i)) (rw (ends s b passed bb i j z e) at k)

  not-later : first_page (nth b i) ≤ first_page (nth a i)
  not-later =
      let (j, z, k) = held in
      by_cases (dec_lt i j) (λ y. omega (arith, bb.ascending i j (first_page (nth b i)) (first_page (nth a i)) y (first-held s b passed bb i not_end) k))
      (λ y. first-least s b passed bb i (first_page (nth a i)) (subst (λ (v : ℕ). Holds s (nth b v) (first_page (nth a i))) (omega arith) k))

-- of two runs that begin alike at the same place neither holds more pages
count-le : (s : Space) (a b : List Answer) (passed : ℕ) → Agrees s a passed → Agrees s b passed
    → (i q g c d : ℕ) (h : Rights) → nth a i ≡ run q g c h → nth b i ≡ run q g d h → d ≤ c
count-le s a b passed aa bb i q g c d h e f =
    by_cases (dec_lt c d)
    (λ z.
    let (p, m) = run-page s b passed bb i q g d h f c z in
    let u = aa.maximal i q g c h e in
    let v = bb.maximal i q g d h f in
    absurd (u.after (omega (arith, aa.inside)) (λ y. omega (arith, u.some, v.in-half (omega (arith, u.some)))) m))
    (λ z. omega arith)

module _ (s : Space) (a b : List Answer) (passed : ℕ) (aa : Agrees s a passed) (bb : Agrees s b passed) where
  -- two answers at the same place that begin at the same page, and say the same of it, are the same
  alike : (i : ℕ) (u v : Answer) → nth a i ≡ u → nth b i ≡ v → first_page u ≡ first_page v → says u (first_page u) ≡ says v (first_page v) → u ≡ v
  unfolding first_page says
  alike i end end e f p z = refl
  alike i end (stop q l r) e f p z = cc
  alike i end (run q g c h) e f p z = cc
  alike i (stop q l r) end e f p z = cc
  alike i (stop q l r) (stop q' l' r') e f p z = cc
  alike i (stop q l r) (run q' g c h) e f p z = cc
  alike i (run q g c h) end e f p z = cc
  alike i (run q g c h) (stop q' l r) e f p z = cc
  alike i (run q g c h) (run q' g' c' h') e f p z =
      let frame : g + (q - q) ≡ g' + (q' - q') = cc in
      let g=g' : g ≡ g' = omega arith in
      let h=h' : h ≡ h' = cc in
      let f' : nth b i ≡ run q g c' h = cc in
      let c=c' : c ≡ c' = omega (arith, count-le s a b passed aa bb i q g c c' h e f', count-le s b a passed bb aa i q g c' c h f' e) in
      cc

  same_place : (i : ℕ) → ((k : ℕ) → k < i → nth a k ≡ nth b k) → nth a i ≡ nth b i
  same_place i before =
      by_cases (is-end (nth a i))
      (λ e. by_cases (is-end (nth b i)) (λ f. e ∙ sym f) (λ n. absurd (not_end s b a passed bb aa i (λ k l. sym (before k l)) n e)))
      (λ m.
      let n = not_end s a b passed aa bb i before m in
      let x = not-later s a b passed aa bb i before m in
      let y = not-later s b a passed bb aa i (λ k l. sym (before k l)) n in
      let p : first_page (nth a i) ≡ first_page (nth b i) = omega arith in
      let u = held-is s a passed aa (first_page (nth a i)) i (first-held s a passed aa i m) in
      let v = held-is s b passed bb (first_page (nth b i)) i (first-held s b passed bb i n) in
      alike i (nth a i) (nth b i) refl refl p (sym u ∙ ap s.page p ∙ v))

  places-below : (n i : ℕ) → i < n → nth a i ≡ nth b i
  places-below zero i l = absurd (omega arith)
  places-below (suc n) i l = same_place i (λ k b. places-below n k (omega arith))

  same-places : (i : ℕ) → nth a i ≡ nth b i
  same-places i = places-below (suc i) i (omega arith)

-- lists of runs and stops that have the same answer at every place
same_lists : (a b : List Answer) → RunsAndStops a → RunsAndStops b → ((i : ℕ) → nth a i ≡ nth b i) → a ≡ b
same_lists [] [] ra rb e = refl
same_lists [] (v ∷ b) ra rb e = absurd (rb 0 (omega arith) (sym (e 0)))
same_lists (u ∷ a) [] ra rb e = absurd (ra 0 (omega arith) (e 0))
same_lists (u ∷ a) (v ∷ b) ra rb e =
    let x : u ≡ v = e 0 in
    let y = same_lists a b (λ i l. ra (suc i) (omega arith)) (λ i l. rb (suc i) (omega arith)) (λ i. e (suc i)) in
    cc

pub unique : Unique
unique s a b passed aa bb = let e = same-places s a b passed aa bb in (e, λ ra rb. same_lists a b ra rb e)
