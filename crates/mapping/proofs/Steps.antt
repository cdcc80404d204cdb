-- One search of a list: what its answer holds, says and leaves.
use Prim.Native.Nat.{ℕ, ◌+◌, ◌*◌, ◌-◌, ◌/◌, ◌≤◌, ◌<◌}
use mathlib.Core.Path.{◌≡◌, ap, ◌∙◌, subst}
use mathlib.Core.Logic.{◌⊎◌, inl, inr}
use native.Mathlib.Decide.{ℕ_discrete, dec_lt}
use native.Mathlib.Nat.{div-mul-le_self, lt-div-mul-add, div-eq_of_lt-le, div-lt_iff_lt-mul, mul-le-mul_right, mul-div_cancel, zero-div}
use native.Mathlib.Omega.{arith}
use Rattle.mapping.specs.Pages.{Rights, Reason, absent, broken, mapped, same_state, Space, Spanned}
use Rattle.mapping.specs.Search.{Answer, end, stop, run, next}
use Rattle.mapping.specs.Agreement.{InRun, UnderStop, Holds, says, Maximal}
use Rattle.laws.proofs.Cases.{by_cases}
use Rattle.mapping.proofs.Found.{From, Found, no_more, at-stop, at-run, half-low, not-half-end, in-half, starts, mapped-absent, broken-absent, mapped-broken}

-- the span of n pages that q is in
before-span-end : (q n : ℕ) → 0 < n → q < (q / n + 1) * n
before-span-end q n h = omega (arith, lt-div-mul-add {a = q} {b = n} h)

-- a page p where runs and spans begin: no run goes on from the page before p, and p is not inside a broken entry's span
pub record Boundary (s : Space) (p : ℕ) : Type 0 where
  pub run-begins : p < s.size → (y k : ℕ) (h : Rights) → y + 1 ≡ p → (p ≡ s.high → ⊥) → s.page y ≡ mapped k h → s.page p ≡ mapped (k + 1) h → ⊥
  pub span_begins : p < s.size → (l : ℕ) (r : Reason) → s.page p ≡ broken l r → p ≡ p / s.span l * s.span l

-- a run cannot be extended, and a stop's page is the first of the broken entry's span
unfoldable pub Complete : Space → Answer → Type 0
Complete s end = Unit {0}
Complete s (stop q l r) = q ≡ q / s.span l * s.span l
Complete s (run q g c h) = Maximal s q g c h

module _ (s : Space) (w : Spanned s) where
  first-of-span : (y q l : ℕ) (r : Reason) → y + 1 ≡ q → q < s.size → s.page q ≡ broken l r → (s.page y ≡ broken l r → ⊥) → q ≡ q / s.span l * s.span l
  first-of-span y q l r n i e m =
      by_cases (ℕ_discrete q (q / s.span l * s.span l)) (λ z. z)
      (λ z.
      absurd
      (m
      (w.alike q y l r i e
      (div-eq_of_lt-le (s.span l) (omega (arith, div-mul-le_self q (s.span l))) (omega (arith, before-span-end q (s.span l) (w.some q l r i e)))))))

  pub zero-boundary : Boundary s 0
  zero-boundary = record { run-begins = λ b y k h n. absurd (omega arith); span_begins = λ b l r e. rw zero-div (omega arith) }

  -- the next page that an answer leaves
  pub next-boundary : {p : ℕ} {a : Answer} → Found s p a → Boundary s (next s a)
  unfolding next
  next-boundary (no_more z) = record { run-begins = λ b. absurd (omega arith); span_begins = λ b. absurd (omega arith) }
  next-boundary (at-stop {q} {l} {r} fr e) =
      record {
        run-begins = λ b y k h n j m. absurd (mapped-broken m (last y n));
        span_begins = λ b l' r' m.
            by_cases (same_state (s.page (past - 1)) (broken l' r'))
            (λ z.
            let d : l ≡ l' = cc (last (past - 1) (omega (arith, some))) in
            subst (λ (v : ℕ). past ≡ past / s.span v * s.span v) d (rw (mul-div_cancel, pos)))
            (λ z. first-of-span (past - 1) past l' r' (omega (arith, some)) b m z);
      }
    where
      past : ℕ
      past = (q / s.span l + 1) * s.span l

      pos : 0 < s.span l
      pos = w.some q l r fr.inside e

      some : 0 < past
      some = omega (arith, before-span-end q (s.span l) pos)

      last : (y : ℕ) → y + 1 ≡ past → s.page y ≡ broken l r
      last y n = w.alike q y l r fr.inside e (div-eq_of_lt-le (s.span l) (omega (arith, pos)) (omega arith))
  next-boundary (at-run {q} {g} {c} {h} fr st) =
      record {
        run-begins = λ b y k h' n j m m'.
            let e = st.each y (omega arith) (omega arith) in
            let ek : k ≡ g + (y - q) = cc in
            let eh : h' ≡ h = cc in
            st.after (not-half-end s q (q + c) j b st.in-half) (m' ∙ ap (λ (v : ℕ). mapped v h') (omega arith) ∙ ap (mapped (g + c)) eh);
        span_begins = λ b l r m. first-of-span (q + c - 1) (q + c) l r (omega arith) b m (mapped-broken (st.each (q + c - 1) (omega arith) (omega arith)));
      }

  -- it leaves a later page, at most the end of the pages
  pub forward : {p : ℕ} {a : Answer} → p < s.size → Found s p a → p < next s a
  unfolding next
  forward i (no_more z) = i
  forward i (at-stop {q} {l} {r} fr e) = omega (arith, before-span-end q (s.span l) (w.some q l r fr.inside e))
  forward i (at-run fr st) = omega arith

  pub next-inside : {p : ℕ} {a : Answer} → Found s p a → next s a ≤ s.size
  unfolding next
  next-inside (no_more z) = omega arith
  next-inside (at-stop {q} {l} {r} fr e) =
      let (k, d) = w.divides q l r fr.inside e in
      let b : q < k * s.span l = omega arith in
      rw d (mul-le-mul_right (s.span l) (omega (arith, (div-lt_iff_lt-mul {k = s.span l} {x = q} {y = k} (w.some q l r fr.inside e)).1 b)))
  next-inside (at-run {q} fr st) = omega (arith, in-half s w.halves q fr.inside)

  -- it says what the pages that it holds are, and of the others up to the next page that they are absent
  pub says-true : {p : ℕ} {a : Answer} (x : ℕ) → Found s p a → Holds s a x → s.page x ≡ says a x
  unfolding says InRun UnderStop
  says-true x (no_more z) (inl m) = absurd m
  says-true x (no_more z) (inr m) = absurd m
  says-true x (at-stop fr e) (inl m) = absurd m
  says-true x (at-stop {q} {l} {r} fr e) (inr m) = w.alike q x l r fr.inside e m
  says-true x (at-run fr st) (inl m) = st.each x m.0 m.1
  says-true x (at-run fr st) (inr m) = absurd m

  pub absent-or-held : {p : ℕ} {a : Answer} (x : ℕ) → Found s p a → p ≤ x → x < next s a → (s.page x ≡ absent) ⊎ Holds s a x
  unfolding next InRun UnderStop
  absent-or-held x (no_more z) b c = inl (z x b c)
  absent-or-held x (at-stop {q} {l} {r} fr e) b d =
      by_cases (dec_lt x q) (λ m. inl (fr.skipped x b m)) (λ m. inr (inr (div-eq_of_lt-le (s.span l) (omega (arith, div-mul-le_self q (s.span l))) d)))
  absent-or-held x (at-run {q} fr st) b d = by_cases (dec_lt x q) (λ m. inl (fr.skipped x b m)) (λ m. inr (inl (omega arith)))

  -- an answer of a search from a boundary
  module _ (p : ℕ) (i : p < s.size) (boundary : Boundary s p) where
    stop-first : (q l : ℕ) (r : Reason) → From s p q → s.page q ≡ broken l r → q ≡ q / s.span l * s.span l
    stop-first q l r fr e =
        by_cases (ℕ_discrete q p) (λ z. rw z (boundary.span_begins i l r (rw z at e)))
        (λ z. first-of-span (q - 1) q l r (omega arith) fr.inside e (λ b. broken-absent b (fr.skipped (q - 1) (omega arith) (omega arith))))

    pub complete : {a : Answer} → Found s p a → Complete s a
    unfolding Complete
    complete (no_more z) = tt
    complete (at-stop {q} {l} {r} fr e) = stop-first q l r fr e
    complete (at-run {q} {g} {c} {h} fr st) =
        record {
          some = omega (arith, st.some);
          in-half = λ b. omega (arith, st.in-half, half-low s q b);
          after = λ b j. st.after (not-half-end s q (q + c) j b st.in-half);
          before = λ y k n j m e.
              by_cases (ℕ_discrete q p)
              (λ z. boundary.run-begins i y k h (omega arith) (λ b. j (z ∙ b)) e (rw (← z, m) (starts s st)))
              (λ z. mapped-absent e (fr.skipped y (omega arith) (omega arith)));
        }

    -- it holds no page before p, and none from the next page on
    pub holds-between : {a : Answer} (x : ℕ) → Found s p a → Holds s a x → (p ≤ x) × (x < next s a)
    unfolding next InRun UnderStop
    holds-between x (no_more z) (inl m) = absurd m
    holds-between x (no_more z) (inr m) = absurd m
    holds-between x (at-stop fr e) (inl m) = absurd m
    holds-between x (at-stop {q} {l} {r} fr e) (inr m) =
        let d : x / s.span l * s.span l ≡ q = rw m (omega (arith, stop-first q l r fr e)) in
        (omega (arith, div-mul-le_self x (s.span l)), rw (← m) (before-span-end x (s.span l) (w.some q l r fr.inside e)))
    holds-between x (at-run fr st) (inl m) = omega arith
    holds-between x (at-run fr st) (inr m) = absurd m
