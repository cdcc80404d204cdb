-- What a search finds, as a relation: the search finds it, and nothing else stands in the relation.
use Prim.Native.Nat.{ℕ, ◌+◌, ◌-◌, ◌≤◌, ◌<◌}
use mathlib.Core.Path.{◌≡◌, refl, sym, ap, ◌∙◌, subst}
use mathlib.Core.Logic.{◌⊎◌, inl, inr}
use mathlib.Core.Bool.{Bool, cond}
use native.Mathlib.Decide.{ℕ_discrete, dec_lt}
use native.Mathlib.Omega.{arith}
use borrow.Author.Tests.{lt-ltb, le-ltb}
use Rattle.mapping.specs.Pages.{Rights, Reason, PageState, absent, broken, mapped, Space}
use Rattle.mapping.specs.Search.{Answer, end, stop, run, first, nothing, line, half_end, answer_at, answer_from, search}
use Rattle.laws.proofs.Cases.{by_cases}
use Rattle.mapping.proofs.First.{first-ge, first-le, first_below, first-stop, first-is}

-- q is a page of the space from p on, and those from p to q are absent
pub record From (s : Space) (p q : ℕ) : Type 0 where
  pub ahead : p ≤ q
  pub inside : q < s.size
  pub skipped : (x : ℕ) → p ≤ x → x < q → s.page x ≡ absent

-- c pages from q on, all in q's half, are mapped with frames from g on and the rights h; the next page of the half is not
pub record Stretch (s : Space) (q g c : ℕ) (h : Rights) : Type 0 where
  pub some : 0 < c
  pub in-half : q + c ≤ half_end s q
  pub each : (x : ℕ) → q ≤ x → x < q + c → s.page x ≡ mapped (g + (x - q)) h
  pub after : q + c < half_end s q → s.page (q + c) ≡ mapped (g + c) h → ⊥

pub data Found (s : Space) (p : ℕ) : Answer → Type 0 where
  no_more : ((x : ℕ) → p ≤ x → x < s.size → s.page x ≡ absent) → Found s p end
  at-stop : {q l : ℕ} {r : Reason} → From s p q → s.page q ≡ broken l r → Found s p (stop q l r)
  at-run : {q g c : ℕ} {h : Rights} → From s p q → Stretch s q g c h → Found s p (run q g c h)

-- a page has one state
pub broken-absent : {a : PageState} {l : ℕ} {r : Reason} → a ≡ broken l r → a ≡ absent → ⊥
broken-absent e z = let n : ◌≡◌ {A = ℕ} 0 1 = cc in omega arith

pub mapped-absent : {a : PageState} {g : ℕ} {h : Rights} → a ≡ mapped g h → a ≡ absent → ⊥
mapped-absent e z = let n : ◌≡◌ {A = ℕ} 0 1 = cc in omega arith

pub mapped-broken : {a : PageState} {g l : ℕ} {h : Rights} {r : Reason} → a ≡ mapped g h → a ≡ broken l r → ⊥
mapped-broken e z = let n : ◌≡◌ {A = ℕ} 0 1 = cc in omega arith

pub line_at : (q g : ℕ) (h : Rights) (c x : ℕ) → x ≡ q + c → line q g h x ≡ mapped (g + c) h
unfolding line
line_at q g h c x e = ap (λ (n : ℕ). mapped n h) (omega arith)

-- page q is in the low half or in the high one
abbrev Half : Space → ℕ → Type 0
Half s q = ((q < s.high) × (half_end s q ≡ s.high)) ⊎ ((s.high ≤ q) × (half_end s q ≡ s.size))

module _ (s : Space) where
  half : (q : ℕ) → Half s q
  unfolding half_end
  half q =
      by_cases (dec_lt q s.high) (λ h. inl (h, ap (λ (b : Bool). cond b s.high s.size) (lt-ltb q s.high h)))
      (λ n. inr (omega arith, ap (λ (b : Bool). cond b s.high s.size) (le-ltb q s.high (omega arith))))

  pub half-low : (q : ℕ) → q < s.high → half_end s q ≡ s.high
  half-low q h = go (half q)
    where
      go : Half s q → half_end s q ≡ s.high
      go (inl c) = c.1
      go (inr c) = absurd (omega arith)

  -- a page at the end of neither half, and not past the end of q's half, is before it
  pub not-half-end : (q e : ℕ) → (e ≡ s.high → ⊥) → e < s.size → e ≤ half_end s q → e < half_end s q
  not-half-end q e n b l = go (half q)
    where
      go : Half s q → e < half_end s q
      go (inl c) = omega arith
      go (inr c) = omega arith

  pub in-half : s.high ≤ s.size → (q : ℕ) → q < s.size → (q < half_end s q) × (half_end s q ≤ s.size)
  in-half halves q h = go (half q)
    where
      go : Half s q → (q < half_end s q) × (half_end s q ≤ s.size)
      go (inl c) = omega arith
      go (inr c) = omega arith

  answer-inside : (q : ℕ) → q < s.size → answer_from s q ≡ answer_at s q (s.page q)
  unfolding answer_from
  answer-inside q h = ap (λ (b : Bool). cond b (answer_at s q (s.page q)) end) (lt-ltb q s.size h)

  answer-past : (q : ℕ) → s.size ≤ q → answer_from s q ≡ end
  unfolding answer_from
  answer-past q h = ap (λ (b : Bool). cond b (answer_at s q (s.page q)) end) (le-ltb q s.size h)

  stretch : (q g : ℕ) (h : Rights) → q < half_end s q → s.page q ≡ mapped g h → Stretch s q g (first s.page (line q g h) (half_end s q - q) q - q) h
  unfolding line
  stretch q g h i e =
      let n = half_end s q - q in
      let x = first s.page (line q g h) n q in
      let ge : q ≤ x = first-ge s.page (line q g h) n q in
      let le : x ≤ q + n = first-le s.page (line q g h) n q in
      let eq : x ≡ q + (x - q) = omega arith in
      record {
        some =
            by_cases (ℕ_discrete x q)
            (λ z. absurd (first-stop s.page (line q g h) n q (omega arith) (rw z (e ∙ ap (λ (k : ℕ). mapped k h) (omega arith))))) (λ z. omega arith);
        in-half = omega arith;
        each = λ y a b. first_below s.page (line q g h) n q y a (omega arith);
        after = λ b m.
            first-stop s.page (line q g h) n q (omega arith)
            (subst (λ (y : ℕ). s.page y ≡ line q g h y) (sym eq) (m ∙ sym (line_at q g h (x - q) (q + (x - q)) refl)));
      }

  pub starts : {q g c : ℕ} {h : Rights} → Stretch s q g c h → s.page q ≡ mapped g h
  starts {q} {g} {c} {h} st = st.each q (omega arith) (omega arith) ∙ ap (λ (n : ℕ). mapped n h) (omega arith)

  first-from : (p q : ℕ) → From s p q → (s.page q ≡ absent → ⊥) → first s.page nothing (s.size - p) p ≡ q
  unfolding nothing
  first-from p q fr n = first-is s.page nothing (s.size - p) p q fr.ahead (omega arith) fr.skipped (λ b. n)

  -- what stands in the relation is what the search answers
  pub found-is : (p : ℕ) (a : Answer) → p ≤ s.size → Found s p a → search s p ≡ a
  unfolding search nothing answer_at line
  found-is p a i (no_more z) =
      rw (first-is s.page nothing (s.size - p) p s.size i (omega arith) z (λ b. absurd (omega arith))) (answer-past s.size (omega arith))
  found-is p a i (at-stop {q} fr e) = rw (first-from p q fr (broken-absent e), answer-inside q fr.inside) (ap (answer_at s q) e)
  found-is p a i (at-run {q} {g} {c} {h} fr st) =
      rw (first-from p q fr (mapped-absent e), answer-inside q fr.inside) (ap (answer_at s q) e ∙ ap (λ (n : ℕ). run q g n h) (omega (arith, last)))
    where
      e : s.page q ≡ mapped g h
      e = starts st

      last : first s.page (line q g h) (half_end s q - q) q ≡ q + c
      last =
          first-is s.page (line q g h) (half_end s q - q) q (q + c) (omega arith) (omega arith) st.each
          (λ b m. st.after (omega arith) (m ∙ line_at q g h c (q + c) refl))

  -- and the search answers what stands in it
  pub finds : s.high ≤ s.size → (p : ℕ) → p ≤ s.size → Found s p (search s p)
  unfolding search nothing answer_at
  finds halves p i = by_cases (dec_lt q s.size) (λ h. go h (s.page q) refl) (λ n. rw (answer-past q (omega arith)) (no_more (λ x a b. skip x a (omega arith))))
    where
      q : ℕ
      q = first s.page nothing (s.size - p) p

      skip : (x : ℕ) → p ≤ x → x < q → s.page x ≡ absent
      skip x a b = first_below s.page nothing (s.size - p) p x a b

      from : q < s.size → From s p q
      from h = record { ahead = first-ge s.page nothing (s.size - p) p; inside = h; skipped = skip }

      go : q < s.size → (a : PageState) → s.page q ≡ a → Found s p (answer_from s q)
      go h absent e = absurd (first-stop s.page nothing (s.size - p) p (omega arith) e)
      go h (broken l r) e = rw (answer-inside q h, e) (at-stop (from h) e)
      go h (mapped g k) e = rw (answer-inside q h, e) (at-run (from h) (stretch q g k (in-half halves q h).0 e))
