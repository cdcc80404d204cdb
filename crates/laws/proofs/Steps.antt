-- Laws of steps, over the width: what each gives, that they undo each other, and that none ends in the gap.
use mathlib.Core.Path.{◌≡◌, sym, ◌∙◌}
use mathlib.Core.Logic.{◌↔◌}
use Prim.Native.Nat.{ℕ, ◌+◌, ◌-◌, ◌^◌, ◌≤◌, ◌<◌}
use native.Mathlib.Omega.{arith}
use native.Mathlib.Decide.{dec_lt}
use native.Mathlib.Nat.{mod-eq_of_lt, add_assoc}
use borrow.Author.Tests.{lt-ltb, le-ltb, le-leb, lt-leb}
use Rattle.answer.specs.Outcome.{gives, none, and_then}
use Rattle.laws.specs.Width.{IsWidth, low, sign_extend, InGap}
use Rattle.laws.specs.Steps.{address_count, forward, backward, steps}
use Rattle.laws.specs.Stepping.{Stepping}
use Rattle.laws.proofs.Cases.{by_cases}
use Rattle.laws.proofs.Width.{low-lt, sign_low, sign-by-low, low-one-to-one, canonical-no-gap}

module _ (w s n : ℕ) where
  -- the two cases of each
  pub forward-in : low w s + n < 2 ^ w → forward w s n ≡ gives (sign_extend w (low w s + n))
  unfolding forward
  forward-in h = simp (lt-ltb (low w s + n) (address_count w) (omega arith))

  pub forward-out : 2 ^ w ≤ low w s + n → forward w s n ≡ none
  unfolding forward
  forward-out h = simp (le-ltb (low w s + n) (address_count w) (omega arith))

  pub backward-in : n ≤ low w s → backward w s n ≡ gives (sign_extend w (low w s - n))
  unfolding backward
  backward-in h = simp (le-leb n (low w s) h)

  pub backward-out : low w s < n → backward w s n ≡ none
  unfolding backward
  backward-out h = simp (lt-leb n (low w s) h)

module _ (w s e : ℕ) where
  pub steps-in : low w s ≤ low w e → steps w s e ≡ gives (low w e - low w s)
  unfolding steps
  steps-in h = simp (le-leb (low w s) (low w e) h)

  pub steps-out : low w e < low w s → steps w s e ≡ none
  unfolding steps
  steps-out h = simp (lt-leb (low w s) (low w e) h)

module _ (w : ℕ) (v : IsWidth w) where
  -- the canonical number with a given low part
  sign_of : (l : ℕ) → l < 2 ^ w → (sign_extend w (sign_extend w l) ≡ sign_extend w l) × (low w (sign_extend w l) ≡ l)
  sign_of l h = (sign-by-low w v (sign_extend w l) l (sign_low w v l), sign_low w v l ∙ mod-eq_of_lt h)

  sign-is : (l t : ℕ) → l < 2 ^ w → sign_extend w t ≡ t → low w t ≡ l → sign_extend w l ≡ t
  sign-is l t h c e = let f = sign_of l h in low-one-to-one w v (sign_extend w l) t f.0 c (f.1 ∙ sym e)

  -- "gives t exactly if low48(s) + n < 2^48: t canonical, low48(t) that sum": a low part is below 2^w
  pub forward-gives : (s n t : ℕ) → (forward w s n ≡ gives t) ↔ ((sign_extend w t ≡ t) × (low w t ≡ low w s + n))
  forward-gives s n t = (λ g. by_cases (dec_lt (low w s + n) (2 ^ w)) (inside g) (outside g), back)
    where
      inside : forward w s n ≡ gives t → low w s + n < 2 ^ w → (sign_extend w t ≡ t) × (low w t ≡ low w s + n)
      inside g h =
          let f = forward-in w s n h in
          let e : sign_extend w (low w s + n) ≡ t = cc in
          rw e at (sign_of (low w s + n) h)

      outside : forward w s n ≡ gives t → (low w s + n < 2 ^ w → ⊥) → (sign_extend w t ≡ t) × (low w t ≡ low w s + n)
      outside g m =
          let f = forward-out w s n (omega arith) in
          let z : ◌≡◌ {A = ℕ} 0 1 = cc in
          absurd (omega arith)

      back : (sign_extend w t ≡ t) × (low w t ≡ low w s + n) → forward w s n ≡ gives t
      back p =
          let l : low w s + n < 2 ^ w = omega (arith, low-lt w v t) in
          rw (forward-in w s n l, sign-is (low w s + n) t l p.0 p.1)

  -- "gives t exactly if low48(s) ≥ n"
  pub backward-gives : (s n t : ℕ) → (backward w s n ≡ gives t) ↔ ((sign_extend w t ≡ t) × (low w t + n ≡ low w s))
  backward-gives s n t = (λ g. by_cases (dec_lt (low w s) n) (outside g) (inside g), back)
    where
      inside : backward w s n ≡ gives t → (low w s < n → ⊥) → (sign_extend w t ≡ t) × (low w t + n ≡ low w s)
      inside g m =
          let f = backward-in w s n (omega arith) in
          let e : sign_extend w (low w s - n) ≡ t = cc in
          let p = rw e at (sign_of (low w s - n) (omega (arith, low-lt w v s))) in
          (p.0, omega arith)

      outside : backward w s n ≡ gives t → low w s < n → (sign_extend w t ≡ t) × (low w t + n ≡ low w s)
      outside g h =
          let f = backward-out w s n h in
          let z : ◌≡◌ {A = ℕ} 0 1 = cc in
          absurd (omega arith)

      back : (sign_extend w t ≡ t) × (low w t + n ≡ low w s) → backward w s n ≡ gives t
      back p =
          let l : low w s - n < 2 ^ w = omega (arith, low-lt w v s) in
          rw (backward-in w s n (omega arith), sign-is (low w s - n) t l p.0 (omega arith))

  pub steps-gives : (s e n : ℕ) → (steps w s e ≡ gives n) ↔ (low w e ≡ low w s + n)
  steps-gives s e n = (λ g. by_cases (dec_lt (low w e) (low w s)) (outside g) (inside g), back)
    where
      inside : steps w s e ≡ gives n → (low w e < low w s → ⊥) → low w e ≡ low w s + n
      inside g m =
          let f = steps-in w s e (omega arith) in
          let d : low w e - low w s ≡ n = cc in
          omega arith

      outside : steps w s e ≡ gives n → low w e < low w s → low w e ≡ low w s + n
      outside g h =
          let f = steps-out w s e h in
          let z : ◌≡◌ {A = ℕ} 0 1 = cc in
          absurd (omega arith)

      back : low w e ≡ low w s + n → steps w s e ≡ gives n
      back p = let d : low w e - low w s ≡ n = omega arith in rw (steps-in w s e (omega arith), d)

  -- between canonical numbers the three say the same
  pub forward-backward : (s n t : ℕ) → sign_extend w s ≡ s → sign_extend w t ≡ t → (forward w s n ≡ gives t) ↔ (backward w t n ≡ gives s)
  forward-backward s n t cs ct = (
    λ f. (backward-gives t n s).1 (cs, sym ((forward-gives s n t).0 f).1),
    λ b. (forward-gives s n t).1 (ct, sym ((backward-gives t n s).0 b).1),
  )

  pub forward-steps : (s n t : ℕ) → sign_extend w t ≡ t → (forward w s n ≡ gives t) ↔ (steps w s t ≡ gives n)
  forward-steps s n t ct = (
    λ f. (steps-gives s t n).1 ((forward-gives s n t).0 f).1,
    λ d. (forward-gives s n t).1 (ct, (steps-gives s t n).0 d),
  )

  -- forward by a sum is forward twice
  pub forward-sum : (s m n : ℕ) → forward w s (m + n) ≡ and_then (forward w s m) (λ t. forward w t n)
  forward-sum s m n = by_cases (dec_lt (low w s + m) (2 ^ w)) inside outside
    where
      inside : low w s + m < 2 ^ w → forward w s (m + n) ≡ and_then (forward w s m) (λ t. forward w t n)
      inside h = rw (forward-in w s m h) (by_cases (dec_lt (low w s + m + n) (2 ^ w)) both first)
        where
          l : low w (sign_extend w (low w s + m)) ≡ low w s + m
          l = (sign_of (low w s + m) h).1

          both : low w s + m + n < 2 ^ w → forward w s (m + n) ≡ forward w (sign_extend w (low w s + m)) n
          both k =
              rw (forward-in w s (m + n) (omega arith), forward-in w (sign_extend w (low w s + m)) n (omega (arith, l)), l, add_assoc)

          first : (low w s + m + n < 2 ^ w → ⊥) → forward w s (m + n) ≡ forward w (sign_extend w (low w s + m)) n
          first k =
              rw (forward-out w s (m + n) (omega arith), forward-out w (sign_extend w (low w s + m)) n (omega (arith, l)))

      outside : (low w s + m < 2 ^ w → ⊥) → forward w s (m + n) ≡ and_then (forward w s m) (λ t. forward w t n)
      outside k = rw (forward-out w s m (omega arith), forward-out w s (m + n) (omega arith))

  -- a step never ends in the gap
  pub forward-no-gap : (s n t : ℕ) → forward w s n ≡ gives t → InGap w t → ⊥
  forward-no-gap s n t f = canonical-no-gap w v t ((forward-gives s n t).0 f).0

  pub backward-no-gap : (s n t : ℕ) → backward w s n ≡ gives t → InGap w t → ⊥
  backward-no-gap s n t b = canonical-no-gap w v t ((backward-gives s n t).0 b).0

-- all of it in one
pub stepping : (w : ℕ) → IsWidth w → Stepping w
stepping w v =
    record {
      forward-gives = forward-gives w v;
      backward-gives = backward-gives w v;
      steps-gives = steps-gives w v;
      bounded = λ s n h. (forward-out w s n (omega arith), backward-out w s n (omega (arith, low-lt w v s)));
      forward-backward = forward-backward w v;
      forward-steps = forward-steps w v;
      forward-sum = forward-sum w v;
      forward-no-gap = forward-no-gap w v;
      backward-no-gap = backward-no-gap w v;
    }
