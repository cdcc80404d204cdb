-- Draws with any n by those with n = 0, from what a draw gives and leaves where it is not refused.
use Prim.Native.Nat.{ℕ, zero, suc, ◌+◌, ◌-◌, ◌≤◌}
use mathlib.Core.Path.{◌≡◌, refl, sym, ap, ◌∙◌}
use mathlib.Core.Option.{Option, none, some, map, bind}
use native.Mathlib.Omega.{arith}
use native.Mathlib.Nat.{zero-add, suc-add}
use Rattle.laws.specs.Drawing.{Side, Drawn, left_by_next, OneByOne}
use Rattle.laws.proofs.Drawing.{same_some}

-- a draw by what it gives and leaves, `out`, where it is not refused, which `Free` says
pub record Settled {S : Type 0} (Given Empty : S → Type 0) (len : S → ℕ) (Free : ℕ → S → Type 0) (out : ℕ → S → Drawn S) (nth : ℕ → S → Option (Drawn S)) : Type 0 where
  pub gives : (n : ℕ) (r : S) → Free n r → nth n r ≡ some (out n r)
  pub free : (n : ℕ) (r : S) (d : Drawn S) → nth n r ≡ some d → Free n r
  pub given : (n : ℕ) (r : S) → Free n r → Given r
  -- a draw after one with n = 0
  pub after : (n : ℕ) (r : S) → Free 0 r → Free n (out 0 r).range → Free (suc n) r × (out n (out 0 r).range ≡ out (suc n) r)
  pub before : (n : ℕ) (r : S) → Free (suc n) r → Free 0 r × Free n (out 0 r).range
  -- past the last item, and where there is none
  pub past : (n m : ℕ) (r : S) → Given r → len r ≡ suc m → suc m ≤ n → out n r ≡ record { item = none; range = (out m r).range }
  pub empty : (n : ℕ) (r : S) → Given r → len r ≡ 0 → out n r ≡ record { item = none; range = r }
  pub empty-len : (r : S) → Empty r → len r ≡ 0
  pub empty-free : (n : ℕ) (r : S) → Given r → Empty r → Free n r

lefts : {S : Type 0} → Option (Drawn S) → Option S
lefts o = map (λ d. d.range) o

module _ {S : Type 0} (next : S → Option (Drawn S)) where
  -- the last of several draws
  last-left : (n : ℕ) (r : S) → left_by_next next (suc n) r ≡ lefts (bind (left_by_next next n r) next)
  unfolding left_by_next bind lefts
  last-left zero r = go (next r)
    where
      go : (o : Option (Drawn S)) → bind o (λ d. some d.range) ≡ lefts o
      go none = refl
      go (some d) = refl
  last-left (suc n) r = go (λ l. last-left n l) (next r)
    where
      go : ((l : S) → left_by_next next (suc n) l ≡ lefts (bind (left_by_next next n l) next)) → (o : Option (Drawn S))
          → bind o (λ d. left_by_next next (suc n) d.range) ≡ lefts (bind (bind o (λ d. left_by_next next n d.range)) next)
      go h none = refl
      go h (some d) = h d.range

nothing : {A C : Type 0} {x : A} → ◌≡◌ {A = Option A} none (some x) → C
nothing e = absurd (let z : ◌≡◌ {A = ℕ} 0 1 = cc in omega arith)

module _ {S : Type 0} {Given Empty : S → Type 0} {len : S → ℕ} {Free : ℕ → S → Type 0} {out : ℕ → S → Drawn S} {nth : ℕ → S → Option (Drawn S)}
    (p : Settled Given Empty len Free out nth) where
  -- a draw that is not refused
  pub settled : (n : ℕ) (r : S) (d : Drawn S) → nth n r ≡ some d → d ≡ out n r
  settled n r d h = same_some (sym h ∙ p.gives n r (p.free n r d h))

  -- a draw one place further, by the draw with n = 0 and the one after it
  step : (n : ℕ) (r : S) → nth (suc n) r ≡ bind (nth 0 r) (λ d. nth n d.range)
  unfolding bind
  step n r = go (nth 0 r) refl (nth (suc n) r) refl
    where
      second : (d : Drawn S) → nth 0 r ≡ some d → (x : Option (Drawn S)) → nth (suc n) r ≡ x → (y : Option (Drawn S)) → nth n d.range ≡ y → x ≡ y
      second d e none f none g = refl
      second d e none f (some y) g =
          let l : d.range ≡ (out 0 r).range = ap (λ t. t.range) (settled 0 r d e) in
          nothing (sym f ∙ p.gives (suc n) r (p.after n r (p.free 0 r d e) (p.free n (out 0 r).range y (rw l at g))).0)
      second d e (some x) f y g =
          let l : d.range ≡ (out 0 r).range = ap (λ t. t.range) (settled 0 r d e) in
          let (u, v) = p.before n r (p.free (suc n) r x f) in
          let (i, j) = p.after n r u v in
          ap some (settled (suc n) r x f ∙ sym j) ∙ sym (p.gives n (out 0 r).range v) ∙ (rw l at g)

      go : (o : Option (Drawn S)) → nth 0 r ≡ o → (x : Option (Drawn S)) → nth (suc n) r ≡ x → x ≡ bind o (λ d. nth n d.range)
      go none e none f = refl
      go none e (some x) f = nothing (sym e ∙ p.gives 0 r (p.before n r (p.free (suc n) r x f)).0)
      go (some d) e x f = second d e x f (nth n d.range) refl

  as-next : (n : ℕ) (r : S) → nth n r ≡ bind (left_by_next (nth 0) n r) (nth 0)
  unfolding left_by_next bind
  as-next zero r = refl
  as-next (suc n) r = step n r ∙ go (λ l. as-next n l) (nth 0 r)
    where
      go : ((l : S) → nth n l ≡ bind (left_by_next (nth 0) n l) (nth 0)) → (o : Option (Drawn S))
          → bind o (λ d. nth n d.range) ≡ bind (bind o (λ d. left_by_next (nth 0) n d.range)) (nth 0)
      go h none = refl
      go h (some d) = h d.range

  on-empty : (n : ℕ) (r : S) → Given r → Empty r → nth n r ≡ some (record { item = none; range = r })
  on-empty n r g e = p.gives n r (p.empty-free n r g e) ∙ ap some (p.empty n r g (p.empty-len r e))

  -- a draw of fewer items is not refused either
  one_fewer : (n : ℕ) (r : S) → Free (suc n) r → Free n r
  one_fewer zero r f = (p.before 0 r f).0
  one_fewer (suc n) r f = let (u, v) = p.before (suc n) r f in (p.after n r u (one_fewer n (out 0 r).range v)).0

  fewer : (k m : ℕ) (r : S) → Free (k + m) r → Free m r
  fewer zero m r f = rw zero-add at f
  fewer (suc k) m r f = fewer k m r (one_fewer (k + m) r (rw suc-add at f))

  past_all : (n : ℕ) (r : S) (d : Drawn S) → len r ≤ n → nth n r ≡ some d → (d.item ≡ none) × (left_by_next (nth 0) (len r) r ≡ some d.range)
  unfolding left_by_next lefts
  past_all n r d l h = go (len r) refl
    where
      f : Free n r
      f = p.free n r d h

      o : d ≡ out n r
      o = settled n r d h

      go : (m : ℕ) → len r ≡ m → (d.item ≡ none) × (left_by_next (nth 0) m r ≡ some d.range)
      go zero e = let q = o ∙ p.empty n r (p.given n r f) e in (ap (λ t. t.item) q, ap some (sym (ap (λ t. t.range) q)))
      go (suc m) e =
          let q = o ∙ p.past n m r (p.given n r f) e (omega arith) in
          let k : n - m + m ≡ n = omega arith in
          let g : nth m r ≡ some (out m r) = p.gives m r (fewer (n - m) m r (rw k f)) in
          (ap (λ t. t.item) q, last-left (nth 0) m r ∙ ap lefts (sym (as-next m r) ∙ g) ∙ ap some (sym (ap (λ t. t.range) q)))

-- the same for both sides
pub one_by_one : {S : Type 0} {Given Empty : S → Type 0} {len : S → ℕ} {Free : Side → ℕ → S → Type 0} {out : Side → ℕ → S → Drawn S} {nth : Side → ℕ → S → Option (Drawn S)}
    → ((side : Side) → Settled Given Empty len (Free side) (out side) (nth side)) → OneByOne Given Empty len nth
one_by_one p = record { on-empty = λ side. on-empty (p side); as-next = λ side. as-next (p side); past_all = λ side. past_all (p side) }

-- by a length that is the same where a draw past it is not refused
pub other_length : {S : Type 0} {Given Empty : S → Type 0} {len other : S → ℕ} {nth : Side → ℕ → S → Option (Drawn S)}
    → ((side : Side) (n : ℕ) (r : S) (d : Drawn S) → other r ≤ n → nth side n r ≡ some d → other r ≡ len r) → OneByOne Given Empty len nth → OneByOne Given Empty other nth
other_length same o =
    record {
      on-empty = o.on-empty;
      as-next = o.as-next;
      past_all = λ side n r d l h. let e = same side n r d l h in rw e (o.past_all side n r d (rw e at l) h);
    }
