-- Draws of ranges of pages and of frames, by draws on their numbers: what they give and leave, one by one.
use Prim.Native.Nat.{ℕ, suc}
use mathlib.Core.Path.{◌≡◌, ap, ◌∙◌}
use mathlib.Core.Option.{none, some}
use Rattle.laws.specs.Draw.{Draw}
use Rattle.laws.specs.Drawing.{Drawn}
use Rattle.laws.specs.Kind.{Kind, RangeDraw, drawn_unless, drawn_of}
use Rattle.laws.proofs.After.{Stepwise}
use Rattle.laws.proofs.Kind.{of-settled, not-refused}
use Rattle.laws.proofs.OneByOne.{Settled}

-- the items of a kind, placed at numbers
pub record Items {P : Type 0} (k : Kind P) : Type 0 where
  pub start_of : (x : P) (a : ℕ) → (k.item (k.placed x a)).start ≡ a
  pub bytes_of : (x : P) (a : ℕ) → (k.item (k.placed x a)).bytes ≡ (k.item x).bytes
  pub again : (x : P) (a b : ℕ) → k.placed (k.placed x a) b ≡ k.placed x b
  pub same : (x : P) → k.placed x (k.item x).start ≡ x

-- a kind of range by its two ends
pub record Ends {P S : Type 0} (ends : P → P → S) (first last : S → P) : Type 0 where
  pub first_of : (x y : P) → first (ends x y) ≡ x
  pub last_of : (x y : P) → last (ends x y) ≡ y
  pub ends_of : (r : S) → ends (first r) (last r) ≡ r

-- what a draw gives and leaves
abbrev pub drawn_at : {P S : Type 0} → Kind P → (P → P → S) → P → P → Draw → Drawn S
drawn_at k ends x y d = record { item = d.item; range = ends (k.placed x d.start) (k.placed y d.end) }

-- a draw on the numbers of the range from `x` to `y`, by the size of `x`
abbrev pub on_ends : {P : Type 0} → Kind P → (ℕ → ℕ → ℕ → ℕ → Draw) → ℕ → P → P → Draw
on_ends k on n x y = on (k.item x).bytes (k.item x).start (k.item y).start n

-- a draw of the range from `x` to `y`: `number` refuses it, and `Free` says where that is 0; there it is `on`, a draw on numbers
module _ {P : Type 0} (k : Kind P) (len : ℕ → ℕ → ℕ → ℕ) (Given Empty : P → P → Type 0) (Free : ℕ → P → P → Type 0)
    (number : ℕ → P → P → ℕ) (made_by : ℕ → P → P → Draw) (on : ℕ → ℕ → ℕ → ℕ → Draw) where
  pub record Facts : Type 0 where
    pub no_number : (n : ℕ) (x y : P) → Free n x y → number n x y ≡ 0
    pub free : (n : ℕ) (x y : P) → number n x y ≡ 0 → Free n x y
    pub given : (n : ℕ) (x y : P) → Free n x y → Given x y
    pub by-numbers : (n : ℕ) (x y : P) → Free n x y → made_by n x y ≡ on_ends k on n x y
    pub steps : (x y : P) → Given x y → Stepwise (len (k.item x).start (k.item y).start (k.item x).bytes) (on (k.item x).bytes) (k.item x).start (k.item y).start
    pub after : (n : ℕ) (x y : P) → Free 0 x y → Free n (k.placed x (on_ends k on 0 x y).start) (k.placed y (on_ends k on 0 x y).end) → Free (suc n) x y
    pub before : (n : ℕ) (x y : P) → Free (suc n) x y → Free 0 x y × Free n (k.placed x (on_ends k on 0 x y).start) (k.placed y (on_ends k on 0 x y).end)
    pub empty-len : (x y : P) → Empty x y → len (k.item x).start (k.item y).start (k.item x).bytes ≡ 0
    pub empty-free : (n : ℕ) (x y : P) → Given x y → Empty x y → Free n x y

module _ {P : Type 0} {k : Kind P} {len : ℕ → ℕ → ℕ → ℕ} {Given Empty : P → P → Type 0} {Free : ℕ → P → P → Type 0}
    {number : ℕ → P → P → ℕ} {made_by : ℕ → P → P → Draw} {on : ℕ → ℕ → ℕ → ℕ → Draw}
    {S : Type 0} {ends : P → P → S} {first last : S → P}
    (i : Items k) (e : Ends ends first last) (f : Facts k len Given Empty Free number made_by on) where
  -- the ends that the draw with n = 0 leaves
  abbrev first-left : P → P → P
  first-left x y = k.placed x (on_ends k on 0 x y).start

  abbrev last-left : P → P → P
  last-left x y = k.placed y (on_ends k on 0 x y).end

  abbrev answer_of : ℕ → S → RangeDraw S
  answer_of n r = drawn_unless k ends (first r) (last r) (number n (first r) (last r)) (made_by n (first r) (last r))

  abbrev out : ℕ → S → Drawn S
  out n r = drawn_at k ends (first r) (last r) (on_ends k on n (first r) (last r))

  gives : (n : ℕ) (r : S) → Free n (first r) (last r) → drawn_of (answer_of n r) ≡ some (out n r)
  gives n r g =
      of-settled k ends (first r) (last r) (i.start_of (first r)) (number n (first r) (last r)) (made_by n (first r) (last r)) (f.no_number n (first r) (last r) g)
      ∙ ap (λ (d : Draw). some (drawn_at k ends (first r) (last r) d)) (f.by-numbers n (first r) (last r) g)

  -- the range left, drawn again
  placed_at : (x y : P) (a b n : ℕ) → on (k.item (k.placed x a)).bytes (k.item (k.placed x a)).start (k.item (k.placed y b)).start n ≡ on (k.item x).bytes a b n
  placed_at x y a b n = rw (i.bytes_of x a, i.start_of x a, i.start_of y b)

  drawn-again : (x y : P) (a b : ℕ) (d : Draw) → drawn_at k ends (k.placed x a) (k.placed y b) d ≡ drawn_at k ends x y d
  drawn-again x y a b d = rw (i.again x a d.start, i.again y b d.end)

  out-after : (n : ℕ) (r : S) → Given (first r) (last r) → out n (out 0 r).range ≡ out (suc n) r
  out-after n r g =
      let x = first r in
      let y = last r in
      let d = on_ends k on 0 x y in
      rw (e.first_of (first-left x y) (last-left x y), e.last_of (first-left x y) (last-left x y))
      (drawn-again x y d.start d.end (on_ends k on n (first-left x y) (last-left x y))
      ∙ ap (drawn_at k ends x y) (placed_at x y d.start d.end n ∙ (f.steps x y g).after n))

  free-left : (n : ℕ) (r : S) → Free n (first-left (first r) (last r)) (last-left (first r) (last r)) ≡ Free n (first (out 0 r).range) (last (out 0 r).range)
  free-left n r = let x = first r in let y = last r in rw (e.first_of (first-left x y) (last-left x y), e.last_of (first-left x y) (last-left x y))

  none-moved : (r : S) → ends (k.placed (first r) (k.item (first r)).start) (k.placed (last r) (k.item (last r)).start) ≡ r
  none-moved r = rw (i.same (first r), i.same (last r)) (e.ends_of r)

  pub settled : Settled (λ r. Given (first r) (last r)) (λ r. Empty (first r) (last r)) (λ r. len (k.item (first r)).start (k.item (last r)).start (k.item (first r)).bytes) (λ n r. Free n (first r) (last r)) out
      (λ n r. drawn_of (answer_of n r))
  settled =
      record {
        gives = gives;
        free = λ n r d h. f.free n (first r) (last r) (not-refused k ends (first r) (last r) (number n (first r) (last r)) (made_by n (first r) (last r)) d h);
        given = λ n r g. f.given n (first r) (last r) g;
        after = λ n r g h. (f.after n (first r) (last r) g (rw (free-left n r) h), out-after n r (f.given 0 (first r) (last r) g));
        before = λ n r g. let (u, v) = f.before n (first r) (last r) g in (u, rw (← free-left n r) v);
        past = λ n m r g l h. ap (drawn_at k ends (first r) (last r)) ((f.steps (first r) (last r) g).past n m l h);
        empty = λ n r g l. ap (drawn_at k ends (first r) (last r)) ((f.steps (first r) (last r) g).empty n l) ∙ ap (λ (s : S). record { item = none; range = s }) (none-moved r);
        empty-len = λ r h. f.empty-len (first r) (last r) h;
        empty-free = λ n r g h. f.empty-free n (first r) (last r) g h;
      }
