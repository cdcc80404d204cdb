-- The walk over tables: the pages under an entry go by that entry, and the pages below a root table meet what is asked of the pages of a space.
use Prim.Native.Nat.{ℕ, zero, suc, ◌+◌, ◌-◌, ◌*◌, ◌/◌, ◌%◌, ◌^◌, ◌≤◌, ◌<◌}
use mathlib.Core.Path.{◌≡◌, refl, sym, ap, ◌∙◌}
use mathlib.Core.List.{List}
use mathlib.Core.Option.{Option, none, some}
use native.Mathlib.Omega.{arith}
use native.Mathlib.Nat.{mod-lt, div-add-mod'}
use lib.Pow.{pow_pos, pow_mono, shr-shr, field, mod-mod-pow, low}
use lib.ListN.{get_or}
use Rattle.laws.proofs.Align.{blocks}
use Rattle.mapping.specs.Pages.{Rights, Reason, reserved, outside, Spanned}
use Rattle.mapping.specs.Pages as page
use Rattle.mapping.specs.Walk.{Entry, not_present, reserved_bit, maps, table, Walked, absent, broken, mapped, joined, all_rights, span_pages, entry_index, word_for, follow, step, walk, state_of, walked_pages, HoldsNothing}

-- the entry of level n + 1 that page x is under, in the table t
abbrev pub entry_of : (entry : ℕ → ℕ → Entry) (n : ℕ) (t : List ℕ) (x : ℕ) → Entry
entry_of entry n t x = entry (n + 1) (word_for t n x)

-- the quotient by a larger span
pub wider : (l n x : ℕ) → l ≤ n → x / span_pages n ≡ x / span_pages l / span_pages (n - l)
wider l n x h = ap (λ (k : ℕ). x / 2 ^ k) (omega arith) ∙ sym (shr-shr x (9 * l) (9 * (n - l)))

-- pages under one entry are under one entry at each level above
pub same_above : (l n x y : ℕ) → l ≤ n → y / span_pages l ≡ x / span_pages l → y / span_pages n ≡ x / span_pages n
same_above l n x y b d = wider l n y b ∙ ap (λ (k : ℕ). k / span_pages (n - l)) d ∙ sym (wider l n x b)

absent-broken : {a : Walked} {k l : ℕ} {c : Reason} → a ≡ absent k → a ≡ broken l c → ⊥
absent-broken e z = let n : ◌≡◌ {A = ℕ} 0 1 = cc in omega arith

mapped-broken : {a : Walked} {g k l : ℕ} {h : Rights} {c : Reason} → a ≡ mapped g k h → a ≡ broken l c → ⊥
mapped-broken e z = let n : ◌≡◌ {A = ℕ} 0 1 = cc in omega arith

state-broken : (a : Walked) (l : ℕ) (c : Reason) → state_of a ≡ page.broken l c → a ≡ broken l c
state-broken (absent k) l c e = cc
state-broken (broken k d) l c e = cc
state-broken (mapped g k h) l c e = cc

-- a smaller power of two divides a larger one
whole : (i j : ℕ) → i ≤ j → (k : ℕ) × (2 ^ j ≡ k * 2 ^ i)
whole i j h = (2 ^ (j - i), sym (blocks i j h))

module _ (entry : ℕ → ℕ → Entry) (memory : ℕ → Option (List ℕ)) where
  -- a page y under the entry of level n + 1 that page x is under
  module _ (n : ℕ) (t : List ℕ) (r : Rights) (x y : ℕ) (same : y / span_pages n ≡ x / span_pages n) where
    pub walk_step : (v : Entry) → entry_of entry n t x ≡ v → walk entry memory (suc n) t r y ≡ step memory (λ t' r'. walk entry memory n t' r' y) n r y v
    unfolding walk
    walk_step v e = rw (same, e)

    pub walk-absent : entry_of entry n t x ≡ not_present → walk entry memory (suc n) t r y ≡ absent (n + 1)
    unfolding step
    walk-absent = walk_step not_present

    pub walk-reserved : entry_of entry n t x ≡ reserved_bit → walk entry memory (suc n) t r y ≡ broken (n + 1) reserved
    unfolding step
    walk-reserved = walk_step reserved_bit

    pub walk-mapped : (g : ℕ) (h : Rights) → entry_of entry n t x ≡ maps g h → walk entry memory (suc n) t r y ≡ mapped (g + y % span_pages n) (n + 1) (joined r h)
    unfolding step
    walk-mapped g h = walk_step (maps g h)

    pub walk-outside : (a : ℕ) (h : Rights) → entry_of entry n t x ≡ table a h → memory a ≡ none → walk entry memory (suc n) t r y ≡ broken (n + 1) outside
    unfolding step
    walk-outside a h e m = walk_step (table a h) e ∙ rw (m, step)

    pub walk-below : (a : ℕ) (h : Rights) (t' : List ℕ) → entry_of entry n t x ≡ table a h → memory a ≡ some t'
        → walk entry memory (suc n) t r y ≡ walk entry memory n t' (joined r h) y
    unfolding step
    walk-below a h t' e m = walk_step (table a h) e ∙ rw (m, step)

  -- the walk goes by a page's indices and its place in a span alone, so by its number below their count
  pub walk-low : (m n : ℕ) (t : List ℕ) (r : Rights) (x : ℕ) → n ≤ m → walk entry memory n t r (x % span_pages m) ≡ walk entry memory n t r x
  unfolding walk step
  walk-low m zero t r x h = refl
  walk-low m (suc n) t r x h =
      ap (λ (i : ℕ). step memory (λ t' r'. walk entry memory n t' r' (x % span_pages m)) n r (x % span_pages m) (entry (n + 1) (get_or t i 0))) index
      ∙ go (entry_of entry n t x) (λ t' r'. walk-low m n t' r' x (omega arith))
    where
      index : entry_index n (x % span_pages m) ≡ entry_index n x
      index =
          let e : 9 * m ≡ 9 * (m - n - 1) + 9 + 9 * n = omega arith in
          rw e (ap (λ (k : ℕ). k % 2 ^ 9) (field x (9 * (m - n - 1) + 9) (9 * n)) ∙ mod-mod-pow (x / 2 ^ (9 * n)) (9 * (m - n - 1)) 9)

      place : x % span_pages m % span_pages n ≡ x % span_pages n
      place = let e : 9 * m ≡ 9 * (m - n) + 9 * n = omega arith in rw e (mod-mod-pow x (9 * (m - n)) (9 * n))

      follows : (o : Option (List ℕ)) (f g : List ℕ → Walked) → ((t' : List ℕ) → f t' ≡ g t') → follow o (n + 1) f ≡ follow o (n + 1) g
      follows none f g e = refl
      follows (some t') f g e = e t'

      go : (v : Entry) → ((t' : List ℕ) (r' : Rights) → walk entry memory n t' r' (x % span_pages m) ≡ walk entry memory n t' r' x)
          → step memory (λ t' r'. walk entry memory n t' r' (x % span_pages m)) n r (x % span_pages m) v ≡ step memory (λ t' r'. walk entry memory n t' r' x) n r x v
      go not_present f = refl
      go reserved_bit f = refl
      go (maps g k) f = ap (λ (i : ℕ). mapped (g + i) (n + 1) (joined r k)) place
      go (table a k) f = follows (memory a) (λ t'. walk entry memory n t' (joined r k) (x % span_pages m)) (λ t'. walk entry memory n t' (joined r k) x) (λ t'. f t' (joined r k))

  -- a page is absent whatever the rights
  absent-any : (n : ℕ) (t : List ℕ) (r r' : Rights) (x : ℕ) → state_of (walk entry memory n t r x) ≡ page.absent → state_of (walk entry memory n t r' x) ≡ page.absent
  unfolding walk step
  absent-any zero t r r' x h = refl
  absent-any (suc n) t r r' x h = go (entry_of entry n t x) (λ t' q q'. absent-any n t' q q' x) h
    where
      down : (o : Option (List ℕ)) (f g : List ℕ → Walked) → ((t' : List ℕ) → state_of (f t') ≡ page.absent → state_of (g t') ≡ page.absent)
          → state_of (follow o (n + 1) f) ≡ page.absent → state_of (follow o (n + 1) g) ≡ page.absent
      down none f g e z = z
      down (some t') f g e z = e t' z

      go : (v : Entry) → ((t' : List ℕ) (q q' : Rights) → state_of (walk entry memory n t' q x) ≡ page.absent → state_of (walk entry memory n t' q' x) ≡ page.absent)
          → state_of (step memory (λ t' q. walk entry memory n t' q x) n r x v) ≡ page.absent → state_of (step memory (λ t' q. walk entry memory n t' q x) n r' x v) ≡ page.absent
      go not_present f z = refl
      go reserved_bit f z = z
      go (maps g k) f z = absurd (let o : ◌≡◌ {A = ℕ} 0 1 = cc in omega arith)
      go (table a k) f z = down (memory a) (λ t'. walk entry memory n t' (joined r k) x) (λ t'. walk entry memory n t' (joined r' k) x) (λ t'. f t' (joined r k) (joined r' k)) z

  -- a table holds nothing if the pages of one of its spans are absent
  pub holds-nothing : (n : ℕ) (t : List ℕ) (r : Rights) (b : ℕ) → b % span_pages n ≡ 0
      → ((x : ℕ) → b ≤ x → x < b + span_pages n → state_of (walk entry memory n t r x) ≡ page.absent) → HoldsNothing entry memory n t
  holds-nothing n t r b e h r' y =
      absent-any n t r r' y (ap state_of (sym (walk-low n n t r y (omega arith)) ∙ ap (walk entry memory n t r) same ∙ walk-low n n t r (b + y % span_pages n) (omega arith))
      ∙ h (b + y % span_pages n) (omega arith) (omega (arith, mod-lt y (pow_pos (9 * n)))))
    where
      same : y % span_pages n ≡ (b + y % span_pages n) % span_pages n
      same =
          let q = b / span_pages n in
          let d : b ≡ q * span_pages n = omega (arith, div-add-mod' b (span_pages n)) in
          sym (ap (λ (k : ℕ). (k + y % span_pages n) % span_pages n) d ∙ low q (9 * n) (mod-lt y (pow_pos (9 * n))))

  -- a broken entry's level is one of the levels walked, and the pages of its span are broken alike
  pub record BrokenSpan (n : ℕ) (t : List ℕ) (r : Rights) (x l : ℕ) (c : Reason) : Type 0 where
    pub above_zero : 0 < l
    pub at_most : l ≤ n
    pub alike : (y : ℕ) → y / span_pages (l - 1) ≡ x / span_pages (l - 1) → walk entry memory n t r y ≡ broken l c

  pub broken-span : (n : ℕ) (t : List ℕ) (r : Rights) (x l : ℕ) (c : Reason) → walk entry memory n t r x ≡ broken l c → BrokenSpan n t r x l c
  unfolding walk
  broken-span zero t r x l c e = absurd (absent-broken refl e)
  broken-span (suc n) t r x l c e = go (entry_of entry n t x) refl (λ t' r'. broken-span n t' r' x l c)
    where
      -- the entry itself is broken
      here : (d : Reason) → ((y : ℕ) → y / span_pages n ≡ x / span_pages n → walk entry memory (suc n) t r y ≡ broken (n + 1) d) → BrokenSpan (suc n) t r x l c
      here d f =
          let same : broken (n + 1) d ≡ broken l c = sym (f x refl) ∙ e in
          let level : n + 1 ≡ l = cc in
          record { above_zero = omega arith; at_most = omega arith; alike = λ y z. f y (same_above (l - 1) n x y (omega arith) z) ∙ same }

      down : (a : ℕ) (h : Rights) → entry_of entry n t x ≡ table a h → (m : Option (List ℕ)) → memory a ≡ m
          → ((t' : List ℕ) (r' : Rights) → walk entry memory n t' r' x ≡ broken l c → BrokenSpan n t' r' x l c) → BrokenSpan (suc n) t r x l c
      down a h v none m ih = here outside (λ y z. walk-outside n t r x y z a h v m)
      down a h v (some t') m ih =
          let s = ih t' (joined r h) (sym (walk-below n t r x x refl a h t' v m) ∙ e) in
          record {
            above_zero = s.above_zero;
            at_most = omega arith;
            alike = λ y z. walk-below n t r x y (same_above (l - 1) n x y (omega arith) z) a h t' v m ∙ s.alike y z;
          }

      go : (v : Entry) → entry_of entry n t x ≡ v → ((t' : List ℕ) (r' : Rights) → walk entry memory n t' r' x ≡ broken l c → BrokenSpan n t' r' x l c)
          → BrokenSpan (suc n) t r x l c
      go not_present v ih = absurd (absent-broken (walk-absent n t r x x refl v) e)
      go reserved_bit v ih = here reserved (λ y z. walk-reserved n t r x y z v)
      go (maps g h) v ih = absurd (mapped-broken (walk-mapped n t r x x refl g h v) e)
      go (table a h) v ih = down a h v (memory a) refl ih

  pub spanned : (levels : ℕ) (t : List ℕ) → Spanned (walked_pages entry memory levels t)
  spanned n t =
      record {
        halves = pow_mono (omega arith);
        some = λ x l c b e. pow_pos _;
        divides = λ x l c b e. whole _ _ (omega (arith, span x l c e));
        alike = λ x y l c b e d. ap state_of ((span x l c e).alike y d);
      }
    where
      span : (x l : ℕ) (c : Reason) → state_of (walk entry memory n t all_rights x) ≡ page.broken l c → BrokenSpan n t all_rights x l c
      span x l c e = broken-span n t all_rights x l c (state-broken (walk entry memory n t all_rights x) l c e)
