-- The search on its way: over pages in two parts, and over pages that are alike.
use Prim.Native.Nat.{ℕ, ◌+◌, ◌-◌, ◌^◌, ◌≤◌, ◌<◌}
use mathlib.Core.Path.{◌≡◌, refl, sym, ap, ◌∙◌}
use mathlib.Core.Bool.{Bool, true, false, cond}
use native.Mathlib.Omega.{arith}
use borrow.Author.Tests.{eq-eqb, eqb-true}
use lib.Dec.{eqb}
use Rattle.mapping.specs.Pages.{Rights, Reason, PageState, absent, broken, mapped}
use Rattle.mapping.specs.Pass.{Progress, unfound, stopped, running}
use Rattle.mapping.proofs.Pass.{pass-inside, pass_on, pass-congr, pass-absent, absent-ends, broken-stops, broken-ends, mapped-begins, mapped-goes-on, mapped-ends, pass-nowhere, stops-before, pass_le}
use Rattle.paging.specs.Packed.{rights_bits, rights_from}
use Rattle.paging.specs.Progress.{finds_nothing, Holds, GoesOn, Takes, Halts, Passes}
use Rattle.paging.proofs.RightsBits.{bits-from}

holds : (s : Progress) (x : ℕ) → GoesOn s x → Holds s x
holds unfound x g = tt
holds (running q c h) x g = g
holds (stopped q l r) x g = tt

not_stopped : (s : Progress) (x : ℕ) → GoesOn s x → (q l : ℕ) (r : Reason) → s ≡ stopped q l r → ⊥
not_stopped unfound x g q l r e = cc
not_stopped (running p c h) x g q l r e = cc
not_stopped (stopped p k c) x g q l r e = g

-- before any page
pub passes_none : {f : ℕ → PageState} {a : ℕ} {s : Progress} → GoesOn s a → Passes f a a s s a
passes_none {f} {a} {s} g = record { comes = pass-nowhere f a s; holds = holds s a g }

-- a search that has passed its pages goes on
pub still-goes : {f : ℕ → PageState} {a m : ℕ} {s t : Progress} → GoesOn s a → Passes f a m s t m → GoesOn t m
still-goes {f} {a} {m} {s} {t} g p = go t p
  where
    go : (u : Progress) → Passes f a m s u m → GoesOn u m
    go unfound p = tt
    go (running q c h) p = p.holds
    go (stopped q l r) p = absurd (omega (arith, stops-before f a m s q l r m (not_stopped s a g) p.comes))

-- it comes no further than the end
pub passes-le : {f : ℕ → PageState} {a e : ℕ} {s t : Progress} {y : ℕ} → a ≤ e → Passes f a e s t y → y ≤ e
passes-le {f} {a} {e} {s} {t} {y} i p = pass_le f a e s t y i p.comes

-- in two parts that meet at m
pub passes_then : {f : ℕ → PageState} {a x m : ℕ} {s t u : Progress} {y : ℕ} → a ≤ x → x ≤ m → Passes f a x s t x → Passes f x m t u y → Passes f a m s u y
passes_then {f} {a} {x} {m} {s} {t} i j p q = record { comes = pass_on f a x m i j s t x p.comes (omega arith) ∙ q.comes; holds = q.holds }

pub passes-in : {f : ℕ → PageState} {a x m : ℕ} {s t u : Progress} {y e : ℕ} → a ≤ x → x ≤ m → m ≤ e → y < m → Passes f a x s t x → Passes f x m t u y → Passes f a e s u y
passes-in {f} {a} {x} {m} {s} {t} {u} {y} {e} i j b l p q = record { comes = pass-inside f a m e (omega arith) b s u y (passes_then i j p q).comes l; holds = q.holds }

-- only the pages gone over count
pub passes-congr : {f g : ℕ → PageState} {a e : ℕ} {s t : Progress} {y : ℕ} → a ≤ e → ((x : ℕ) → a ≤ x → x < e → f x ≡ g x) → Passes g a e s t y → Passes f a e s t y
passes-congr {f} {g} {a} {e} {s} i h p = record { comes = pass-congr f g a e s i h ∙ p.comes; holds = p.holds }

-- over pages that are alike, from a up to m
module _ {f : ℕ → PageState} {a m : ℕ} (i : a < m) where
  -- absent, with nothing found yet, or at the end of a run
  pub passes-absent : (s : Progress) → ((x : ℕ) → a ≤ x → x < m → f x ≡ absent) → finds_nothing s ≡ true → Passes f a m s s m
  passes-absent unfound h z = record { comes = pass-absent f a m i h; holds = tt }
  passes-absent (running q c r) h z = cc
  passes-absent (stopped q l r) h z = cc

  pub ends-absent : (s : Progress) → GoesOn s a → f a ≡ absent → finds_nothing s ≡ false → Passes f a m s s a
  ends-absent unfound g h z = cc
  ends-absent (running q c r) g h z = record { comes = absent-ends f a m i q c r h; holds = g }
  ends-absent (stopped q l r) g h z = absurd g

  -- broken
  pub stops-broken : (s : Progress) → GoesOn s a → {l : ℕ} {r : Reason} {t : Progress} → f a ≡ broken l r → Halts a l r s t → Passes f a m s t a
  stops-broken unfound g {l} {r} h k = rw k record { comes = broken-stops f a m i l r h; holds = tt }
  stops-broken (running q c d) g {l} {r} h k = rw k record { comes = broken-ends f a m i l r h q c d; holds = g }
  stops-broken (stopped q n d) g h k = absurd g

  -- mapped from a frame on
  module _ {n : ℕ} {d : Rights} (h : (x : ℕ) → a ≤ x → x < m → f x ≡ mapped (n + (x - a)) d) where
    due : (c : ℕ) (r : Rights) (q : ℕ) → true ≡ cond (eqb (rights_bits r) (rights_bits d)) (eqb (c + (a - q)) n) false → (r ≡ d) × (c + (a - q) ≡ n)
    due c r q z = by (eqb (rights_bits r) (rights_bits d)) refl z
      where
        by : (t : Bool) → eqb (rights_bits r) (rights_bits d) ≡ t → true ≡ cond t (eqb (c + (a - q)) n) false → (r ≡ d) × (c + (a - q) ≡ n)
        by true y o = (sym (bits-from r) ∙ ap rights_from (eqb-true (rights_bits r) (rights_bits d) y) ∙ bits-from d, eqb-true (c + (a - q)) n (sym o))
        by false y o = cc

    pub passes-mapped : (s : Progress) → GoesOn s a → n < 2 ^ 40 → {t : Progress} → Takes a n d s t true → Passes f a m s t m
    passes-mapped unfound g b k = rw k.found record { comes = mapped-begins f a m i n d h; holds = (omega arith, b) }
    passes-mapped (running q c r) g b k =
        let (same, frame) = due c r q k.answer in
        rw (k.found, same) record { comes = mapped-goes-on f a m i n d h q c g.0 frame; holds = (omega (arith, g.0), g.1) }
    passes-mapped (stopped q l r) g b k = absurd g

    not-due : (c : ℕ) (r : Rights) (q : ℕ) → false ≡ cond (eqb (rights_bits r) (rights_bits d)) (eqb (c + (a - q)) n) false → d ≡ r → c + (a - q) ≡ n → ⊥
    not-due c r q z y o =
        let u : eqb (rights_bits r) (rights_bits d) ≡ true = eq-eqb (rights_bits r) (rights_bits d) (ap rights_bits (sym y)) in
        let p : eqb (c + (a - q)) n ≡ true = eq-eqb (c + (a - q)) n o in
        let t : false ≡ true = rw (u, p) at z in
        cc

    pub ends-mapped : (s : Progress) → GoesOn s a → {t : Progress} → Takes a n d s t false → Passes f a m s t a
    ends-mapped unfound g k = let e = k.answer in cc
    ends-mapped (running q c r) g k = rw k.found record { comes = mapped-ends f a m i n d h q c r (not-due c r q k.answer); holds = g }
    ends-mapped (stopped q l r) g k = absurd g
