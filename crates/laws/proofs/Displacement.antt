-- Displacements, over the width: the ways through the call, and what follows from them.
use mathlib.Core.Path.{◌≡◌, refl}
use mathlib.Core.Logic.{◌⊎◌, inl, inr}
use mathlib.Core.Bool.{Bool, true, false}
use Prim.Native.Nat.{ℕ, ◌+◌, ◌-◌, ◌^◌, ◌≤◌, ◌<◌}
use native.Mathlib.Omega.{arith}
use native.Mathlib.Decide.{dec_lt}
use borrow.Author.Tests.{eqb-true, lt-ltb, le-ltb, le-leb, lt-leb}
use lib.IntN.{ℤ, pos, negsuc, neg_ℤ, ◌+ℤ◌}
use lib.Signed.{◌<ℤ◌, ◌≤ℤ◌}
use Rattle.std.proofs.lemmas.Int.{ints}
use Rattle.answer.specs.Outcome.{gives, refuses}
use Rattle.laws.specs.Width.{IsWidth, sign_extend, canonical}
use Rattle.laws.specs.Address.{virt, minus, plus_signed}
use Rattle.laws.specs.Displacement.{Displaced, Opposites, Returns, AsCount}
use Rattle.laws.proofs.Cases.{by_cases}
use Rattle.laws.proofs.Width.{sign-lt}

-- every call goes one of five ways
data Way (w a : ℕ) (d : ℤ) : Type 0 where
  no_address : canonical w a ≡ false → plus_signed (virt w) a d ≡ refuses 1 → Way w a d
  below : (n : ℕ) → canonical w a ≡ true → pos a +ℤ d ≡ negsuc n → plus_signed (virt w) a d ≡ refuses 5 → Way w a d
  past : (n : ℕ) → canonical w a ≡ true → pos a +ℤ d ≡ pos n → 2 ^ 64 ≤ n → plus_signed (virt w) a d ≡ refuses 5 → Way w a d
  outside : (n : ℕ) → canonical w a ≡ true → pos a +ℤ d ≡ pos n → n < 2 ^ 64 → canonical w n ≡ false → plus_signed (virt w) a d ≡ refuses 6 → Way w a d
  inside : (n : ℕ) → canonical w a ≡ true → pos a +ℤ d ≡ pos n → n < 2 ^ 64 → canonical w n ≡ true → plus_signed (virt w) a d ≡ gives n → Way w a d

way : (w a : ℕ) (d : ℤ) → Way w a d
way w a d = go (canonical w a) refl (pos a +ℤ d) refl
  where
    to : (n : ℕ) → canonical w a ≡ true → pos a +ℤ d ≡ pos n → n < 2 ^ 64 → (t : Bool) → canonical w n ≡ t → Way w a d
    to n h e l true c = inside n h e l c (simp (h, e, lt-ltb n (2 ^ 64) l, c))
    to n h e l false c = outside n h e l c (simp (h, e, lt-ltb n (2 ^ 64) l, c))

    go : (t : Bool) → canonical w a ≡ t → (z : ℤ) → pos a +ℤ d ≡ z → Way w a d
    go false h z e = no_address h (simp h)
    go true h (negsuc n) e = below n h e (simp (h, e))
    go true h (pos n) e = by_cases (dec_lt n (2 ^ 64)) (λ l. to n h e l (canonical w n) refl) (λ m. past n h e (omega arith) (simp (h, e, le-ltb n (2 ^ 64) (omega arith))))

module _ (w : ℕ) (v : IsWidth w) where
  -- a canonical number has 64 bits
  fits : (a : ℕ) → canonical w a ≡ true → a < 2 ^ 64
  fits a h = omega (arith, sign-lt w v a, eqb-true (sign_extend w a) a h)

  one-to : (a : ℕ) (d : ℤ) → Way w a d → plus_signed (virt w) a d ≡ refuses 1 → canonical w a ≡ false
  one-to a d (no_address h f) e = h
  one-to a d (below n h s f) e = grind arith
  one-to a d (past n h s l f) e = grind arith
  one-to a d (outside n h s l c f) e = grind arith
  one-to a d (inside n h s l c f) e = grind arith

  five-to : (a : ℕ) (d : ℤ) → Way w a d → plus_signed (virt w) a d ≡ refuses 5 → ((pos a +ℤ d) <ℤ pos 0) ⊎ (pos (2 ^ 64) ≤ℤ (pos a +ℤ d))
  five-to a d (no_address h f) e = grind arith
  five-to a d (below n h s f) e = inl (omega (arith, ints))
  five-to a d (past n h s l f) e = inr (omega (arith, ints))
  five-to a d (outside n h s l c f) e = grind arith
  five-to a d (inside n h s l c f) e = grind arith

  five-from : (a : ℕ) (d : ℤ) → Way w a d → canonical w a ≡ true → ((pos a +ℤ d) <ℤ pos 0) ⊎ (pos (2 ^ 64) ≤ℤ (pos a +ℤ d)) → plus_signed (virt w) a d ≡ refuses 5
  five-from a d (no_address h f) t e = grind arith
  five-from a d (below n h s f) t e = f
  five-from a d (past n h s l f) t e = f
  five-from a d (outside n h s l c f) t (inl e) = absurd (omega (arith, ints))
  five-from a d (outside n h s l c f) t (inr e) = absurd (omega (arith, ints))
  five-from a d (inside n h s l c f) t (inl e) = absurd (omega (arith, ints))
  five-from a d (inside n h s l c f) t (inr e) = absurd (omega (arith, ints))

  six-to : (a n : ℕ) (d : ℤ) → pos a +ℤ d ≡ pos n → Way w a d → plus_signed (virt w) a d ≡ refuses 6 → canonical w n ≡ false
  six-to a n d e (no_address h f) r = grind arith
  six-to a n d e (below m h s f) r = grind arith
  six-to a n d e (past m h s l f) r = grind arith
  six-to a n d e (outside m h s l c f) r = grind arith
  six-to a n d e (inside m h s l c f) r = grind arith

  six-from : (a n : ℕ) (d : ℤ) → canonical w a ≡ true → pos a +ℤ d ≡ pos n → n < 2 ^ 64 → canonical w n ≡ false → plus_signed (virt w) a d ≡ refuses 6
  six-from a n d h s l c = simp (h, s, lt-ltb n (2 ^ 64) l, c)

  gives-to : (a n : ℕ) (d : ℤ) → Way w a d → plus_signed (virt w) a d ≡ gives n → (canonical w a ≡ true) × ((canonical w n ≡ true) × (pos a +ℤ d ≡ pos n))
  gives-to a n d (no_address h f) r = grind arith
  gives-to a n d (below m h s f) r = grind arith
  gives-to a n d (past m h s l f) r = grind arith
  gives-to a n d (outside m h s l c f) r = grind arith
  gives-to a n d (inside m h s l c f) r = grind arith

  gives-from : (a n : ℕ) (d : ℤ) → canonical w a ≡ true → canonical w n ≡ true → pos a +ℤ d ≡ pos n → plus_signed (virt w) a d ≡ gives n
  gives-from a n d h c s = simp (h, s, lt-ltb n (2 ^ 64) (fits n c), c)

  pub displaced : Displaced w
  displaced = record {
    refused-1 = λ a d. (one-to a d (way w a d), λ h. simp h);
    refused-5 = λ a d h. (five-to a d (way w a d), five-from a d (way w a d) h);
    refused-6 = λ a n d h e l. (six-to a n d e (way w a d), six-from a n d h e l);
    answered = λ a n d. (gives-to a n d (way w a d), λ p. gives-from a n d (p.0) (p.1.0) (p.1.1));
  }

  back : (a n : ℕ) (d : ℤ) → plus_signed (virt w) a d ≡ gives n → plus_signed (virt w) n (neg_ℤ d) ≡ gives a
  back a n d e =
      let p = gives-to a n d (way w a d) e in
      let s : pos a +ℤ d ≡ pos n = p.1.1 in
      gives-from n a (neg_ℤ d) (p.1.0) (p.0) (omega (arith, ints))

  pub returns : Returns w
  returns = record { back = λ a n d i o. back a n d }

  backward : (a n : ℕ) → Way w a (negsuc n) → plus_signed (virt w) a (negsuc n) ≡ minus (virt w) a (n + 1)
  backward a n (no_address h f) = simp h
  backward a n (below m h s f) = rw f (simp (h, lt-leb (n + 1) a (omega (arith, ints))))
  backward a n (past m h s l f) = absurd (omega (arith, ints, fits a h))
  backward a n (outside m h s l c f) = let e : m ≡ a - (n + 1) = omega (arith, ints) in let c' = rw e at c in rw f (simp (h, le-leb (n + 1) a (omega (arith, ints)), c'))
  backward a n (inside m h s l c f) = let e : m ≡ a - (n + 1) = omega (arith, ints) in let c' = rw e at c in rw f (simp (h, le-leb (n + 1) a (omega (arith, ints)), c', e))

  pub as-count : AsCount w
  as-count = record { as_plus = λ a n. refl; as_minus = λ a n. backward a n (way w a (negsuc n)) }

pub opposites : Opposites
opposites =
    record {
      all = λ d. (λ f. record { at_least = omega (arith, ints, f); at_most = omega (arith, ints, f) }, λ i. omega (arith, ints, i.at_least, i.at_most));
      opposite = λ d i o. record { at_least = omega (arith, ints, i.at_least, i.at_most); at_most = omega (arith, ints, i.at_least, i.at_most, o) };
      no-opposite = λ i. omega (arith, ints, i.at_most);
    }
