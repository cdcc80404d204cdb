-- The test of an item handed in, as the code has it: one number, 0 where the item is none to refuse.
use mathlib.Core.Path.{◌≡◌, refl}
use mathlib.Core.Bool.{Bool, true, false, cond}
use Prim.Native.Nat.{ℕ, zero, suc, ◌+◌, ◌-◌, ◌*◌, ◌%◌, ◌^◌, ◌≤◌, ◌<◌}
use native.Mathlib.Omega.{arith}
use native.Mathlib.Nat.{mod-lt}
use lib.Dec.{eqb, lit<}
use lib.Pow.{pow_pos, pow_mono}
use borrow.Author.Tests.{eqb-true, ltb-true, lt-ltb, le-ltb, le-leb, lt-leb}
use Rattle.answer.specs.Outcome.{Outcome, gives, refuses, unless_refused}
use Rattle.answer.specs.Refusal.{overflow}
use Rattle.laws.specs.Address.{Addresses, virt, phys}
use Rattle.laws.specs.Item.{item, given_item, item_refusal, plus_item, minus_item, given_items, first_refusal, items_refusal}

-- a number that is not 0 refuses
pub refused-unless : {A : Type 0} (k : ℕ) (o : Outcome A) → (k ≡ 0 → ⊥) → refuses k ≡ unless_refused k o
refused-unless zero o h = absurd (h refl)
refused-unless (suc k) o h = refl

module _ (s : Addresses) (a z : ℕ) where
  pub item_refused : {A : Type 0} (o : Outcome A) → (item_refusal s a z ≡ 0 → ⊥) → refuses (item_refusal s a z) ≡ given_item s a z o
  item_refused o n = refused-unless (item_refusal s a z) o n

  -- 0 lets pass: its address is one, and a multiple of its size
  pub item-passed : (s.argument ≡ 0 → ⊥) → item_refusal s a z ≡ 0 → (s.holds a ≡ true) × (a % z ≡ 0)
  unfolding item_refusal
  item-passed n r = go (s.holds a) refl (eqb (a % z) 0) refl
    where
      go : (h : Bool) → s.holds a ≡ h → (t : Bool) → eqb (a % z) 0 ≡ t → (s.holds a ≡ true) × (a % z ≡ 0)
      go true e true f = (e, eqb-true (a % z) 0 f)
      go true e false f = let q = simp (e, f) at r in absurd (omega arith)
      go false e t f = let q = simp e at r in absurd (n q)

-- a number that is not 0 comes first, and refuses
pub first-refused : (k m : ℕ) → (k ≡ 0 → ⊥) → first_refusal k m ≡ k
first-refused zero m h = absurd (h refl)
first-refused (suc k) m h = refl

-- an item that passes goes on to what follows
pub item-given : {A : Type 0} (s : Addresses) (a z : ℕ) (o : Outcome A) → item_refusal s a z ≡ 0 → o ≡ given_item s a z o
item-given s a z o r = rw r

-- the ways through each call on items, for pages and frames alike
module _ (s : Addresses) (a z n : ℕ) (r : item_refusal s a z ≡ 0) where
  pub plus-overflow : 2 ^ 64 ≤ a + n * z → refuses overflow ≡ plus_item s a z n
  plus-overflow h = simp (r, le-ltb (a + n * z) (2 ^ 64) h)

  pub plus-outside : a + n * z < 2 ^ 64 → s.holds (a + n * z) ≡ false → refuses s.result ≡ plus_item s a z n
  plus-outside h f = simp (r, lt-ltb (a + n * z) (2 ^ 64) h, f)

  pub plus-gives : a + n * z < 2 ^ 64 → s.holds (a + n * z) ≡ true → gives (item (a + n * z) z) ≡ plus_item s a z n
  plus-gives h t = simp (r, lt-ltb (a + n * z) (2 ^ 64) h, t)

  pub minus-overflow : a < n * z → refuses overflow ≡ minus_item s a z n
  minus-overflow h = simp (r, lt-leb (n * z) a h)

  pub minus-outside : n * z ≤ a → s.holds (a - n * z) ≡ false → refuses s.result ≡ minus_item s a z n
  minus-outside h f = simp (r, le-leb (n * z) a h, f)

  pub minus-gives : n * z ≤ a → s.holds (a - n * z) ≡ true → gives (item (a - n * z) z) ≡ minus_item s a z n
  minus-gives h t = simp (r, le-leb (n * z) a h, t)

-- two items handed in
module _ (s : Addresses) (a y b z : ℕ) where
  pub items-passed : items_refusal s a y b z ≡ 0 → (item_refusal s a y ≡ 0) × (item_refusal s b z ≡ 0) × (y ≡ z)
  unfolding items_refusal
  items-passed r = go (item_refusal s a y) refl (item_refusal s b z) refl (eqb y z) refl
    where
      go : (m : ℕ) → item_refusal s a y ≡ m → (n : ℕ) → item_refusal s b z ≡ n → (t : Bool) → eqb y z ≡ t → (item_refusal s a y ≡ 0) × (item_refusal s b z ≡ 0) × (y ≡ z)
      go zero e zero f true g = (e, f, eqb-true y z g)
      go zero e zero f false g = let q = simp (e, f, g) at r in absurd (omega arith)
      go zero e (suc n) f t g = let q = simp (e, f) at r in absurd (omega arith)
      go (suc m) e n f t g = let q = simp e at r in absurd (omega arith)

  pub items-given : {A : Type 0} (o : Outcome A) → items_refusal s a y b z ≡ 0 → o ≡ given_items s a y b z o
  items-given o r = rw r

  pub items_refused : {A : Type 0} (o : Outcome A) → (items_refusal s a y b z ≡ 0 → ⊥) → refuses (items_refusal s a y b z) ≡ given_items s a y b z o
  items_refused o x = refused-unless (items_refusal s a y b z) o x

pub virt-argument : (w : ℕ) → (virt w).argument ≡ 0 → ⊥
virt-argument w e = omega arith

pub phys-argument : (w : ℕ) → (phys w).argument ≡ 0 → ⊥
phys-argument w e = omega arith

-- where an address is among those of its space
pub virt-position : (w : ℕ) → w < 64 → (a : ℕ) → (virt w).holds a ≡ true → (virt w).position a < 2 ^ 63
virt-position w h a t = omega (arith, mod-lt a (pow_pos w), pow_mono {i = w} {j = 63} (omega arith))

pub phys-position : (a : ℕ) → (phys 52).holds a ≡ true → (phys 52).position a < 2 ^ 63
phys-position a t = omega (arith, ltb-true a (2 ^ 52) t)

-- the number that refuses two pages is one of theirs: 1, 3 or 7
pub virt-items-number : (w a y b z : ℕ) → items_refusal (virt w) a y b z < 10
unfolding items_refusal item_refusal
virt-items-number w a y b z = go ((virt w).holds a) (eqb (a % y) 0) ((virt w).holds b) (eqb (b % z) 0) (eqb y z)
  where
    go : (h k h' k' e : Bool) → first_refusal (cond h (cond k 0 3) 1) (first_refusal (cond h' (cond k' 0 3) 1) (cond e 0 7)) < 10
    go true true true true true = lit< tt
    go true true true true false = lit< tt
    go true true true false e = lit< tt
    go true true false k' e = lit< tt
    go true false h' k' e = lit< tt
    go false k h' k' e = lit< tt
