-- Tables that are remembered to hold nothing: what is set is true, and stays true as bits are set.
use Prim.Native.Nat.{ℕ, zero, suc, ◌+◌, ◌-◌, ◌*◌, ◌/◌, ◌%◌, ◌^◌, ◌≤◌, ◌<◌}
use mathlib.Core.Path.{◌≡◌, refl, sym, ap, subst, ◌∙◌}
use mathlib.Core.Bool.{Bool, true, false, cond, ◌&&◌}
use mathlib.Core.List.{List}
use mathlib.Core.Logic.{◌⊎◌, inl, inr, ⊎_elim}
use mathlib.Core.Option.{Option}
use native.Mathlib.Decide.{ℕ_discrete, dec_lt}
use native.Mathlib.Nat.{mod-lt, mod-eq_of_lt, div-eq_of_lt}
use native.Mathlib.Omega.{arith}
use borrow.Author.Tests.{eqb-true, ltb-true}
use lib.Bits.{bit_or, or_shr, or_mod}
use lib.Dec.{lit<, eqb, ltb}
use lib.ListN.{length, length-set, get_or, take, drop, replicate, length-replicate, get_or-replicate, replicate-append-replicate}
use lib.ListN as list
use lib.Pow.{pow-lt, pow-add, shl-shr}
use lib.Seq.{get_or-set_same, get_or-set_other}
use Rattle.laws.proofs.Cases.{by_cases}
use Rattle.mapping.specs.Walk.{Entry, HoldsNothing}
use Rattle.paging.specs.Entry.{set}
use Rattle.paging.specs.EmptyTables.{TrueOf, has_byte, marked, marking}
use Rattle.paging.specs.Memory.{table_from}

-- a bit of 2 ^ n
power-bit : (m n : ℕ) → 2 ^ n / 2 ^ m % 2 ≡ 1 → m ≡ n
power-bit m n e = by_cases (dec_lt n m) below (λ l. by_cases (dec_lt m n) above (λ g. omega arith))
  where
    below : n < m → m ≡ n
    below l = let z : ◌≡◌ {A = ℕ} 0 1 = rw (div-eq_of_lt (pow-lt l)) at e in absurd (omega arith)

    even : (k : ℕ) → 2 ^ (suc k + m) / 2 ^ m % 2 ≡ 0
    even k = ap (λ (z : ℕ). z / 2 ^ m % 2) (pow-add 2 (suc k) m) ∙ ap (λ (z : ℕ). z % 2) (shl-shr (2 ^ suc k) m) ∙ omega arith

    above : m < n → m ≡ n
    above l =
        let k : n ≡ suc (n - suc m) + m = omega arith in
        let z : 2 ^ n / 2 ^ m % 2 ≡ 0 = ap (λ (z : ℕ). 2 ^ z / 2 ^ m % 2) k ∙ even (n - suc m) in
        absurd (omega arith)

or-digit : (x y : ℕ) → x < 2 → y < 2 → eqb (bit_or x y) 1 ≡ true → (eqb x 1 ≡ true) ⊎ (y ≡ 1)
or-digit zero zero p q e = inl e
or-digit zero (suc zero) p q e = inr refl
or-digit zero (suc (suc y)) p q e = absurd (omega arith)
or-digit (suc zero) y p q e = inl refl
or-digit (suc (suc x)) y p q e = absurd (omega arith)

-- a bit that is set with bit `n` set: it was, or it is that one
set-or : (m b n : ℕ) → set m (bit_or b (2 ^ n)) ≡ true → (set m b ≡ true) ⊎ (m ≡ n)
set-or m b n e =
    ⊎_elim (λ h. inl h) (λ h. inr (power-bit m n h))
    (or-digit (b / 2 ^ m % 2) (2 ^ n / 2 ^ m % 2) (mod-lt (b / 2 ^ m) (lit< tt)) (mod-lt (2 ^ n / 2 ^ m) (lit< tt))
    (rw (or_shr b (2 ^ n) m, or_mod (b / 2 ^ m) (2 ^ n / 2 ^ m) 1) at e))

and_parts : (a b : Bool) → (a && b) ≡ true → (a ≡ true) × (b ≡ true)
and_parts true b e = (refl, e)
and_parts false b e = absurd (let z : ◌≡◌ {A = ℕ} 0 1 = cc in omega arith)

-- a table that has a byte
pub has-place : (bytes : List ℕ) (p : ℕ) → has_byte bytes p ≡ true → (p ≡ 512 * (p / 512)) × (p / 512 < length bytes)
has-place bytes p e =
    let t = and_parts (eqb (p % 512) 0) (ltb (p / 512) (length bytes)) e in
    (omega (arith, eqb-true (p % 512) 0 t.0), ltb-true (p / 512) (length bytes) t.1)

module _ (entry : ℕ → ℕ → Entry) (memory : ℕ → Option (List ℕ)) (words bytes : List ℕ) (t : TrueOf entry memory words bytes) where
  -- what is marked is true
  pub marked-true : (p n : ℕ) → n < 8 → marked bytes p n ≡ true → HoldsNothing entry memory (n + 1) (table_from words p)
  marked-true p n l = go (has_byte bytes p) refl
    where
      go : (b : Bool) → has_byte bytes p ≡ b → (b && set (n % 8) (get_or bytes (p / 512) 0)) ≡ true → HoldsNothing entry memory (n + 1) (table_from words p)
      go true e s =
          let h = has-place bytes p e in
          subst (λ (z : ℕ). HoldsNothing entry memory (n + 1) (table_from words z)) (sym h.0) (t (p / 512) n h.1 (rw (mod-eq_of_lt l) at s)).1
      go false e s = absurd (let z : ◌≡◌ {A = ℕ} 0 1 = cc in omega arith)

  -- and stays true with a table marked that holds nothing
  pub marking-true : (p n : ℕ) → n < 8 → p + 512 ≤ length words → HoldsNothing entry memory (n + 1) (table_from words p) → TrueOf entry memory words (marking bytes p n)
  marking-true p n l inside nothing = rw (mod-eq_of_lt l) (go (has_byte bytes p) refl)
    where
      same : has_byte bytes p ≡ true → (m : ℕ) → set m (bit_or (get_or bytes (p / 512) 0) (2 ^ n)) ≡ true
          → (512 * (p / 512) + 512 ≤ length words) × HoldsNothing entry memory (m + 1) (table_from words (512 * (p / 512)))
      same e m s =
          let h = has-place bytes p e in
          ⊎_elim (λ old. t (p / 512) m h.1 old)
          (λ new. (
            omega arith,
            subst (λ (z : ℕ). HoldsNothing entry memory (z + 1) (table_from words (512 * (p / 512)))) (sym new)
                (subst (λ (z : ℕ). HoldsNothing entry memory (n + 1) (table_from words z)) h.0 nothing),
          ))
          (set-or m (get_or bytes (p / 512) 0) n s)

      go : (b : Bool) → has_byte bytes p ≡ b → TrueOf entry memory words (cond b (list.set bytes (p / 512) (bit_or (get_or bytes (p / 512) 0) (2 ^ n))) bytes)
      go true e i m q s =
          let h = has-place bytes p e in
          let k : i < length bytes = rw length-set at q in
          by_cases (ℕ_discrete i (p / 512))
          (λ j. rw j (same e m (rw (j, get_or-set_same bytes (p / 512) (bit_or (get_or bytes (p / 512) 0) (2 ^ n)) 0 h.1) at s)))
          (λ j. t i m k (rw (get_or-set_other bytes (p / 512) i (bit_or (get_or bytes (p / 512) 0) (2 ^ n)) 0 j) at s))
      go false e i m q s = t i m q s
