-- What a draw leaves: the range left stands for the items without those drawn, from the front and from the back.
use Prim.Native.Nat.{ℕ, ◌+◌, ◌-◌, ◌*◌, ◌≤◌, ◌<◌, min}
use mathlib.Core.Path.{◌≡◌, refl, sym, ap, ◌∙◌}
use mathlib.Core.Bool.{Bool, true, false, cond}
use mathlib.Core.List.{List, [], reverse}
use native.Mathlib.Omega.{arith}
use native.Mathlib.Decide.{dec_le}
use borrow.Author.Tests.{ltb-true, ltb-false}
use lib.Dec.{ltb}
use lib.ListN.{drop, drop_of_length-le, length-reverse}
use Rattle.laws.specs.Run.{run, len_through, below, through}
use Rattle.laws.specs.Draw.{taken, front_below, back_below, front_through, back_through}
use Rattle.laws.proofs.Cases.{by_cases}
use Rattle.laws.proofs.Run.{run_length, front-left, back-left, through-is, through-back, through-none, steps-fit, fits-through, back-drop}

-- an exclusive range, from the front and from the back
module _ (l : List ℕ) (a b s n : ℕ) (p : 0 < s) where
  pub front-below-left : below (front_below l a b s n).start (front_below l a b s n).end s ≡ drop (n + 1) (below a b s)
  front-below-left = front-left a b s (n + 1) p

  pub back-below-left : reverse (below (back_below l a b s n).start (back_below l a b s n).end s) ≡ drop (n + 1) (reverse (below a b s))
  back-below-left = back-left a b s (n + 1) p

-- no items
no_items : (a b s : ℕ) → b < a → through a b s ≡ []
unfolding run
no_items a b s h = rw (through-none a b s h)

-- an inclusive range whose ends are at most `top`, the topmost item
module _ (l : List ℕ) (a b s top n : ℕ) (p : 0 < s) (st : s ≤ top) (ha : a ≤ top) (hb : b ≤ top) where
  -- where the start would pass the top, all is drawn
  pub all-front : top < a + taken (len_through a b s) n * s → len_through a b s ≤ n + 1
  all-front h = by_cases (dec_le (len_through a b s) (n + 1)) (λ l. l) more
    where
      more : (len_through a b s ≤ n + 1 → ⊥) → len_through a b s ≤ n + 1
      more m =
          let e : min (n + 1) (len_through a b s) ≡ n + 1 = omega arith in
          absurd (omega (arith, rw e at h, steps-fit (n + 1) (len_through a b s) s (omega arith), fits-through a b s p))

  pub front-through-left : through (front_through l top a b s n).start (front_through l top a b s n).end s ≡ drop (n + 1) (through a b s)
  front-through-left = go (ltb top (a + taken (len_through a b s) n * s)) refl
    where
      go : (t : Bool) → ltb top (a + taken (len_through a b s) n * s) ≡ t
          → through (cond t top (a + taken (len_through a b s) n * s)) (cond t (top - s) b) s ≡ drop (n + 1) (through a b s)
      go true e = no_items top (top - s) s (omega arith) ∙ sym (drop_of_length-le (through a b s) {i = n + 1} (rw run_length (all-front (ltb-true _ _ e))))
      go false e = rw (through-is (a + taken (len_through a b s) n * s) b s p, through-is a b s p) (front-left a (b + s) s (n + 1) p)

-- the same from the back: `bottom` is the lowest item, and the start is no lower
module _ (l : List ℕ) (a b s bottom n : ℕ) (p : 0 < s) (hc : bottom ≤ a) where
  -- where the end would pass the bottom, all is drawn
  pub all_back : b < bottom + taken (len_through a b s) n * s → len_through a b s ≤ n + 1
  all_back h = by_cases (dec_le (len_through a b s) (n + 1)) (λ l. l) more
    where
      more : (len_through a b s ≤ n + 1 → ⊥) → len_through a b s ≤ n + 1
      more m =
          let e : min (n + 1) (len_through a b s) ≡ n + 1 = omega arith in
          absurd (omega (arith, rw e at h, steps-fit (n + 1) (len_through a b s) s (omega arith), fits-through a b s p))

  pub back-through-left : reverse (through (back_through l bottom a b s n).start (back_through l bottom a b s n).end s) ≡ drop (n + 1) (reverse (through a b s))
  back-through-left = go (ltb b (bottom + taken (len_through a b s) n * s)) refl
    where
      fewer : taken (len_through a b s) n * s ≤ b → len_through a (b - taken (len_through a b s) n * s) s ≡ len_through a b s - (n + 1)
      fewer h =
          let k = len_through a b s in
          let e : k - min (n + 1) k ≡ k - (n + 1) = omega arith in
          through-back a b s (min (n + 1) k) p h ∙ e

      go : (t : Bool) → ltb b (bottom + taken (len_through a b s) n * s) ≡ t
          → reverse (through (cond t (a + s) a) (cond t bottom (b - taken (len_through a b s) n * s)) s) ≡ drop (n + 1) (reverse (through a b s))
      go true e = rw (no_items (a + s) bottom s (omega arith)) (sym (drop_of_length-le (reverse (through a b s)) {i = n + 1} (rw (length-reverse, run_length) (all_back (ltb-true _ _ e)))))
      go false e = ap (λ (k : ℕ). reverse (run a s k)) (fewer (omega (arith, ltb-false b (bottom + taken (len_through a b s) n * s) e))) ∙ sym (back-drop a s (len_through a b s) (n + 1))
