-- A draw after one with n = 0 gives and leaves what the draw one place further does; and what a draw leaves where there are not so many items, and where there are none.
use Prim.Native.Nat.{ℕ, suc, ◌+◌, ◌-◌, ◌*◌, ◌≤◌, ◌<◌, min}
use mathlib.Core.Path.{◌≡◌, refl, sym, ap, ◌∙◌}
use mathlib.Core.Bool.{Bool, true, false, cond}
use mathlib.Core.List.{List, [], ◌∷◌, reverse}
use mathlib.Core.Option.{none}
use native.Mathlib.Omega.{arith}
use native.Mathlib.Nat.{add-mul, zero-mul, add-zero, sub-zero}
use native.Mathlib.Decide.{dec_lt}
use borrow.Author.Tests.{ltb-true, ltb-false, lt-ltb, le-ltb}
use lib.Dec.{ltb}
use lib.ListN.{get_elem?, drop}
use Rattle.laws.specs.Run.{run, len_below, len_through, below, through}
use Rattle.laws.specs.Draw.{Draw, front_below, back_below, front_through, back_through}
use Rattle.laws.proofs.Cases.{by_cases}
use Rattle.laws.proofs.Run.{run_at, back_at, below-front, below-back, through-front, through-back, through-none}
use Rattle.laws.proofs.Left.{all-front, all_back, front-below-left, back-below-left, front-through-left, back-through-left}

-- the item one place further
item-after : (l m : List ℕ) (n : ℕ) → m ≡ drop 1 l → get_elem? m n ≡ get_elem? l (suc n)
item-after [] m n e = rw e
item-after (x ∷ l) m n e = rw e

-- one item and then n + 1 of those left are n + 2 of k
taken-after : (k n s : ℕ) → min 1 k * s + min (n + 1) (k - min 1 k) * s ≡ min (suc n + 1) k * s
taken-after k n s = sym (add-mul (min 1 k) (min (n + 1) (k - min 1 k)) s) ∙ ap (λ (x : ℕ). x * s) (omega arith)

less : (b c x y : ℕ) → c + x ≤ b → ltb (b - x) (c + y) ≡ ltb b (c + (x + y))
less b c x y h =
    by_cases (dec_lt b (c + (x + y))) (λ k. lt-ltb (b - x) (c + y) (omega arith) ∙ sym (lt-ltb b (c + (x + y)) k)) (λ k. le-ltb (b - x) (c + y) (omega arith) ∙ sym (le-ltb b (c + (x + y)) (omega arith)))

-- an exclusive range: `m` are the items left by the draw of one of `l`
module _ (l m : List ℕ) (a b s n : ℕ) (p : 0 < s) where
  front-below-after : m ≡ drop 1 l → front_below m (front_below l a b s 0).start (front_below l a b s 0).end s n ≡ front_below l a b s (suc n)
  front-below-after e =
      let k = len_below a b s in
      let i = item-after l m n e in
      let f : a + min 1 k * s + min (n + 1) (k - min 1 k) * s ≡ a + min (suc n + 1) k * s = omega (arith, taken-after k n s) in
      rw (below-front a b s (min 1 k) p, i, f)

  back-below-after : reverse m ≡ drop 1 (reverse l) → back_below m (back_below l a b s 0).start (back_below l a b s 0).end s n ≡ back_below l a b s (suc n)
  back-below-after e =
      let k = len_below a b s in
      let i = item-after (reverse l) (reverse m) n e in
      let f : b - min 1 k * s - min (n + 1) (k - min 1 k) * s ≡ b - min (suc n + 1) k * s = omega (arith, taken-after k n s) in
      rw (below-back a b s (min 1 k) p, i, f)

-- an inclusive range whose ends are at most `top`, the topmost item
module _ (l m : List ℕ) (a b s top n : ℕ) (p : 0 < s) (st : s ≤ top) (ha : a ≤ top) (hb : b ≤ top) where
  front-through-after : m ≡ drop 1 l → front_through m top (front_through l top a b s 0).start (front_through l top a b s 0).end s n ≡ front_through l top a b s (suc n)
  front-through-after e = go (ltb top (a + min 1 (len_through a b s) * s)) refl
    where
      i : get_elem? m n ≡ get_elem? l (suc n)
      i = item-after l m n e

      go : (t : Bool) → ltb top (a + min 1 (len_through a b s) * s) ≡ t
          → front_through m top (cond t top (a + min 1 (len_through a b s) * s)) (cond t (top - s) b) s n ≡ front_through l top a b s (suc n)
      go true h =
          let k = len_through a b s in
          let one : k ≤ 1 = all-front l a b s top 0 p st ha hb (ltb-true _ _ h) in
          let j : min (suc n + 1) k ≡ min 1 k = omega arith in
          let z : min (n + 1) 0 ≡ 0 = omega arith in
          let t : top + 0 * s ≡ top = omega (arith, zero-mul s) in
          rw (through-none top (top - s) s (omega arith), z, t, le-ltb top top (omega arith), j, h, i)
      go false h =
          let k = len_through a b s in
          let f : a + min 1 k * s + min (n + 1) (k - min 1 k) * s ≡ a + min (suc n + 1) k * s = omega (arith, taken-after k n s) in
          rw (through-front a b s (min 1 k) p, f, i)

-- the same from the back: `bottom` is the lowest item, and the start is no lower
module _ (l m : List ℕ) (a b s bottom n : ℕ) (p : 0 < s) (hc : bottom ≤ a) where
  back-through-after : reverse m ≡ drop 1 (reverse l) → back_through m bottom (back_through l bottom a b s 0).start (back_through l bottom a b s 0).end s n ≡ back_through l bottom a b s (suc n)
  back-through-after e = go (ltb b (bottom + min 1 (len_through a b s) * s)) refl
    where
      i : get_elem? (reverse m) n ≡ get_elem? (reverse l) (suc n)
      i = item-after (reverse l) (reverse m) n e

      go : (t : Bool) → ltb b (bottom + min 1 (len_through a b s) * s) ≡ t
          → back_through m bottom (cond t (a + s) a) (cond t bottom (b - min 1 (len_through a b s) * s)) s n ≡ back_through l bottom a b s (suc n)
      go true h =
          let k = len_through a b s in
          let one : k ≤ 1 = all_back l a b s bottom 0 p hc (ltb-true _ _ h) in
          let j : min (suc n + 1) k ≡ min 1 k = omega arith in
          let z : min (n + 1) 0 ≡ 0 = omega arith in
          rw (through-none (a + s) bottom s (omega arith), z, zero-mul s, add-zero, le-ltb bottom bottom (omega arith), sub-zero, j, h, i)
      go false h =
          let k = len_through a b s in
          let x = min 1 k * s in
          let y = min (n + 1) (k - min 1 k) * s in
          let f : x + y ≡ min (suc n + 1) k * s = taken-after k n s in
          let g : b - x - y ≡ b - (x + y) = omega arith in
          let q : bottom + x ≤ b = ltb-false _ _ h in
          rw (through-back a b s (min 1 k) p (omega arith), ← f, i, g, less b bottom x y q)

-- a draw on numbers, from the range of `a` to `b`, which has `len` items: after one with n = 0, past the last item, and where there is none
pub record Stepwise (len : ℕ) (draw : ℕ → ℕ → ℕ → Draw) (a b : ℕ) : Type 0 where
  pub after : (n : ℕ) → draw (draw a b 0).start (draw a b 0).end n ≡ draw a b (suc n)
  pub past : (n m : ℕ) → len ≡ suc m → suc m ≤ n → draw a b n ≡ record { item = none; start = (draw a b m).start; end = (draw a b m).end }
  pub empty : (n : ℕ) → len ≡ 0 → draw a b n ≡ record { item = none; start = a; end = b }

-- nothing stands past the last item
at-past : (a s k n : ℕ) → k ≤ n → get_elem? (run a s k) n ≡ none
at-past a s k n h = rw (run_at, le-ltb n k h)

back-past : (a s k n : ℕ) → k ≤ n → get_elem? (reverse (run a s k)) n ≡ none
back-past a s k n h = rw (back_at, le-ltb n k h)

none-taken : (n : ℕ) → min (n + 1) 0 ≡ 0
none-taken n = omega arith

all-taken : (n m : ℕ) → suc m ≤ n → min (n + 1) (suc m) ≡ min (m + 1) (suc m)
all-taken n m h = omega arith

module _ (s a b : ℕ) (p : 0 < s) where
  pub front-below-steps : Stepwise (len_below a b s) (λ a b n. front_below (below a b s) a b s n) a b
  front-below-steps =
      record {
        after = λ n. front-below-after (below a b s) _ a b s n p (front-below-left (below a b s) a b s 0 p);
        past = λ n m e h. rw (e, all-taken n m h, at-past a s (suc m) n h);
        empty = λ n e. rw (e, none-taken n, zero-mul s, add-zero, at-past a s 0 n (omega arith));
      }

  pub back-below-steps : Stepwise (len_below a b s) (λ a b n. back_below (below a b s) a b s n) a b
  back-below-steps =
      record {
        after = λ n. back-below-after (below a b s) (below a (back_below [] a b s 0).end s) a b s n p (back-below-left (below a b s) a b s 0 p);
        past = λ n m e h. rw (e, all-taken n m h, back-past a s (suc m) n h);
        empty = λ n e. rw (e, none-taken n, zero-mul s, sub-zero, back-past a s 0 n (omega arith));
      }

  -- the ends are at most `top`
  pub front-through-steps : (top : ℕ) → s ≤ top → a ≤ top → b ≤ top → Stepwise (len_through a b s) (λ a b n. front_through (through a b s) top a b s n) a b
  front-through-steps top st ha hb =
      record {
        after = λ n. front-through-after (through a b s) _ a b s top n p st ha hb (front-through-left (through a b s) a b s top 0 p st ha hb);
        past = λ n m e h. rw (e, all-taken n m h, at-past a s (suc m) n h);
        empty = λ n e. rw (e, none-taken n, zero-mul s, add-zero, le-ltb top a ha, at-past a s 0 n (omega arith));
      }

  -- the ends are no lower than `bottom`
  pub back-through-steps : (bottom : ℕ) → bottom ≤ a → bottom ≤ b → Stepwise (len_through a b s) (λ a b n. back_through (through a b s) bottom a b s n) a b
  back-through-steps bottom hc hd =
      record {
        after = λ n. back-through-after (through a b s) (through (back_through [] bottom a b s 0).start (back_through [] bottom a b s 0).end s) a b s bottom n p hc (back-through-left (through a b s) a b s bottom 0 p hc);
        past = λ n m e h. rw (e, all-taken n m h, back-past a s (suc m) n h);
        empty = λ n e. rw (e, none-taken n, zero-mul s, sub-zero, add-zero, le-ltb b bottom hd, back-past a s 0 n (omega arith));
      }
