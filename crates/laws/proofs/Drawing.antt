-- Whoever draws to the end gets each item once, in order, from either end or both: by what one draw gives and leaves.
use Prim.Native.Nat.{ℕ, ◌-◌, ◌≤◌}
use mathlib.Core.Path.{◌≡◌, refl, sym, ap, ◌∙◌}
use mathlib.Core.List.{List, [], ◌∷◌, ◌++◌, reverse, reverse-append, reverse-reverse, append-nil, append_assoc}
use mathlib.Core.Option.{Option, none, some, map}
use native.Mathlib.Omega.{arith}
use lib.ListN.{length, length-reverse, get_elem?, drop, length-drop}
use Rattle.laws.specs.Drawing.{Side, front, back, Drawn, Drawing, with_item, added, drawing, EachOnce}

-- what a draw from either side gives and leaves
pub record Draws {S : Type 0} (items : S → List ℕ) (draw : Side → S → Option (Drawn S)) : Type 0 where
  pub from_front : (r : S) (d : Drawn S) → draw front r ≡ some d → (d.item ≡ get_elem? (items r) 0) × (items d.range ≡ drop 1 (items r))
  pub from_back : (r : S) (d : Drawn S) → draw back r ≡ some d → (d.item ≡ get_elem? (reverse (items r)) 0) × (reverse (items d.range) ≡ drop 1 (reverse (items r)))

-- a list by its first item and the rest
first-and-rest : (l : List ℕ) (x : Option ℕ) → x ≡ get_elem? l 0 → with_item x (drop 1 l) ≡ l
first-and-rest [] x e = rw e
first-and-rest (y ∷ l) x e = rw e

and-append : (x : Option ℕ) (l m : List ℕ) → with_item x l ++ m ≡ with_item x (l ++ m)
and-append none l m = refl
and-append (some x) l m = refl

-- the same at the end of a list
reverse-and : (x : Option ℕ) (l : List ℕ) → reverse (with_item x l) ≡ reverse l ++ with_item x []
reverse-and none l = sym (append-nil (reverse l))
reverse-and (some x) l = reverse-append (x ∷ []) l

empty : (l : List ℕ) → length l ≤ 0 → l ≡ []
empty [] h = refl
empty (x ∷ l) h = absurd (omega arith)

pub same_some : {A : Type 0} {x y : A} → ◌≡◌ {A = Option A} (some x) (some y) → x ≡ y
same_some e = cc

pub left-added : {S : Type 0} (side : Side) (x : Option ℕ) (d : Drawing S) → (added side x d).range ≡ d.range
left-added front x d = refl
left-added back x d = refl

module _ {S : Type 0} (draw : Side → S → Option (Drawn S)) where
  -- the first draw of several, and the others
  pub first-draw : (side : Side) (sides : List Side) (r : S) (d : Drawing S) → drawing draw (side ∷ sides) r ≡ some d
      → (e : Drawn S) × (d' : Drawing S) × (draw side r ≡ some e) × (drawing draw sides e.range ≡ some d') × (added side e.item d' ≡ d)
  unfolding drawing
  first-draw side sides r d h = go (draw side r) refl
    where
      others : (e : Drawn S) (o : Option (Drawing S)) → drawing draw sides e.range ≡ o → map (added side e.item) o ≡ some d → draw side r ≡ some e
          → (e : Drawn S) × (d' : Drawing S) × (draw side r ≡ some e) × (drawing draw sides e.range ≡ some d') × (added side e.item d' ≡ d)
      others e none k q f = absurd (let z : ◌≡◌ {A = ℕ} 0 1 = cc in omega arith)
      others e (some d') k q f = (e, d', f, k, same_some q)

      go : (o : Option (Drawn S)) → draw side r ≡ o
          → (e : Drawn S) × (d' : Drawing S) × (draw side r ≡ some e) × (drawing draw sides e.range ≡ some d') × (added side e.item d' ≡ d)
      go none k = absurd (let q : none ≡ some d = rw (k, drawing) at h in let z : ◌≡◌ {A = ℕ} 0 1 = cc in omega arith)
      go (some e) k = others e (drawing draw sides e.range) refl (rw (k, drawing) at h) k

module _ {S : Type 0} (items : S → List ℕ) (draw : Side → S → Option (Drawn S)) (p : Draws items draw) where
  -- the items of a range, by what a draw gives and those of the range that it leaves
  front-step : (r : S) (e : Drawn S) → draw front r ≡ some e → with_item e.item (items e.range) ≡ items r
  front-step r e h = rw (p.from_front r e h).1 (first-and-rest (items r) e.item (p.from_front r e h).0)

  back_step : (r : S) (e : Drawn S) → draw back r ≡ some e → items e.range ++ with_item e.item [] ≡ items r
  back_step r e h =
      let k : with_item e.item (reverse (items e.range)) ≡ reverse (items r) = rw (p.from_back r e h).1 (first-and-rest (reverse (items r)) e.item (p.from_back r e h).0) in
      ap (λ (l : List ℕ). l ++ with_item e.item []) (sym (reverse-reverse (items e.range))) ∙ sym (reverse-and e.item (reverse (items e.range))) ∙ ap reverse k ∙ reverse-reverse (items r)

  in_order : (sides : List Side) (r : S) (d : Drawing S) → drawing draw sides r ≡ some d → d.fronts ++ (items d.range ++ reverse d.backs) ≡ items r
  unfolding drawing
  in_order [] r d h = rw (← same_some h) (append-nil (items r))
  in_order (front ∷ sides) r d h =
      let (e, d', k, q, f) = first-draw draw front sides r d h in
      rw (← f)
      (and-append e.item d'.fronts (items d'.range ++ reverse d'.backs) ∙ ap (with_item e.item) (in_order sides e.range d' q) ∙ front-step r e k)
  in_order (back ∷ sides) r d h =
      let (e, d', k, q, f) = first-draw draw back sides r d h in
      let l = items d'.range in
      rw (← f)
      (ap (λ (m : List ℕ). d'.fronts ++ (l ++ m)) (reverse-and e.item d'.backs)
      ∙ ap (λ (m : List ℕ). d'.fronts ++ m) (sym (append_assoc l (reverse d'.backs) (with_item e.item [])))
      ∙ sym (append_assoc d'.fronts (l ++ reverse d'.backs) (with_item e.item []))
      ∙ ap (λ (m : List ℕ). m ++ with_item e.item []) (in_order sides e.range d' q)
      ∙ back_step r e k)

  -- a draw leaves one item fewer, or none
  one_fewer : (side : Side) (r : S) (e : Drawn S) → draw side r ≡ some e → length (items e.range) ≡ length (items r) - 1
  one_fewer front r e h = ap length (p.from_front r e h).1 ∙ length-drop 1 (items r)
  one_fewer back r e h =
      sym (length-reverse (items e.range)) ∙ ap length (p.from_back r e h).1 ∙ length-drop 1 (reverse (items r)) ∙ ap (λ (k : ℕ). k - 1) (length-reverse (items r))

  to_the_end : (sides : List Side) (r : S) (d : Drawing S) → drawing draw sides r ≡ some d → length (items r) ≤ length sides → items d.range ≡ []
  unfolding drawing
  to_the_end [] r d h k = rw (← same_some h) (empty (items r) k)
  to_the_end (side ∷ sides) r d h k =
      let (e, d', f, q, g) = first-draw draw side sides r d h in
      rw (← g, left-added side e.item d') (to_the_end sides e.range d' q (omega (arith, one_fewer side r e f)))

  pub each-once : EachOnce items draw
  each-once sides r d h = record { in_order = in_order sides r d h; to_the_end = to_the_end sides r d h }
