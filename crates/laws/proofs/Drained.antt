-- Ranges of which no draw with n = 0 is refused are drained: by draws one by one, and by each item once.
use Prim.Native.Nat.{ℕ, zero, suc}
use mathlib.Core.Path.{◌≡◌, refl, ◌∙◌}
use mathlib.Core.List.{List, [], ◌∷◌}
use mathlib.Core.Option.{Option, some, bind}
use Rattle.laws.specs.Drawing.{Side, Drawn, Drawing, added, drawing, EachOnce, left_by_next, OneByOne, Drained}

module _ {S : Type 0} {Chosen Given Empty : S → Type 0} {len : S → ℕ} {items : S → List ℕ} {nth : Side → ℕ → S → Option (Drawn S)}
    (next : (side : Side) (r : S) → Chosen r → (d : Drawn S) × (nth side 0 r ≡ some d) × Chosen d.range)
    (one : OneByOne Given Empty len nth) (once : EachOnce items (λ side. nth side 0)) where
  left : (side : Side) (n : ℕ) (r : S) → Chosen r → (l : S) × (left_by_next (nth side 0) n r ≡ some l) × Chosen l
  unfolding left_by_next bind
  left side zero r h = (r, refl, h)
  left side (suc n) r h =
      let (d, e, g) = next side r h in
      let (l, f, k) = left side n d.range g in
      (l, rw e f, k)

  answered : (side : Side) (n : ℕ) (r : S) → Chosen r → (d : Drawn S) × (nth side n r ≡ some d) × Chosen d.range
  unfolding bind
  answered side n r h =
      let (l, f, k) = left side n r h in
      let (d, e, g) = next side l k in
      (d, one.as-next side n r ∙ rw f e, g)

  all : (sides : List Side) (r : S) → Chosen r → (d : Drawing S) × (drawing (λ side. nth side 0) sides r ≡ some d)
  unfolding drawing
  all [] r h = (_, refl)
  all (side ∷ sides) r h =
      let (e, f, g) = next side r h in
      let (d, k) = all sides e.range g in
      (added side e.item d, rw (f, k))

  pub drained : Drained Chosen items nth
  drained = record { answered = answered; drained = λ sides r h. let (d, k) = all sides r h in (d, k, once sides r d k) }
