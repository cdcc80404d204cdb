-- A draw of pages is refused 10 exactly where it meets the gap.
use Prim.Native.Nat.{ℕ, zero, suc, ◌+◌, ◌/◌, ◌-◌, ◌<◌}
use mathlib.Core.Path.{◌≡◌, refl}
use mathlib.Core.Bool.{Bool, true, false, cond}
use mathlib.Core.Option.{Option, none, some}
use native.Mathlib.Omega.{arith}
use borrow.Author.Tests.{lt-ltb, le-leb, ltb-true, leb-true}
use lib.Dec.{ltb, leb}
use Rattle.answer.specs.Outcome.{refuses}
use Rattle.answer.specs.Refusal.{draw_meets_gap}
use Rattle.laws.specs.Width.{half, first_high}
use Rattle.laws.specs.Draw as draw
use Rattle.laws.specs.Draw.{gap_front, gap_back}
use Rattle.laws.specs.Kind.{drawn_unless, item_answer}
use Rattle.laws.specs.Item.{first_refusal}
use Rattle.laws.proofs.Cases.{all_three}
use Rattle.laws.proofs.Item.{virt-items-number}
use Rattle.range.specs.Ranges.{made, made_inclusive}
use Rattle.page_draw.specs.Draws.{nth_below, nth_back_below, nth_through, nth_back_through}
use Rattle.page.specs.Page.{start, bytes}
use Rattle.page.specs.Range.{refusal, pages}
use Rattle.page.specs.Gap.{Exactly, GapFromFront, GapFromBack, meets_gap, RefusedAtGap}
use Rattle.page.specs.declared.page.Page.{Page}

-- a page or none is no refusal
not-refused : (x : Page) (i : Option ℕ) (k : ℕ) → item_answer pages x i ≡ refuses k → ⊥
not-refused x none k h = cc
not-refused x (some a) k h = cc

-- the answer of a draw, by the number of the range, below 10, and whether the draw meets the gap
module _ {R : Type 0} (made : Page → Page → R) (x y : Page) (d : draw.Draw) where
  pub told : (k : ℕ) (gap : Bool) → k < 10 → meets_gap (drawn_unless pages made x y (first_refusal k (cond gap draw_meets_gap 0)) d).answer → (k ≡ 0) × (gap ≡ true)
  told zero true l h = (refl, refl)
  told zero false l h = absurd (not-refused x d.item 10 h)
  told (suc k) gap l h = let q : suc k ≡ 10 = cc in absurd (omega arith)

  pub meets : (k : ℕ) (gap : Bool) → k ≡ 0 → gap ≡ true → meets_gap (drawn_unless pages made x y (first_refusal k (cond gap draw_meets_gap 0)) d).answer
  meets k gap e g = rw (e, g)

-- the conditions and the test
module _ (w : ℕ) (x y : Page) (n : ℕ) where
  from_front : (refusal w x y ≡ 0) × (gap_front w (start x) (start y) (bytes x) n ≡ true) → GapFromFront w x y n
  unfolding gap_front
  from_front h =
      let (u, (v, m)) = all_three (ltb (start x) (half w)) (leb (first_high w) (start y)) (leb ((half w - start x) / bytes x) (n + 1)) h.1 in
      record { given = h.0; start_low = ltb-true (start x) (half w) u; end_high = leb-true (first_high w) (start y) v; reached = leb-true ((half w - start x) / bytes x) (n + 1) m }

  at_front : GapFromFront w x y n → gap_front w (start x) (start y) (bytes x) n ≡ true
  unfolding gap_front
  at_front g = rw (lt-ltb (start x) (half w) g.start_low, le-leb (first_high w) (start y) g.end_high, le-leb ((half w - start x) / bytes x) (n + 1) g.reached)

  from_back : (refusal w x y ≡ 0) × (gap_back w (start x) (start y) (bytes x) n ≡ true) → GapFromBack w x y n
  unfolding gap_back
  from_back h =
      let (u, (v, m)) = all_three (leb (first_high w) (start y)) (ltb (start x) (half w)) (leb ((start y - first_high w) / bytes x) n) h.1 in
      record { given = h.0; start_low = ltb-true (start x) (half w) v; end_high = leb-true (first_high w) (start y) u; reached = leb-true ((start y - first_high w) / bytes x) n m }

  at_back : GapFromBack w x y n → gap_back w (start x) (start y) (bytes x) n ≡ true
  unfolding gap_back
  at_back g = rw (lt-ltb (start x) (half w) g.start_low, le-leb (first_high w) (start y) g.end_high, le-leb ((start y - first_high w) / bytes x) n g.reached)

  small : refusal w x y < 10
  small = virt-items-number w (start x) (bytes x) (start y) (bytes y)

  module _ {R : Type 0} (made : Page → Page → R) (d : draw.Draw) where
    pub exactly-front : Exactly (meets_gap (drawn_unless pages made x y (first_refusal (refusal w x y) (cond (gap_front w (start x) (start y) (bytes x) n) draw_meets_gap 0)) d).answer) (GapFromFront w x y n)
    exactly-front =
        let g = gap_front w (start x) (start y) (bytes x) n in
        ((λ h. from_front (told made x y d (refusal w x y) g small h)), (λ f. meets made x y d (refusal w x y) g f.given (at_front f)))

    pub exactly-back : Exactly (meets_gap (drawn_unless pages made x y (first_refusal (refusal w x y) (cond (gap_back w (start x) (start y) (bytes x) n) draw_meets_gap 0)) d).answer) (GapFromBack w x y n)
    exactly-back =
        let g = gap_back w (start x) (start y) (bytes x) n in
        ((λ h. from_back (told made x y d (refusal w x y) g small h)), (λ f. meets made x y d (refusal w x y) g f.given (at_back f)))

pub refused-at-gap : (w : ℕ) → RefusedAtGap w
refused-at-gap w =
    record {
      nth = λ r n. exactly-front w r.start r.end n made (nth_below w (start r.start) (bytes r.start) (start r.end) (bytes r.end) n).draw;
      nth-back = λ r n. exactly-back w r.start r.end n made (nth_back_below w (start r.start) (bytes r.start) (start r.end) (bytes r.end) n).draw;
      nth-inclusive = λ r n. exactly-front w r.start r.end n made_inclusive (nth_through w (start r.start) (bytes r.start) (start r.end) (bytes r.end) n).draw;
      nth-back-inclusive = λ r n. exactly-back w r.start r.end n made_inclusive (nth_back_through w (start r.start) (bytes r.start) (start r.end) (bytes r.end) n).draw;
    }
