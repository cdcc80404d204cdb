-- Draws that were answered before requests One and Three are answered as before.
use Prim.Native.Nat.{ℕ, zero, suc}
use mathlib.Core.Path.{◌≡◌, refl, ap, ◌∙◌}
use mathlib.Core.Bool.{Bool, true, false, cond}
use native.Mathlib.Decide.{ℕ_discrete}
use Rattle.answer.specs.Refusal.{draw_meets_gap}
use Rattle.laws.specs.Width.{InOneHalf, PageWidth}
use Rattle.laws.specs.Run.{pages_through}
use Rattle.laws.specs.Draw as draw
use Rattle.laws.specs.Draw.{gap_front, gap_back}
use Rattle.laws.specs.Before as before
use Rattle.laws.specs.Kind.{GuardedDraw, RangeDraw, drawn_unless}
use Rattle.laws.specs.Item.{first_refusal}
use Rattle.laws.proofs.Cases.{by_cases}
use Rattle.laws.proofs.Before.{front-as-before, back-as-before}
use Rattle.range.specs.Ranges as ranges
use Rattle.range.specs.Ranges.{made, made_inclusive}
use Rattle.range.specs.declared.range.Range.{Range}
use Rattle.range.specs.declared.range_inclusive.RangeInclusive.{RangeInclusive}
use Rattle.page_draw.proofs.Settled as numbers
use Rattle.page.specs.Page.{start, bytes}
use Rattle.page.specs.Range as now
use Rattle.page.specs.Range.{refusal, pages}
use Rattle.page.specs.Gap.{meets_gap}
use Rattle.page.specs.Before.{nth_of, nth_back_of, nth_inclusive_of, nth_back_inclusive_of, counted_through, counted_back_through, AsBefore, LengthChangesNoDraw}
use Rattle.page.specs.declared.page.Page.{Page}
use Rattle.page.proofs.Ranges.{accepted}
use Rattle.page.proofs.Gap.{meets}

-- a draw of a range from `x` to `y`, by the number that refuses the range, whether the draw meets the gap, and what it comes to
module _ {S : Type 0} (ends : Page → Page → S) (x y : Page) where
  abbrev answer : ℕ → Bool → draw.Draw → RangeDraw S
  answer k gap d = drawn_unless pages ends x y (first_refusal k (cond gap draw_meets_gap 0)) d

  -- a refused range whatever is drawn of it
  of-refused : (k : ℕ) (gap gap' : Bool) (d d' : draw.Draw) → (k ≡ 0 → ⊥) → answer k gap d ≡ answer k gap' d'
  of-refused zero gap gap' d d' n = absurd (n refl)
  of-refused (suc k) gap gap' d d' n = refl

  -- what it comes to matters only where nothing refuses it
  of-same : (k : ℕ) (gap : Bool) (d d' : draw.Draw) → (k ≡ 0 → gap ≡ false → d ≡ d') → answer k gap d ≡ answer k gap d'
  of-same zero true d d' h = refl
  of-same zero false d d' h = ap (λ (t : draw.Draw). answer zero false t) (h refl refl)
  of-same (suc k) gap d d' h = refl

  -- what was not refused 10 did not meet the gap
  no_gap : (d : draw.Draw) (k : ℕ) (gap : Bool) → k ≡ 0 → (meets_gap (answer k gap d).answer → ⊥) → gap ≡ false
  no_gap d k true e n = absurd (n (meets ends x y d k true e refl))
  no_gap d k false e n = refl

module _ (v : PageWidth) (r : Range Page) (n : ℕ) where
  nth : now.nth_of v.bits r n ≡ nth_of v.bits r n
  unfolding gap_front before.gap_front_below
  nth =
      of-same made r.start r.end (refusal v.bits r.start r.end) (gap_front v.bits (start r.start) (start r.end) (bytes r.start) n) _ _
      (λ e g. rw (numbers.front-alike v (start r.start) r.start.size (start r.end) r.end.size n e g).same)

  nth-back : now.nth_back_of v.bits r n ≡ nth_back_of v.bits r n
  unfolding gap_back before.gap_back_below
  nth-back =
      of-same made r.start r.end (refusal v.bits r.start r.end) (gap_back v.bits (start r.start) (start r.end) (bytes r.start) n) _ _
      (λ e g. rw (numbers.back-alike v (start r.start) r.start.size (start r.end) r.end.size n e g).same)

module _ (v : PageWidth) (r : RangeInclusive Page) (n : ℕ) where
  abbrev w : ℕ
  w = v.bits

  abbrev a : ℕ
  a = start r.start

  abbrev b : ℕ
  b = start r.end

  abbrev z : ℕ
  z = bytes r.start

  abbrev nth_inclusive : (ℕ → ℕ → ℕ → ℕ → ℕ → ℕ → GuardedDraw) → RangeDraw (RangeInclusive Page)
  nth_inclusive g = ranges.nth_inclusive_of pages (g w) r n

  -- as many pages are taken by either length
  same-inclusive : now.nth_inclusive_of w r n ≡ nth_inclusive counted_through
  same-inclusive = of-same made_inclusive r.start r.end (refusal w r.start r.end) (gap_front w a b z n) _ _ (λ e g. rw (numbers.front-through-alike v a r.start.size b r.end.size n e g).same)

  same-back-inclusive : now.nth_back_inclusive_of w r n ≡ nth_inclusive counted_back_through
  same-back-inclusive = of-same made_inclusive r.start r.end (refusal w r.start r.end) (gap_back w a b z n) _ _ (λ e g. rw (numbers.back-through-alike v a r.start.size b r.end.size n e g).same)

  as-inclusive : (InOneHalf w a b → meets_gap (nth_inclusive_of w r n).answer → ⊥) → now.nth_inclusive_of w r n ≡ nth_inclusive_of w r n
  as-inclusive h =
      same-inclusive
      ∙ by_cases (ℕ_discrete (refusal w r.start r.end) 0) given
      (λ m. of-refused made_inclusive r.start r.end (refusal w r.start r.end) (gap_front w a b z n) (before.gap_front_through w a b z n) _ _ m)
    where
      given : refusal w r.start r.end ≡ 0 → nth_inclusive counted_through ≡ nth_inclusive_of w r n
      given e =
          let l = pages_through w a b z in
          let old = draw.front_through l (draw.top_page z) a b z n in
          let (f, g) = front-as-before w z a b (accepted v r.start r.end e).ends l n (λ i. no_gap made_inclusive r.start r.end old (refusal w r.start r.end) (before.gap_front_through w a b z n) e (h i)) in
          rw (f, g)

  as-back-inclusive : (InOneHalf w a b → meets_gap (nth_back_inclusive_of w r n).answer → ⊥) → now.nth_back_inclusive_of w r n ≡ nth_back_inclusive_of w r n
  as-back-inclusive h =
      same-back-inclusive
      ∙ by_cases (ℕ_discrete (refusal w r.start r.end) 0) given
      (λ m. of-refused made_inclusive r.start r.end (refusal w r.start r.end) (gap_back w a b z n) (before.gap_back_through w a b z n) _ _ m)
    where
      given : refusal w r.start r.end ≡ 0 → nth_inclusive counted_back_through ≡ nth_back_inclusive_of w r n
      given e =
          let l = pages_through w a b z in
          let old = before.back_through l a b z n in
          let (f, g) = back-as-before w z a b (accepted v r.start r.end e).ends l n (λ i. no_gap made_inclusive r.start r.end old (refusal w r.start r.end) (before.gap_back_through w a b z n) e (h i)) in
          rw (f, g)

pub as_before : (v : PageWidth) → AsBefore v.bits
as_before v = record { nth = nth v; nth-back = nth-back v; nth-inclusive = as-inclusive v; nth-back-inclusive = as-back-inclusive v }

pub length-changes-no-draw : (v : PageWidth) → LengthChangesNoDraw v.bits
length-changes-no-draw v = record { nth-inclusive = same-inclusive v; nth-back-inclusive = same-back-inclusive v }
