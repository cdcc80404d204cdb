-- Pages drawn one by one, over the width: each of them once and in order, from either end or both, where no draw is refused; and a draw with n as n + 1 draws with n = 0.
use Prim.Native.Nat.{ℕ, zero, suc, ◌-◌, ◌%◌, ◌^◌, ◌≤◌, ◌<◌}
use mathlib.Core.Path.{◌≡◌, refl, sym, ◌∙◌}
use mathlib.Core.Bool.{Bool, true, false, cond}
use mathlib.Core.List.{List, reverse}
use mathlib.Core.Option.{some}
use native.Mathlib.Omega.{arith}
use native.Mathlib.Nat.{zero-mod, le_of_lt}
use borrow.Author.Tests.{eq-eqb}
use lib.ListN.{get_elem?, drop}
use Rattle.answer.specs.Refusal.{draw_meets_gap}
use Rattle.laws.specs.Width.{half, first_high, PageWidth}
use Rattle.laws.specs.Run.{len_below, len_through, below, through, pages_below, pages_through, page_len_below, page_len_through}
use Rattle.laws.specs.Draw as draw
use Rattle.laws.specs.Drawing.{Side, front, back, Drawn, EachOnce, OneByOne}
use Rattle.laws.proofs.Width.{canonical-halves}
use Rattle.laws.proofs.Align.{top-whole}
use Rattle.laws.proofs.Run.{below_none, through-none}
use Rattle.laws.proofs.Draw.{front-below-start}
use Rattle.laws.proofs.Gap.{PageEnds, high-whole, front_below, back_below, front-through, back-through}
use Rattle.laws.proofs.Halves.{by_start, by_end, top-low, top-high, top-over, top-within, bottom-high, bottom-over, bottom-zero}
use Rattle.laws.proofs.After.{Stepwise, front-below-steps, back-below-steps}
use Rattle.laws.proofs.Kept as kept
use Rattle.laws.proofs.PagesLeft as left
use Rattle.laws.proofs.PagesLeft.{pages-front-left, pages-back-left, pages-front-through-left, pages-back-through-left}
use Rattle.laws.proofs.Ranges.{Items, Ends, Facts, drawn_at, settled}
use Rattle.laws.proofs.Drawing.{each-once}
use Rattle.laws.proofs.OneByOne.{Settled, settled as settled_is, one_by_one, other_length}
use Rattle.table.specs.Level.{power_of}
use Rattle.table.proofs.Sizes.{bounds}
use Rattle.range.specs.Ranges.{made, made_inclusive}
use Rattle.range.specs.declared.range.Range.{Range}
use Rattle.range.specs.declared.range_inclusive.RangeInclusive.{RangeInclusive}
use Rattle.laws.specs.Item.{first_refusal, item_refusal, items_refusal}
use Rattle.page.specs.Page.{start, bytes, page_at}
use Rattle.page.specs.Range.{refusal, pages, pages_of, pages_inclusive_of, IsAccepted, IsAcceptedInclusive, IsEmpty, IsEmptyInclusive, len, len_inclusive, nth_from, nth_inclusive_from, next_from, next_inclusive_from}
use Rattle.page.specs.declared.page.Page.{Page}
use Rattle.page_draw.proofs.Settled as numbers
use Rattle.page.proofs.Ranges as ranges

items : Items pages
items = record { start_of = λ x a. refl; bytes_of = λ x a. refl; again = λ x a b. refl; same = λ x. refl }

passed : (k : ℕ) (gap : Bool) → first_refusal k (cond gap draw_meets_gap 0) ≡ 0 → (k ≡ 0) × (gap ≡ false)
passed zero true h = absurd (omega arith)
passed zero false h = (refl, refl)
passed (suc k) true h = absurd (omega arith)
passed (suc k) false h = absurd (omega arith)

-- the numbers that a draw leaves, where it does not meet the gap: both of pages
pub record Pages (w z : ℕ) (d : draw.Draw) : Type 0 where
  pub start-below : d.start < 2 ^ 64
  pub end_below : d.end < 2 ^ 64
  pub start-half : half w ≤ d.start → first_high w ≤ d.start
  pub end-half : half w ≤ d.end → first_high w ≤ d.end
  pub multiples : kept.Multiples z d

pub accepted-left : (v : PageWidth) (x y : Page) (d : draw.Draw) → refusal v.bits x y ≡ 0 → Pages v.bits (bytes x) d → refusal v.bits (page_at x.size d.start) (page_at y.size d.end) ≡ 0
unfolding items_refusal item_refusal
accepted-left v x y d e p =
    let k = ranges.accepted v x y e in
    let w = v.bits in
    simp (
      canonical-halves w v.width d.start p.start-below p.start-half,
      canonical-halves w v.width d.end p.end_below p.end-half,
      eq-eqb (d.start % bytes x) 0 p.multiples.start,
      eq-eqb (d.end % bytes y) 0 (rw (← k.same) p.multiples.end),
      eq-eqb (bytes x) (bytes y) k.same,
    )

-- the draws on numbers, by the size
abbrev pub on_front : ℕ → ℕ → ℕ → ℕ → draw.Draw
on_front z a b n = draw.front_below (below a b z) a b z n

abbrev pub on_back : ℕ → ℕ → ℕ → ℕ → draw.Draw
on_back z a b n = draw.back_below (below a b z) a b z n

abbrev pub on_front_inclusive : ℕ → ℕ → ℕ → ℕ → ℕ → draw.Draw
on_front_inclusive w z a b n = draw.front_through (through a b z) (draw.top_of w a b z) a b z n

abbrev pub on_back_inclusive : ℕ → ℕ → ℕ → ℕ → ℕ → draw.Draw
on_back_inclusive w z a b n = draw.back_through (through a b z) (draw.bottom_of w a b) a b z n

module _ (v : PageWidth) (x y : Page) (e : refusal v.bits x y ≡ 0) where
  abbrev pub w : ℕ
  w = v.bits

  abbrev ends_of : PageEnds w (bytes x) (start x) (start y)
  ends_of = (ranges.accepted v x y e).ends

  pub front-pages : draw.gap_front w (start x) (start y) (bytes x) 0 ≡ false → Pages w (bytes x) (on_front (bytes x) (start x) (start y) 0)
  front-pages g =
      let a = ranges.accepted v x y e in
      record {
        start-below = omega (arith, front-below-start (below (start x) (start y) (bytes x)) (start x) (start y) (bytes x) 0, a.ends.first, a.ends.last, a.ends.some);
        end_below = omega (arith, a.ends.last, a.ends.some);
        start-half = kept.front-below-half w (bytes x) (start x) (start y) a.ends g;
        end-half = a.ends.high_end;
        multiples = kept.front-below-multiples (below (start x) (start y) (bytes x)) (start x) (start y) (bytes x) 0 a.whole a.last-whole;
      }

  pub back-pages : draw.gap_back w (start x) (start y) (bytes x) 0 ≡ false → Pages w (bytes x) (on_back (bytes x) (start x) (start y) 0)
  back-pages g =
      let a = ranges.accepted v x y e in
      record {
        start-below = omega (arith, a.ends.first, a.ends.some);
        end_below = omega (arith, a.ends.last, a.ends.some);
        start-half = a.ends.high-start;
        end-half = kept.back-below-half w (bytes x) (start x) (start y) a.ends g;
        multiples = kept.back-below-multiples (below (start x) (start y) (bytes x)) (start x) (start y) (bytes x) 0 a.whole a.last-whole;
      }

  -- the pages to which inclusive ranges are drawn
  top_multiple : draw.top_of w (start x) (start y) (bytes x) % bytes x ≡ 0
  top_multiple =
      by_start ends_of (λ h k. rw (top-low w (start x) (start y) (bytes x) h k) low) (λ h k. rw (top-over w (start x) (start y) (bytes x) (omega (arith, ends_of.halves))) top)
      (λ h. rw (top-high w (start x) (start y) (bytes x) (omega (arith, ends_of.halves))) top)
    where
      top : draw.top_page (bytes x) % bytes x ≡ 0
      top = top-whole (power_of x.size) 64 (omega (arith, bounds x.size))

      low : (half w - bytes x) % bytes x ≡ 0
      low = top-whole (power_of x.size) (w - 1) (omega (arith, bounds x.size, v.wide))

  bottom-multiple : draw.bottom_of w (start x) (start y) % bytes x ≡ 0
  bottom-multiple =
      by_end ends_of (λ k. rw (bottom-zero w (start x) (start y) (omega (arith, ends_of.halves))) (zero-mod (bytes x)))
      (λ h k. rw (bottom-over w (start x) (start y) (omega (arith, ends_of.halves))) (zero-mod (bytes x)))
      (λ h k. rw (bottom-high w (start x) (start y) h k) (high-whole w (power_of x.size) v.width (omega (arith, bounds x.size, v.wide))))

  pub front-inclusive-pages : draw.gap_front w (start x) (start y) (bytes x) 0 ≡ false → Pages w (bytes x) (on_front_inclusive w (bytes x) (start x) (start y) 0)
  front-inclusive-pages g =
      let a = ranges.accepted v x y e in
      let l = through (start x) (start y) (bytes x) in
      let h = kept.front-through-half w (bytes x) (start x) (start y) a.ends l g in
      let t = top-within w (bytes x) (start x) (start y) a.ends in
      let p = a.ends.some in
      record {
        start-below = omega (arith, left.front-start-top w (bytes x) (start x) (start y) a.ends l 0);
        end_below = omega (arith, left.front-end-top w (bytes x) (start x) (start y) a.ends l 0);
        start-half = h.0;
        end-half = h.1;
        multiples = kept.front-through-multiples l (start x) (start y) (bytes x) 0 a.whole a.last-whole (draw.top_of w (start x) (start y) (bytes x)) top_multiple;
      }

  pub back-inclusive-pages : draw.gap_back w (start x) (start y) (bytes x) 0 ≡ false → Pages w (bytes x) (on_back_inclusive w (bytes x) (start x) (start y) 0)
  back-inclusive-pages g =
      let a = ranges.accepted v x y e in
      let l = through (start x) (start y) (bytes x) in
      let h = kept.back-through-half w (bytes x) (start x) (start y) a.ends l g in
      let p = a.ends.some in
      record {
        start-below = omega (arith, left.back-start-top w (bytes x) (start x) (start y) a.ends l 0);
        end_below = omega (arith, left.back_end w (bytes x) (start x) (start y) a.ends l 0, a.ends.last);
        start-half = h.0;
        end-half = h.1;
        multiples = kept.back-through-multiples l (start x) (start y) (bytes x) 0 a.whole a.last-whole (draw.bottom_of w (start x) (start y)) bottom-multiple;
      }

-- the number that refuses a draw, and where it is 0
abbrev number : ℕ → (ℕ → ℕ → ℕ → ℕ → ℕ → Bool) → ℕ → Page → Page → ℕ
number w gap n x y = first_refusal (refusal w x y) (cond (gap w (start x) (start y) (bytes x) n) draw_meets_gap 0)

abbrev pub Free : ℕ → (ℕ → ℕ → ℕ → ℕ → ℕ → Bool) → ℕ → Page → Page → Type 0
Free w gap n x y = (refusal w x y ≡ 0) × (gap w (start x) (start y) (bytes x) n ≡ false)

-- a draw with the pages of the range, `made`, is the draw on its numbers, `on`
abbrev PageFacts : ℕ → (Page → Page → Type 0) → (ℕ → ℕ → ℕ → ℕ) → (ℕ → ℕ → ℕ → ℕ → ℕ → Bool) → (ℕ → ℕ → ℕ → ℕ → draw.Draw) → (ℕ → ℕ → ℕ → ℕ → draw.Draw) → Type 0
PageFacts w Empty len gap made on =
    Facts pages len (λ x y. refusal w x y ≡ 0) Empty (Free w gap) (number w gap) (λ n x y. made (bytes x) (start x) (start y) n) on

module _ (v : PageWidth) (Empty : Page → Page → Type 0) (len : ℕ → ℕ → ℕ → ℕ) (gap : ℕ → ℕ → ℕ → ℕ → ℕ → Bool) (made on : ℕ → ℕ → ℕ → ℕ → draw.Draw)
    (same : (x y : Page) (n : ℕ) → refusal v.bits x y ≡ 0 → gap v.bits (start x) (start y) (bytes x) n ≡ false → made (bytes x) (start x) (start y) n ≡ on (bytes x) (start x) (start y) n)
    (steps : (z a b : ℕ) → PageEnds v.bits z a b → Stepwise (len a b z) (on z) a b)
    (pages-left : (x y : Page) → refusal v.bits x y ≡ 0 → gap v.bits (start x) (start y) (bytes x) 0 ≡ false → Pages v.bits (bytes x) (on (bytes x) (start x) (start y) 0))
    (gap-after : (x y : Page) (n : ℕ) → refusal v.bits x y ≡ 0 → gap v.bits (start x) (start y) (bytes x) 0 ≡ false
    → gap v.bits (on (bytes x) (start x) (start y) 0).start (on (bytes x) (start x) (start y) 0).end (bytes x) n ≡ gap v.bits (start x) (start y) (bytes x) (suc n))
    (gap-first : (x y : Page) (n : ℕ) → gap v.bits (start x) (start y) (bytes x) (suc n) ≡ false → gap v.bits (start x) (start y) (bytes x) 0 ≡ false)
    (empty-len : (x y : Page) → Empty x y → len (start x) (start y) (bytes x) ≡ 0)
    (empty-gap : (x y : Page) (n : ℕ) → PageEnds v.bits (bytes x) (start x) (start y) → Empty x y → gap v.bits (start x) (start y) (bytes x) n ≡ false) where
  facts : PageFacts v.bits Empty len gap made on
  facts =
      record {
        no_number = λ n x y f. let (g, h) = f in simp (g, h);
        free = λ n x y h. passed (refusal v.bits x y) (gap v.bits (start x) (start y) (bytes x) n) h;
        given = λ n x y f. f.0;
        by-numbers = λ n x y f. same x y n f.0 f.1;
        steps = λ x y g. steps (bytes x) (start x) (start y) (ranges.accepted v x y g).ends;
        after = λ n x y f h. (f.0, sym (gap-after x y n f.0 f.1) ∙ h.1);
        before = λ n x y f.
            let u = gap-first x y n f.1 in
            ((f.0, u), (accepted-left v x y (on (bytes x) (start x) (start y) 0) f.0 (pages-left x y f.0 u), gap-after x y n f.0 u ∙ f.1));
        empty-len = empty-len;
        empty-free = λ n x y g h. (g, empty-gap x y n (ranges.accepted v x y g).ends h);
      }

abbrev EmptyBelow : Page → Page → Type 0
EmptyBelow x y = start y ≤ start x

abbrev EmptyThrough : Page → Page → Type 0
EmptyThrough x y = start y < start x

none_below : (x y : Page) → EmptyBelow x y → len_below (start x) (start y) (bytes x) ≡ 0
none_below x y h = below_none (start x) (start y) (bytes x) h

none-through : (x y : Page) → EmptyThrough x y → len_through (start x) (start y) (bytes x) ≡ 0
none-through x y h = through-none (start x) (start y) (bytes x) h

-- the facts of the four draws
module _ (v : PageWidth) where
  front-facts : PageFacts v.bits EmptyBelow len_below draw.gap_front (λ z a b n. draw.front_of (pages_below v.bits a b z) (page_len_below v.bits a b z) a b z n) on_front
  front-facts =
      facts v EmptyBelow len_below draw.gap_front (λ z a b n. draw.front_of (pages_below v.bits a b z) (page_len_below v.bits a b z) a b z n) on_front
      (λ x y n e g. rw (front_below v.bits (bytes x) (start x) (start y) (ranges.accepted v x y e).ends n g, (numbers.front-alike v (start x) x.size (start y) y.size n e g).same))
      (λ z a b p. front-below-steps z a b p.some)
      (front-pages v)
      (λ x y n e g. kept.front-below-gap v.bits (bytes x) (start x) (start y) (ranges.accepted v x y e).ends g n)
      (λ x y n g. kept.front-first v.bits (bytes x) (start x) (start y) n g)
      none_below
      (λ x y n p h. kept.front-none v.bits (bytes x) (start x) (start y) n p h)

  back-facts : PageFacts v.bits EmptyBelow len_below draw.gap_back (λ z a b n. draw.back_of (pages_below v.bits a b z) (page_len_below v.bits a b z) a b z n) on_back
  back-facts =
      facts v EmptyBelow len_below draw.gap_back (λ z a b n. draw.back_of (pages_below v.bits a b z) (page_len_below v.bits a b z) a b z n) on_back
      (λ x y n e g. rw (back_below v.bits (bytes x) (start x) (start y) (ranges.accepted v x y e).ends n g, (numbers.back-alike v (start x) x.size (start y) y.size n e g).same))
      (λ z a b p. back-below-steps z a b p.some)
      (back-pages v)
      (λ x y n e g. kept.back-below-gap v.bits (bytes x) (start x) (start y) (ranges.accepted v x y e).ends g n)
      (λ x y n g. kept.back-first v.bits (bytes x) (start x) (start y) n g)
      none_below
      (λ x y n p h. kept.back-none v.bits (bytes x) (start x) (start y) n p h)

  front-inclusive-facts : PageFacts v.bits EmptyThrough len_through draw.gap_front (λ z a b n. draw.front_inclusive_of (pages_through v.bits a b z) (page_len_through v.bits a b z) (draw.top_of v.bits a b z) a b z n) (on_front_inclusive v.bits)
  front-inclusive-facts =
      facts v EmptyThrough len_through draw.gap_front (λ z a b n. draw.front_inclusive_of (pages_through v.bits a b z) (page_len_through v.bits a b z) (draw.top_of v.bits a b z) a b z n) (on_front_inclusive v.bits)
      (λ x y n e g. rw (front-through v.bits (bytes x) (start x) (start y) (ranges.accepted v x y e).ends n g, (numbers.front-through-alike v (start x) x.size (start y) y.size n e g).same))
      (left.page-front-steps v.bits)
      (front-inclusive-pages v)
      (λ x y n e g. kept.front-through-gap v.bits (bytes x) (start x) (start y) (ranges.accepted v x y e).ends (through (start x) (start y) (bytes x)) g n)
      (λ x y n g. kept.front-first v.bits (bytes x) (start x) (start y) n g)
      none-through
      (λ x y n p h. kept.front-none v.bits (bytes x) (start x) (start y) n p (le_of_lt h))

  back-inclusive-facts : PageFacts v.bits EmptyThrough len_through draw.gap_back (λ z a b n. draw.back_inclusive_of (pages_through v.bits a b z) (page_len_through v.bits a b z) (draw.bottom_of v.bits a b) a b z n) (on_back_inclusive v.bits)
  back-inclusive-facts =
      facts v EmptyThrough len_through draw.gap_back (λ z a b n. draw.back_inclusive_of (pages_through v.bits a b z) (page_len_through v.bits a b z) (draw.bottom_of v.bits a b) a b z n) (on_back_inclusive v.bits)
      (λ x y n e g. rw (back-through v.bits (bytes x) (start x) (start y) (ranges.accepted v x y e).ends n g, (numbers.back-through-alike v (start x) x.size (start y) y.size n e g).same))
      (left.page-back-steps v.bits)
      (back-inclusive-pages v)
      (λ x y n e g. kept.back-through-gap v.bits (bytes x) (start x) (start y) (ranges.accepted v x y e).ends (through (start x) (start y) (bytes x)) g n)
      (λ x y n g. kept.back-first v.bits (bytes x) (start x) (start y) n g)
      none-through
      (λ x y n p h. kept.back-none v.bits (bytes x) (start x) (start y) n p (le_of_lt h))

-- ranges by their ends
ends : Ends {P = Page} made (λ r. r.start) (λ r. r.end)
ends = record { first_of = λ x y. refl; last_of = λ x y. refl; ends_of = λ r. refl }

ends_inclusive : Ends {P = Page} made_inclusive (λ r. r.start) (λ r. r.end)
ends_inclusive = record { first_of = λ x y. refl; last_of = λ x y. refl; ends_of = λ r. refl }

-- what each draw gives and leaves, and where it is not refused
abbrev pub out : Side → ℕ → Range Page → Drawn (Range Page)
out front n r = drawn_at pages made r.start r.end (ranges.front r.start r.end n (ranges.numbers_in r.start r.end))
out back n r = drawn_at pages made r.start r.end (ranges.back r.start r.end n (ranges.numbers_in r.start r.end))

abbrev pub out_inclusive : ℕ → Side → ℕ → RangeInclusive Page → Drawn (RangeInclusive Page)
out_inclusive w front n r = drawn_at pages made_inclusive r.start r.end (ranges.front_inclusive w r.start r.end n (ranges.numbers_inclusive_in r.start r.end))
out_inclusive w back n r = drawn_at pages made_inclusive r.start r.end (ranges.back_inclusive w r.start r.end n (ranges.numbers_inclusive_in r.start r.end))

abbrev IsFree : ℕ → Side → ℕ → Range Page → Type 0
IsFree w front n r = Free w draw.gap_front n r.start r.end
IsFree w back n r = Free w draw.gap_back n r.start r.end

abbrev IsFreeInclusive : ℕ → Side → ℕ → RangeInclusive Page → Type 0
IsFreeInclusive w front n r = Free w draw.gap_front n r.start r.end
IsFreeInclusive w back n r = Free w draw.gap_back n r.start r.end

pub given-range : (v : PageWidth) (side : Side) → Settled (IsAccepted v.bits) IsEmpty ranges.numbers_len (IsFree v.bits side) (out side) (nth_from v.bits side)
given-range v front = settled items ends (front-facts v)
given-range v back = settled items ends (back-facts v)

pub given-inclusive : (v : PageWidth) (side : Side) → Settled (IsAcceptedInclusive v.bits) IsEmptyInclusive ranges.numbers_len_inclusive (IsFreeInclusive v.bits side) (out_inclusive v.bits side) (nth_inclusive_from v.bits side)
given-inclusive v front = settled items ends_inclusive (front-inclusive-facts v)
given-inclusive v back = settled items ends_inclusive (back-inclusive-facts v)

-- where a draw past the last page is not refused, the range has no gap to count
past-same : (v : PageWidth) (side : Side) (n : ℕ) (r : Range Page) (d : Drawn (Range Page)) → len v.bits r ≤ n → nth_from v.bits side n r ≡ some d → len v.bits r ≡ ranges.numbers_len r
past-same v front n r d l h = let (e, g) = (given-range v front).free n r d h in (numbers.front-alike v (start r.start) r.start.size (start r.end) r.end.size n e g).past l
past-same v back n r d l h = let (e, g) = (given-range v back).free n r d h in (numbers.back-alike v (start r.start) r.start.size (start r.end) r.end.size n e g).past l

past-same-inclusive : (v : PageWidth) (side : Side) (n : ℕ) (r : RangeInclusive Page) (d : Drawn (RangeInclusive Page)) → len_inclusive v.bits r ≤ n → nth_inclusive_from v.bits side n r ≡ some d
    → len_inclusive v.bits r ≡ ranges.numbers_len_inclusive r
past-same-inclusive v front n r d l h = let (e, g) = (given-inclusive v front).free n r d h in (numbers.front-through-alike v (start r.start) r.start.size (start r.end) r.end.size n e g).past l
past-same-inclusive v back n r d l h = let (e, g) = (given-inclusive v back).free n r d h in (numbers.back-through-alike v (start r.start) r.start.size (start r.end) r.end.size n e g).past l

-- a draw with n as n + 1 draws with n = 0
pub pages-one-by-one : (v : PageWidth) → OneByOne (IsAccepted v.bits) IsEmpty (len v.bits) (nth_from v.bits)
pages-one-by-one v = other_length (past-same v) (one_by_one (given-range v))

pub pages-inclusive-one-by-one : (v : PageWidth) → OneByOne (IsAcceptedInclusive v.bits) IsEmptyInclusive (len_inclusive v.bits) (nth_inclusive_from v.bits)
pages-inclusive-one-by-one v = other_length (past-same-inclusive v) (one_by_one (given-inclusive v))

-- each page once
module _ (v : PageWidth) (r : Range Page) (d : Drawn (Range Page)) where
  front-drawn : next_from v.bits front r ≡ some d → (d.item ≡ get_elem? (pages_of v.bits r) 0) × (pages_of v.bits d.range ≡ drop 1 (pages_of v.bits r))
  front-drawn h =
      let q = settled_is (given-range v front) 0 r d h in
      let (e, g) = (given-range v front).free 0 r d h in
      let p = (ranges.accepted v r.start r.end e).ends in
      rw q (sym (front_below v.bits (bytes r.start) (start r.start) (start r.end) p 0 g), pages-front-left v.bits (bytes r.start) (start r.start) (start r.end) p 0 g)

  back-drawn : next_from v.bits back r ≡ some d → (d.item ≡ get_elem? (reverse (pages_of v.bits r)) 0) × (reverse (pages_of v.bits d.range) ≡ drop 1 (reverse (pages_of v.bits r)))
  back-drawn h =
      let q = settled_is (given-range v back) 0 r d h in
      let (e, g) = (given-range v back).free 0 r d h in
      let p = (ranges.accepted v r.start r.end e).ends in
      rw q (sym (back_below v.bits (bytes r.start) (start r.start) (start r.end) p 0 g), pages-back-left v.bits (bytes r.start) (start r.start) (start r.end) p 0 g)

module _ (v : PageWidth) (r : RangeInclusive Page) (d : Drawn (RangeInclusive Page)) where
  abbrev all : List ℕ
  all = ranges.numbers_inclusive_in r.start r.end

  front-inclusive-drawn : next_inclusive_from v.bits front r ≡ some d → (d.item ≡ get_elem? (pages_inclusive_of v.bits r) 0) × (pages_inclusive_of v.bits d.range ≡ drop 1 (pages_inclusive_of v.bits r))
  front-inclusive-drawn h =
      let q = settled_is (given-inclusive v front) 0 r d h in
      let (e, g) = (given-inclusive v front).free 0 r d h in
      let a = ranges.accepted v r.start r.end e in
      rw q (
        sym (front-through v.bits (bytes r.start) (start r.start) (start r.end) a.ends 0 g),
        pages-front-through-left v.bits (bytes r.start) (start r.start) (start r.end) a.ends all 0 g,
      )

  back-inclusive-drawn : next_inclusive_from v.bits back r ≡ some d → (d.item ≡ get_elem? (reverse (pages_inclusive_of v.bits r)) 0) × (reverse (pages_inclusive_of v.bits d.range) ≡ drop 1 (reverse (pages_inclusive_of v.bits r)))
  back-inclusive-drawn h =
      let q = settled_is (given-inclusive v back) 0 r d h in
      let (e, g) = (given-inclusive v back).free 0 r d h in
      let a = ranges.accepted v r.start r.end e in
      rw q (
        sym (back-through v.bits (bytes r.start) (start r.start) (start r.end) a.ends 0 g),
        pages-back-through-left v.bits (bytes r.start) (start r.start) (start r.end) a.ends all 0 g,
      )

pub pages-once : (v : PageWidth) → EachOnce (pages_of v.bits) (next_from v.bits)
pages-once v = each-once (pages_of v.bits) (next_from v.bits) (record { from_front = front-drawn v; from_back = back-drawn v })

pub pages-inclusive-once : (v : PageWidth) → EachOnce (pages_inclusive_of v.bits) (next_inclusive_from v.bits)
pages-inclusive-once v =
    each-once (pages_inclusive_of v.bits) (next_inclusive_from v.bits) (record { from_front = front-inclusive-drawn v; from_back = back-inclusive-drawn v })
