-- Frames drawn one by one: each of them once and in order, from either end or both, where no draw is refused; and a draw with n as n + 1 draws with n = 0.
use Prim.Native.Nat.{ℕ, zero, suc, ◌%◌, ◌^◌, ◌≤◌, ◌<◌}
use mathlib.Core.Path.{◌≡◌, refl}
use mathlib.Core.Bool.{Bool, false}
use mathlib.Core.List.{reverse}
use mathlib.Core.Option.{some}
use native.Mathlib.Omega.{arith}
use native.Mathlib.Nat.{zero-mod}
use borrow.Author.Tests.{lt-ltb, eq-eqb}
use lib.ListN.{get_elem?, drop}
use Rattle.laws.specs.Run.{len_below, len_through, below, through}
use Rattle.laws.specs.Draw as draw
use Rattle.laws.specs.Drawing.{Side, front, back, Drawn, EachOnce, OneByOne}
use Rattle.laws.proofs.Run.{below_none, through-none}
use Rattle.laws.proofs.After.{Stepwise, front-below-steps, back-below-steps, front-through-steps, back-through-steps}
use Rattle.laws.proofs.Kept.{Multiples, front-below-multiples, back-below-multiples, front-through-multiples, back-through-multiples}
use Rattle.laws.proofs.Align.{top-whole}
use Rattle.laws.proofs.Ranges.{Items, Ends, Facts, drawn_at, settled}
use Rattle.laws.proofs.Left.{front-below-left, back-below-left, front-through-left, back-through-left}
use Rattle.laws.proofs.Drawing.{each-once}
use Rattle.laws.proofs.OneByOne.{Settled, settled as settled_is, one_by_one}
use Rattle.laws.specs.Item.{first_refusal, item_refusal, items_refusal}
use Rattle.table.specs.Level.{power_of}
use Rattle.table.proofs.Sizes.{bounds}
use Rattle.range.specs.Ranges.{made, made_inclusive}
use Rattle.range.specs.declared.range.Range.{Range}
use Rattle.range.specs.declared.range_inclusive.RangeInclusive.{RangeInclusive}
use Rattle.frame.specs.Frame.{start, bytes, frame_at}
use Rattle.frame.specs.Range.{top_frame, refusal, leaves_memory, frames, nth_below, nth_back_below, nth_through, nth_back_through, frames_of, frames_inclusive_of, IsAccepted, IsAcceptedInclusive, IsEmpty, IsEmptyInclusive, len, len_inclusive, nth_from, nth_inclusive_from, next_from, next_inclusive_from}
use Rattle.frame.specs.declared.frame.PhysFrame.{PhysFrame}
use Rattle.frame.proofs.Ranges as ranges

first-passed : (k m : ℕ) → first_refusal k m ≡ 0 → k ≡ 0
first-passed zero m h = refl
first-passed (suc k) m h = h

-- what a draw leaves of an accepted range is accepted
accepted-left : (x y : PhysFrame) (under : Bool) (d : draw.Draw) → refusal x y ≡ 0 → ranges.Inside under d → Multiples (bytes x) d
    → refusal (frame_at x.size d.start) (frame_at y.size d.end) ≡ 0
unfolding items_refusal item_refusal
accepted-left x y under d e i m =
    let k = ranges.accepted_frames x y e in
    simp (
      lt-ltb d.start (2 ^ 52) i.start,
      lt-ltb d.end (2 ^ 52) i.end,
      eq-eqb (d.start % bytes x) 0 m.start,
      eq-eqb (d.end % bytes y) 0 (rw (← k.same) m.end),
      eq-eqb (bytes x) (bytes y) k.same,
    )

items : Items frames
items = record { start_of = λ x a. refl; bytes_of = λ x a. refl; again = λ x a b. refl; same = λ x. refl }

-- the draws on numbers, by the size
abbrev on_front : ℕ → ℕ → ℕ → ℕ → draw.Draw
on_front z a b n = draw.front_below (below a b z) a b z n

abbrev on_back : ℕ → ℕ → ℕ → ℕ → draw.Draw
on_back z a b n = draw.back_below (below a b z) a b z n

abbrev on_front_inclusive : ℕ → ℕ → ℕ → ℕ → draw.Draw
on_front_inclusive z a b n = draw.front_through (through a b z) (top_frame z) a b z n

abbrev on_back_inclusive : ℕ → ℕ → ℕ → ℕ → draw.Draw
on_back_inclusive z a b n = draw.back_through (through a b z) 0 a b z n

-- the number that refuses a draw, and the facts of a draw on numbers
abbrev number : (ℕ → ℕ → ℕ → ℕ → Bool) → (ℕ → ℕ → ℕ → ℕ → draw.Draw) → ℕ → PhysFrame → PhysFrame → ℕ
number under on n x y = first_refusal (refusal x y) (leaves_memory (under (bytes x) (start x) (start y) n) (on (bytes x) (start x) (start y) n))

abbrev FrameFacts : (PhysFrame → PhysFrame → Type 0) → (ℕ → ℕ → ℕ → ℕ) → (ℕ → ℕ → ℕ → ℕ → Bool) → (ℕ → ℕ → ℕ → ℕ → draw.Draw) → Type 0
FrameFacts Empty len under on =
    Facts frames len (λ x y. refusal x y ≡ 0) Empty (λ n x y. refusal x y ≡ 0) (number under on) (λ n x y. on (bytes x) (start x) (start y) n) on

top_multiple : (x : PhysFrame) → top_frame (bytes x) % bytes x ≡ 0
top_multiple x = top-whole (power_of x.size) 52 (omega (arith, bounds x.size))

module _ (Empty : PhysFrame → PhysFrame → Type 0) (len : ℕ → ℕ → ℕ → ℕ) (under : ℕ → ℕ → ℕ → ℕ → Bool) (on : ℕ → ℕ → ℕ → ℕ → draw.Draw)
    (steps : (z a b : ℕ) → 0 < z → z ≤ top_frame z → a ≤ top_frame z → b ≤ top_frame z → Stepwise (len a b z) (on z) a b)
    (inside : (x y : PhysFrame) (n : ℕ) → refusal x y ≡ 0 → ranges.Inside (under (bytes x) (start x) (start y) n) (on (bytes x) (start x) (start y) n))
    (multiples : (z a b : ℕ) → a % z ≡ 0 → b % z ≡ 0 → top_frame z % z ≡ 0 → Multiples z (on z a b 0))
    (empty-len : (x y : PhysFrame) → Empty x y → len (start x) (start y) (bytes x) ≡ 0) where
  facts : FrameFacts Empty len under on
  facts =
      record {
        no_number = λ n x y g. ranges.no_number (start x) x.size (start y) y.size (under (bytes x) (start x) (start y) n) (on (bytes x) (start x) (start y) n) g (inside x y n g);
        free = λ n x y h. first-passed (refusal x y) (leaves_memory (under (bytes x) (start x) (start y) n) (on (bytes x) (start x) (start y) n)) h;
        given = λ n x y g. g;
        by-numbers = λ n x y g. refl;
        steps = λ x y g. let a = ranges.accepted_frames x y g in steps (bytes x) (start x) (start y) a.some (omega arith) (omega arith) (omega arith);
        after = λ n x y g h. g;
        before = λ n x y g. let a = ranges.accepted_frames x y g in
            (g, accepted-left x y (under (bytes x) (start x) (start y) 0) (on (bytes x) (start x) (start y) 0) g (inside x y 0 g) (multiples (bytes x) (start x) (start y) a.whole a.last-whole (top_multiple x)));
        empty-len = empty-len;
        empty-free = λ n x y g h. g;
      }

-- the facts of the four draws
abbrev EmptyBelow : PhysFrame → PhysFrame → Type 0
EmptyBelow x y = start y ≤ start x

abbrev EmptyThrough : PhysFrame → PhysFrame → Type 0
EmptyThrough x y = start y < start x

none_below : (x y : PhysFrame) → EmptyBelow x y → len_below (start x) (start y) (bytes x) ≡ 0
none_below x y h = below_none (start x) (start y) (bytes x) h

none-through : (x y : PhysFrame) → EmptyThrough x y → len_through (start x) (start y) (bytes x) ≡ 0
none-through x y h = through-none (start x) (start y) (bytes x) h

abbrev over : ℕ → ℕ → ℕ → ℕ → Bool
over z a b n = false

front-facts : FrameFacts EmptyBelow len_below over on_front
front-facts =
    facts EmptyBelow len_below over on_front (λ z a b p st ha hb. front-below-steps z a b p) (λ x y. ranges.front-inside (start x) x.size (start y) y.size) (λ z a b u v t. front-below-multiples (below a b z) a b z 0 u v) none_below

back-facts : FrameFacts EmptyBelow len_below (λ z a b n. draw.under_back_below a b z n) on_back
back-facts =
    facts EmptyBelow len_below (λ z a b n. draw.under_back_below a b z n) on_back (λ z a b p st ha hb. back-below-steps z a b p) (λ x y. ranges.back_inside (start x) x.size (start y) y.size) (λ z a b u v t. back-below-multiples (below a b z) a b z 0 u v) none_below

front-inclusive-facts : FrameFacts EmptyThrough len_through (λ z a b n. draw.under_front_through (top_frame z) a b z n) on_front_inclusive
front-inclusive-facts =
    facts EmptyThrough len_through (λ z a b n. draw.under_front_through (top_frame z) a b z n) on_front_inclusive (λ z a b p st ha hb. front-through-steps z a b p (top_frame z) st ha hb) (λ x y. ranges.front-inclusive-inside (start x) x.size (start y) y.size)
    (λ z a b u v t. front-through-multiples (through a b z) a b z 0 u v (top_frame z) t) none-through

back-inclusive-facts : FrameFacts EmptyThrough len_through over on_back_inclusive
back-inclusive-facts =
    facts EmptyThrough len_through over on_back_inclusive (λ z a b p st ha hb. back-through-steps z a b p 0 (omega arith) (omega arith)) (λ x y. ranges.back-inclusive-inside (start x) x.size (start y) y.size) (λ z a b u v t. back-through-multiples (through a b z) a b z 0 u v 0 (zero-mod z)) none-through

-- ranges by their ends
ends : Ends {P = PhysFrame} made (λ r. r.start) (λ r. r.end)
ends = record { first_of = λ x y. refl; last_of = λ x y. refl; ends_of = λ r. refl }

ends_inclusive : Ends {P = PhysFrame} made_inclusive (λ r. r.start) (λ r. r.end)
ends_inclusive = record { first_of = λ x y. refl; last_of = λ x y. refl; ends_of = λ r. refl }

-- what each draw gives and leaves
abbrev out : Side → ℕ → Range PhysFrame → Drawn (Range PhysFrame)
out front n r = drawn_at frames made r.start r.end (ranges.front (start r.start) r.start.size (start r.end) r.end.size n)
out back n r = drawn_at frames made r.start r.end (ranges.back (start r.start) r.start.size (start r.end) r.end.size n)

abbrev out_inclusive : Side → ℕ → RangeInclusive PhysFrame → Drawn (RangeInclusive PhysFrame)
out_inclusive front n r = drawn_at frames made_inclusive r.start r.end (ranges.front_inclusive (start r.start) r.start.size (start r.end) r.end.size n)
out_inclusive back n r = drawn_at frames made_inclusive r.start r.end (ranges.back_inclusive (start r.start) r.start.size (start r.end) r.end.size n)

given-range : (side : Side) → Settled IsAccepted IsEmpty len (λ n r. IsAccepted r) (out side) (nth_from side)
unfolding nth_below nth_back_below
given-range front = settled items ends front-facts
given-range back = settled items ends back-facts

given-inclusive : (side : Side) → Settled IsAcceptedInclusive IsEmptyInclusive len_inclusive (λ n r. IsAcceptedInclusive r) (out_inclusive side) (nth_inclusive_from side)
unfolding nth_through nth_back_through
given-inclusive front = settled items ends_inclusive front-inclusive-facts
given-inclusive back = settled items ends_inclusive back-inclusive-facts

-- a draw with n as n + 1 draws with n = 0
pub frames-one-by-one : OneByOne IsAccepted IsEmpty len nth_from
frames-one-by-one = one_by_one given-range

pub frames-inclusive-one-by-one : OneByOne IsAcceptedInclusive IsEmptyInclusive len_inclusive nth_inclusive_from
frames-inclusive-one-by-one = one_by_one given-inclusive

-- each frame once
module _ (r : Range PhysFrame) (d : Drawn (Range PhysFrame)) where
  front-drawn : next_from front r ≡ some d → (d.item ≡ get_elem? (frames_of r) 0) × (frames_of d.range ≡ drop 1 (frames_of r))
  front-drawn h =
      let q = settled_is (given-range front) 0 r d h in
      let a = ranges.accepted_frames r.start r.end ((given-range front).free 0 r d h) in
      rw q (refl, front-below-left (frames_of r) (start r.start) (start r.end) (bytes r.start) 0 a.some)

  back-drawn : next_from back r ≡ some d → (d.item ≡ get_elem? (reverse (frames_of r)) 0) × (reverse (frames_of d.range) ≡ drop 1 (reverse (frames_of r)))
  back-drawn h =
      let q = settled_is (given-range back) 0 r d h in
      let a = ranges.accepted_frames r.start r.end ((given-range back).free 0 r d h) in
      rw q (refl, back-below-left (frames_of r) (start r.start) (start r.end) (bytes r.start) 0 a.some)

module _ (r : RangeInclusive PhysFrame) (d : Drawn (RangeInclusive PhysFrame)) where
  front-inclusive-drawn : next_inclusive_from front r ≡ some d → (d.item ≡ get_elem? (frames_inclusive_of r) 0) × (frames_inclusive_of d.range ≡ drop 1 (frames_inclusive_of r))
  front-inclusive-drawn h =
      let q = settled_is (given-inclusive front) 0 r d h in
      let a = ranges.accepted_frames r.start r.end ((given-inclusive front).free 0 r d h) in
      rw q (refl, front-through-left (frames_inclusive_of r) (start r.start) (start r.end) (bytes r.start) (top_frame (bytes r.start)) 0 a.some (omega arith) (omega arith) (omega arith))

  back-inclusive-drawn : next_inclusive_from back r ≡ some d → (d.item ≡ get_elem? (reverse (frames_inclusive_of r)) 0) × (reverse (frames_inclusive_of d.range) ≡ drop 1 (reverse (frames_inclusive_of r)))
  back-inclusive-drawn h =
      let q = settled_is (given-inclusive back) 0 r d h in
      let a = ranges.accepted_frames r.start r.end ((given-inclusive back).free 0 r d h) in
      rw q (refl, back-through-left (frames_inclusive_of r) (start r.start) (start r.end) (bytes r.start) 0 0 a.some (omega arith))

pub frames-once : EachOnce frames_of next_from
frames-once = each-once frames_of next_from (record { from_front = front-drawn; from_back = back-drawn })

pub frames-inclusive-once : EachOnce frames_inclusive_of next_inclusive_from
frames-inclusive-once = each-once frames_inclusive_of next_inclusive_from (record { from_front = front-inclusive-drawn; from_back = back-inclusive-drawn })
