-- Draws of frames by draws on their numbers: a refused range is left as it was, and an accepted one meets no refusal 11.
use Prim.Native.Nat.{ℕ, ◌+◌, ◌%◌, ◌^◌, ◌≤◌, ◌<◌}
use mathlib.Core.Path.{◌≡◌, refl, sym}
use mathlib.Core.Bool.{Bool, false}
use native.Mathlib.Omega.{arith}
use native.Mathlib.Nat.{mod-eq_of_lt}
use borrow.Author.Tests.{lt-leb, ltb-true}
use lib.Pow.{pow_pos, pow_mono}
use Rattle.answer.specs.Outcome.{gives, refuses}
use Rattle.answer.proofs.Refused.{not_zero}
use Rattle.laws.specs.Run.{below, through}
use Rattle.laws.specs.Draw as draw
use Rattle.laws.specs.Address.{phys}
use Rattle.laws.specs.Item.{first_refusal, items_refusal}
use Rattle.laws.specs.Kind.{guarded, settled}
use Rattle.laws.proofs.Kind.{guarded_gives}
use Rattle.laws.proofs.Align.{under_top}
use Rattle.laws.proofs.Draw.{front-below-start, back-below-under, front-through-under, front-through-start, front-through-end, back-through-start, back-through-end}
use Rattle.laws.proofs.Item.{phys-argument, item-passed, items-passed, first-refused, refused-unless}
use Rattle.table.specs.Level.{power_of, bytes_of}
use Rattle.table.specs.declared.size.PageSize.{PageSize}
use Rattle.table.proofs.Sizes.{bounds}
use Rattle.range.specs.Ranges.{made, made_inclusive}
use Rattle.range.specs.declared.range.Range.{Range}
use Rattle.range.specs.declared.range_inclusive.RangeInclusive.{RangeInclusive}
use Rattle.frame.specs.Frame.{start, bytes}
use Rattle.frame.specs.Range.{top_frame, refusal, leaves_memory, frames, frame_draw, nth_below, nth_back_below, nth_through, nth_back_through, nth_of, nth_back_of, nth_inclusive_of, nth_back_inclusive_of}
use Rattle.frame.specs.declared.frame.PhysFrame.{PhysFrame}

-- a draw whose ends are in the memory is not refused 11
pub record Inside (under : Bool) (d : draw.Draw) : Type 0 where
  pub start : d.start < 2 ^ 52
  pub end : d.end < 2 ^ 52
  pub not-under : under ≡ false

inside : (under : Bool) (d : draw.Draw) → Inside under d → leaves_memory under d ≡ 0
inside under d i = simp (i.not-under, lt-leb (2 ^ 52) d.start i.start, lt-leb (2 ^ 52) d.end i.end)

-- each size is below the memory's
pub top_fits : (z : PageSize) → bytes_of z ≤ 2 ^ 30
top_fits z = pow_mono {i = power_of z} {j = 30} (omega (arith, bounds z))

-- a range from `a` to `b`, whose sizes are `y` and `z`
module _ (a : ℕ) (y : PageSize) (b : ℕ) (z : PageSize) where
  -- what an accepted range is: both ends of one size, each with room for one more frame
  pub record Accepted : Type 0 where
    pub same : bytes_of y ≡ bytes_of z
    pub first : a + bytes_of y ≤ 2 ^ 52
    pub last : b + bytes_of y ≤ 2 ^ 52
    pub whole : a % bytes_of y ≡ 0
    pub last-whole : b % bytes_of y ≡ 0
    pub some : 0 < bytes_of y
    pub small : bytes_of y ≤ 2 ^ 30

  abbrev number : ℕ
  number = items_refusal (phys 52) a (bytes_of y) b (bytes_of z)

  pub accepted : number ≡ 0 → Accepted
  accepted r =
      let i = items-passed (phys 52) a (bytes_of y) b (bytes_of z) r in
      let p = item-passed (phys 52) a (bytes_of y) (phys-argument 52) i.0 in
      let q = item-passed (phys 52) b (bytes_of z) (phys-argument 52) i.1 in
      let ky = bounds y in
      let kz = bounds z in
      record {
        same = i.2;
        first = under_top (power_of y) 52 a (omega arith) (ltb-true a (2 ^ 52) p.0) p.1;
        last = rw i.2 (under_top (power_of z) 52 b (omega arith) (ltb-true b (2 ^ 52) q.0) q.1);
        whole = p.1;
        last-whole = rw i.2 q.1;
        some = pow_pos (power_of y);
        small = top_fits y;
      }

  -- the number that refuses a draw
  pub no_number : (under : Bool) (d : draw.Draw) → number ≡ 0 → Inside under d → first_refusal number (leaves_memory under d) ≡ 0
  no_number under d e i = simp (e, inside under d i)

  -- a draw on the numbers of a refused and of an accepted range
  guarded-refused : (under : Bool) (d : draw.Draw) → (number ≡ 0 → ⊥) → guarded (frame_draw a (bytes_of y) b (bytes_of z) under d) ≡ refuses number
  guarded-refused under d h = rw (first-refused number (leaves_memory under d) h) (sym (refused-unless number (gives d) h))

  guarded-given : (under : Bool) (d : draw.Draw) → number ≡ 0 → Inside under d → guarded (frame_draw a (bytes_of y) b (bytes_of z) under d) ≡ gives d
  guarded-given under d e i = rw (no_number under d e i) refl

  -- the draws on the numbers
  module _ (n : ℕ) where
    abbrev pub front : draw.Draw
    front = draw.front_below (below a b (bytes_of y)) a b (bytes_of y) n

    abbrev pub back : draw.Draw
    back = draw.back_below (below a b (bytes_of y)) a b (bytes_of y) n

    abbrev pub front_inclusive : draw.Draw
    front_inclusive = draw.front_through (through a b (bytes_of y)) (top_frame (bytes_of y)) a b (bytes_of y) n

    abbrev pub back_inclusive : draw.Draw
    back_inclusive = draw.back_through (through a b (bytes_of y)) 0 a b (bytes_of y) n

    abbrev pub under_back : Bool
    under_back = draw.under_back_below a b (bytes_of y) n

    abbrev pub under_front : Bool
    under_front = draw.under_front_through (top_frame (bytes_of y)) a b (bytes_of y) n

    -- no draw of an accepted range would leave the memory, on either side
    module _ (e : number ≡ 0) where
      pub front-inside : Inside false front
      front-inside =
          let k = accepted e in
          let s = front-below-start (below a b (bytes_of y)) a b (bytes_of y) n in
          record { start = omega arith; end = omega arith; not-under = refl }

      pub back_inside : Inside under_back back
      back_inside = let k = accepted e in record { start = omega arith; end = omega arith; not-under = back-below-under a b (bytes_of y) n }

      pub front-inclusive-inside : Inside under_front front_inclusive
      front-inclusive-inside =
          let k = accepted e in
          let l = through a b (bytes_of y) in
          let s = front-through-start l a b (bytes_of y) n (top_frame (bytes_of y)) (omega arith) (omega arith) (omega arith) in
          let t = front-through-end l a b (bytes_of y) n (top_frame (bytes_of y)) (omega arith) (omega arith) (omega arith) in
          record { start = omega arith; end = omega arith; not-under = front-through-under a b (bytes_of y) n (top_frame (bytes_of y)) (omega arith) }

      pub back-inclusive-inside : Inside false back_inclusive
      back-inclusive-inside =
          let k = accepted e in
          let l = through a b (bytes_of y) in
          let z : a < 0 + bytes_of y → a ≡ 0 = λ h. let q : a < bytes_of y = omega arith in omega (arith, mod-eq_of_lt q) in
          let s = back-through-start l a b (bytes_of y) n (top_frame (bytes_of y)) 0 (omega arith) (omega arith) (omega arith) (omega arith) z in
          let t = back-through-end l a b (bytes_of y) n (top_frame (bytes_of y)) 0 (omega arith) (omega arith) (omega arith) (omega arith) in
          record { start = omega arith; end = omega arith; not-under = refl }

      -- what each draw on the numbers comes to
      pub front-given : guarded (nth_below a (bytes_of y) b (bytes_of z) n) ≡ gives front
      unfolding nth_below
      front-given = guarded-given false front e front-inside

      pub back_given : guarded (nth_back_below a (bytes_of y) b (bytes_of z) n) ≡ gives back
      unfolding nth_back_below
      back_given = guarded-given under_back back e back_inside

      pub front-inclusive-given : guarded (nth_through a (bytes_of y) b (bytes_of z) n) ≡ gives front_inclusive
      unfolding nth_through
      front-inclusive-given = guarded-given under_front front_inclusive e front-inclusive-inside

      pub back-inclusive-given : guarded (nth_back_through a (bytes_of y) b (bytes_of z) n) ≡ gives back_inclusive
      unfolding nth_back_through
      back-inclusive-given = guarded-given false back_inclusive e back-inclusive-inside

    module _ (h : number ≡ 0 → ⊥) where
      pub front-refused : guarded (nth_below a (bytes_of y) b (bytes_of z) n) ≡ refuses number
      unfolding nth_below
      front-refused = guarded-refused false front h

      pub back_refused : guarded (nth_back_below a (bytes_of y) b (bytes_of z) n) ≡ refuses number
      unfolding nth_back_below
      back_refused = guarded-refused under_back back h

      pub front-inclusive-refused : guarded (nth_through a (bytes_of y) b (bytes_of z) n) ≡ refuses number
      unfolding nth_through
      front-inclusive-refused = guarded-refused under_front front_inclusive h

      pub back-inclusive-refused : guarded (nth_back_through a (bytes_of y) b (bytes_of z) n) ≡ refuses number
      unfolding nth_back_through
      back-inclusive-refused = guarded-refused false back_inclusive h

-- what the draws in code need
pub ruleset draws =
    (top_fits, not_zero, front-given, front-refused, back_given, back_refused, front-inclusive-given, front-inclusive-refused, back-inclusive-given, back-inclusive-refused)

-- two frames that are not refused
pub accepted_frames : (x y : PhysFrame) → refusal x y ≡ 0 → Accepted (start x) x.size (start y) y.size
accepted_frames x y e = accepted (start x) x.size (start y) y.size e

-- each draw, on an accepted range
module _ (r : Range PhysFrame) (n : ℕ) where
  pub nth-settled : refusal r.start r.end ≡ 0 → settled frames made r.start r.end (front (start r.start) r.start.size (start r.end) r.end.size n) ≡ nth_of r n
  nth-settled e =
      guarded_gives frames made r.start r.end (nth_below (start r.start) (bytes r.start) (start r.end) (bytes r.end) n) (front (start r.start) r.start.size (start r.end) r.end.size n)
      (sym (front-given (start r.start) r.start.size (start r.end) r.end.size n e))

  pub nth-back-settled : refusal r.start r.end ≡ 0 → settled frames made r.start r.end (back (start r.start) r.start.size (start r.end) r.end.size n) ≡ nth_back_of r n
  nth-back-settled e =
      guarded_gives frames made r.start r.end (nth_back_below (start r.start) (bytes r.start) (start r.end) (bytes r.end) n) (back (start r.start) r.start.size (start r.end) r.end.size n)
      (sym (back_given (start r.start) r.start.size (start r.end) r.end.size n e))

module _ (r : RangeInclusive PhysFrame) (n : ℕ) where
  pub nth-inclusive-settled : refusal r.start r.end ≡ 0
      → settled frames made_inclusive r.start r.end (front_inclusive (start r.start) r.start.size (start r.end) r.end.size n) ≡ nth_inclusive_of r n
  nth-inclusive-settled e =
      guarded_gives frames made_inclusive r.start r.end (nth_through (start r.start) (bytes r.start) (start r.end) (bytes r.end) n)
      (front_inclusive (start r.start) r.start.size (start r.end) r.end.size n) (sym (front-inclusive-given (start r.start) r.start.size (start r.end) r.end.size n e))

  pub nth-back-inclusive-settled : refusal r.start r.end ≡ 0
      → settled frames made_inclusive r.start r.end (back_inclusive (start r.start) r.start.size (start r.end) r.end.size n) ≡ nth_back_inclusive_of r n
  nth-back-inclusive-settled e =
      guarded_gives frames made_inclusive r.start r.end (nth_back_through (start r.start) (bytes r.start) (start r.end) (bytes r.end) n)
      (back_inclusive (start r.start) r.start.size (start r.end) r.end.size n) (sym (back-inclusive-given (start r.start) r.start.size (start r.end) r.end.size n e))
