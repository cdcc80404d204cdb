-- What `len` and `size` of a range of pages answer, over the width, and where they answer as before.
use Prim.Native.Nat.{ℕ, ◌+◌, ◌-◌, ◌*◌, ◌/◌, ◌^◌, ◌≤◌, ◌<◌}
use mathlib.Core.Path.{◌≡◌, sym, ap, ◌∙◌}
use mathlib.Core.Bool.{Bool, true, false, cond}
use native.Mathlib.Omega.{arith}
use native.Mathlib.Decide.{ℕ_discrete, dec_lt}
use native.Mathlib.Nat.{add-mul, mul-pos}
use borrow.Author.Tests.{le-ltb}
use lib.Dec.{eqb}
use lib.ListN.{length}
use Rattle.answer.specs.Outcome.{Outcome, gives, refuses, unless, and_then}
use Rattle.answer.specs.Refusal.{overflow}
use Rattle.laws.specs.Width.{low, OverGap, InOneHalf, both_low, both_high, PageWidth}
use Rattle.laws.specs.Run.{len_below, len_through, pages_below, pages_through, page_len_below, page_len_through}
use Rattle.laws.specs.Steps.{steps}
use Rattle.laws.specs.Address.{virt}
use Rattle.laws.specs.Item.{given_items}
use Rattle.laws.specs.Length.{IsPage, CountsPages, ListsPages}
use Rattle.laws.proofs.Cases.{by_cases}
use Rattle.laws.proofs.Width.{sizes, low-order, canonical-fixed}
use Rattle.laws.proofs.Steps.{steps-in}
use Rattle.laws.proofs.Run.{below_none, through-none}
use Rattle.laws.proofs.Item.{items_refused}
use Rattle.laws.proofs.Length as laws
use Rattle.laws.proofs.Length.{counts-pages, gap-some, not-whole}
use Rattle.laws.proofs.Listed.{lists-pages}
use Rattle.table.specs.Level.{power_of, bytes_of}
use Rattle.table.specs.declared.size.PageSize.{PageSize}
use Rattle.table.proofs.Sizes.{bounds}
use Rattle.page_draw.proofs.Accepted.{Accepted}
use Rattle.page.specs.Page.{start, bytes}
use Rattle.page.specs.Range.{refusal}
use Rattle.page.specs.Gap.{Exactly}
use Rattle.page.specs.Length.{steps_of, Length}
use Rattle.page.specs.Before.{IsOverGap, LengthAsBefore}
use Rattle.page.specs.declared.page.Page.{Page}
use Rattle.page.proofs.Ranges as ranges

-- two outcomes that are one give one number
gives-same : (m n : ℕ) → gives m ≡ gives n → m ≡ n
gives-same m n e = cc

refuses-none : (k n : ℕ) → gives n ≡ refuses k → ⊥
refuses-none k n e = let z : ◌≡◌ {A = ℕ} 0 1 = cc in absurd (omega arith)

-- of the sizes of pages
pub counts : (v : PageWidth) (s : PageSize) → CountsPages v.bits (bytes_of s)
counts v s = counts-pages v.bits (power_of s) v.width (omega (arith, bounds s, v.wide))

pub lists : (v : PageWidth) (s : PageSize) → ListsPages v.bits (bytes_of s)
lists v s = lists-pages v.bits (power_of s) v.width (omega (arith, bounds s, v.wide))

-- two pages as the ends of a range
module _ (v : PageWidth) (x y : Page) where
  abbrev w : ℕ
  w = v.bits

  abbrev a : ℕ
  a = start x

  abbrev b : ℕ
  b = start y

  abbrev z : ℕ
  z = bytes x

  -- what is answered of them, where nothing refuses them, and where something does
  abbrev given : Outcome ℕ → Outcome ℕ
  given o = given_items (virt w) a z b (bytes y) o

  refused : (o : Outcome ℕ) → (refusal w x y ≡ 0 → ⊥) → given o ≡ refuses (refusal w x y)
  refused o n = sym (items_refused (virt w) a z b (bytes y) o n)

  -- two answers are one where they are one of accepted ends
  alike : (o p : Outcome ℕ) → (refusal w x y ≡ 0 → o ≡ p) → given o ≡ given p
  alike o p h = by_cases (ℕ_discrete (refusal w x y) 0) (λ e. rw e (h e)) (λ n. refused o n ∙ sym (refused p n))

  module _ (e : refusal w x y ≡ 0) where
    accepted : Accepted w a z b (bytes y)
    accepted = ranges.accepted v x y e

    first : IsPage w z a
    first = record { address = (canonical-fixed w v.width a).1 accepted.first-address; whole = accepted.whole }

    last : IsPage w z b
    last = record { address = (canonical-fixed w v.width b).1 accepted.last-address; whole = accepted.last-whole }

    below : page_len_below w a b z ≡ length (pages_below w a b z)
    below = (counts v x.size).below a b first last

    through : page_len_through w a b z ≡ length (pages_through w a b z)
    through = (counts v x.size).through a b first last

    in_order : a ≤ b → low w a ≤ low w b
    in_order h = by_cases (dec_lt (low w b) (low w a)) (λ l. absurd (omega (arith, (low-order w v.width b a accepted.last-address accepted.first-address).1 l))) (λ n. omega arith)

  below-steps : a ≤ b → given (gives (page_len_below w a b z)) ≡ steps_of w x y
  unfolding len_below
  below-steps h =
      alike (gives (page_len_below w a b z)) (and_then (steps w a b) (λ d. gives (d / bytes y)))
      (λ e. rw (steps-in w a b (in_order e h), (accepted e).same))

  through-steps : a ≤ b → given (gives (page_len_through w a b z)) ≡ and_then (steps_of w x y) (λ n. gives (n + 1))
  unfolding len_through
  through-steps h = by_cases (ℕ_discrete (refusal w x y) 0) passed (λ n. refused (gives (page_len_through w a b z)) n ∙ ap (λ o. and_then o (λ n. gives (n + 1))) (sym (refused (and_then (steps w a b) (λ d. gives (d / bytes y))) n)))
    where
      passed : refusal w x y ≡ 0 → given (gives (page_len_through w a b z)) ≡ and_then (steps_of w x y) (λ n. gives (n + 1))
      passed e = rw (e, steps-in w a b (in_order e h), le-ltb (low w b) (low w a) (in_order e h), (accepted e).same)

  nothing : refusal w x y ≡ 0 → b ≤ a → page_len_below w a b z ≡ 0
  nothing e h =
      let k = accepted e in
      laws.below-apart w z a b v.width k.first-address k.last-address k.ends (λ o. omega (arith, o.start_low, o.end_high, k.ends.halves)) ∙ below_none a b z h

  nothing-through : refusal w x y ≡ 0 → b < a → page_len_through w a b z ≡ 0
  nothing-through e h =
      let k = accepted e in
      laws.through-apart w z a b v.width k.first-address k.last-address k.ends (λ o. omega (arith, o.start_low, o.end_high, k.ends.halves)) ∙ through-none a b z h

  -- as before, unless the range is over the gap
  same-below : (f : ℕ → ℕ) → (IsOverGap w x y → ⊥) → given (gives (f (page_len_below w a b z))) ≡ given (gives (f (len_below a b z)))
  same-below f n =
      alike _ _
      (λ e.
      let k = accepted e in
      ap (λ m. gives (f m)) (laws.below-apart w z a b v.width k.first-address k.last-address k.ends (λ o. n (record { given = e; over = o }))))

  same-through : (f : ℕ → ℕ) → (IsOverGap w x y → ⊥) → given (gives (f (page_len_through w a b z))) ≡ given (gives (f (len_through a b z)))
  same-through f n =
      alike _ _
      (λ e.
      let k = accepted e in
      ap (λ m. gives (f m)) (laws.through-apart w z a b v.width k.first-address k.last-address k.ends (λ o. n (record { given = e; over = o }))))

  -- over the gap
  module _ (o : IsOverGap w x y) where
    -- how many pages the gap would have room for
    abbrev room : ℕ
    room = (2 ^ 64 - 2 ^ w) / z

    ends : Accepted w a z b (bytes y)
    ends = accepted o.given

    some-room : 0 < room
    some-room = gap-some w z a b v.width ends.ends

    counted-below : len_below a b z ≡ page_len_below w a b z + room
    counted-below = laws.gap-counted w z a b v.width ends.first-address ends.last-address ends.ends o.over

    counted-through : len_through a b z ≡ page_len_through w a b z + room
    counted-through = laws.gap-counted-through w z a b v.width ends.first-address ends.last-address ends.ends o.over

    -- a length with the gap is another, and so are its bytes
    longer : (m n : ℕ) → n ≡ m + room → m ≡ n → ⊥
    longer m n e f = omega (arith, some-room)

    more_bytes : (m n : ℕ) → n ≡ m + room → m * z ≡ n * z → ⊥
    more_bytes m n e f = omega (arith, add-mul m room z, mul-pos some-room ends.ends.some, ap (λ (t : ℕ). t * z) e)

    differs : (p q : ℕ) → (p ≡ q → ⊥) → given (gives p) ≡ given (gives q) → ⊥
    differs p q n h = n (gives-same p q (rw o.given at h))

  -- 5 was refused over the gap alone
  module _ (t : ℕ) where
    abbrev limited : Outcome ℕ
    limited = unless overflow (cond (eqb b (2 ^ 64 - z)) (cond (eqb a 0) false true) true) (gives t)

    unlimited : refusal w x y ≡ 0 → (IsOverGap w x y → ⊥) → limited ≡ gives t
    unlimited e n = rw (not-whole a b z (λ f g. n (record { given = e; over = whole (accepted e) f g })))
      where
        whole : Accepted w a z b (bytes y) → b ≡ 2 ^ 64 - z → a ≡ 0 → OverGap w a b
        whole k f g = record { start_low = omega (arith, k.ends.some, k.ends.room); end_high = omega (arith, k.ends.room, k.ends.two) }

    over-limited : (m : ℕ) → (m ≡ t → ⊥) → gives m ≡ limited → ⊥
    over-limited m n h = go (cond (eqb b (2 ^ 64 - z)) (cond (eqb a 0) false true) true) h
      where
        go : (c : Bool) → gives m ≡ unless overflow c (gives t) → ⊥
        go true f = n (gives-same m t f)
        go false f = refuses-none overflow m f

  size-through : Exactly (given (gives (page_len_through w a b z * z)) ≡ given (limited (len_through a b z * z))) (IsOverGap w x y → ⊥)
  size-through = (
    λ h o. over-limited (len_through a b z * z) (page_len_through w a b z * z) (more_bytes o _ _ (counted-through o)) (rw o.given at h),
    λ n. same-through (λ m. m * z) n ∙ alike _ _ (λ e. sym (unlimited (len_through a b z * z) e n)),
  )

pub length-of : (v : PageWidth) → Length v.bits
length-of v =
    record {
      len = λ r e. rw e (ap gives (below v r.start r.end e));
      len-inclusive = λ r e. rw e (ap gives (through v r.start r.end e));
      size = λ r e. rw e (ap (λ n. gives (n * bytes r.start)) (below v r.start r.end e));
      size-inclusive = λ r e. rw e (ap (λ n. gives (n * bytes r.start)) (through v r.start r.end e));
      refused = λ r n. (refused v r.start r.end _ n, refused v r.start r.end _ n);
      refused-inclusive = λ r n. (refused v r.start r.end _ n, refused v r.start r.end _ n);
      empty = λ r e h. rw e (ap gives (nothing v r.start r.end e h));
      empty-inclusive = λ r e h. rw e (ap gives (nothing-through v r.start r.end e h));
      steps = λ r h. below-steps v r.start r.end h;
      steps-inclusive = λ r h. through-steps v r.start r.end h;
    }

in-one-half : (v : PageWidth) (x y : Page) → InOneHalf v.bits (start x) (start y) → IsOverGap v.bits x y → ⊥
in-one-half v x y (both_low h k) o = let s = sizes v.bits v.width in omega (arith, o.over.end_high, s)
in-one-half v x y (both_high h k) o = let s = sizes v.bits v.width in omega (arith, o.over.start_low, s)

pub length-as-before : (v : PageWidth) → LengthAsBefore v.bits
length-as-before v =
    record {
      len = λ r. (λ h o. differs v r.start r.end o _ _ (longer v r.start r.end o _ _ (counted-below v r.start r.end o)) h, same-below v r.start r.end (λ n. n));
      len-inclusive = λ r. (λ h o. differs v r.start r.end o _ _ (longer v r.start r.end o _ _ (counted-through v r.start r.end o)) h, same-through v r.start r.end (λ n. n));
      size = λ r. (λ h o. differs v r.start r.end o _ _ (more_bytes v r.start r.end o _ _ (counted-below v r.start r.end o)) h, same-below v r.start r.end (λ n. n * bytes r.start));
      size-inclusive = λ r. size-through v r.start r.end;
      in-one-half = in-one-half v;
      gap-counted = λ r o. rw o.given (ap gives (counted-below v r.start r.end o));
      gap-counted-inclusive = λ r o. rw o.given (ap gives (counted-through v r.start r.end o));
    }
