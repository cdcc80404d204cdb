-- What `len` and `size` of a range of pages answer, over the width `w`: "From now on `len` of a page range is the number of real pages: steps by low48, divided by the size, plus 1 if
-- inclusive. `size` follows it .. and `size` has no refusal 5 left" (document 02, request Three).
use Rattle.std.specs.Prelude.{ℕ, ◌+◌, ◌*◌, ◌≤◌, ◌≡◌, length}
use Rattle.answer.specs.Outcome.{Outcome, gives, refuses, and_then}
use Rattle.laws.specs.Address.{Addresses, virt}
use Rattle.laws.specs.Range.{count_below, count_through, bytes_below, bytes_through}
use Rattle.range.specs.Ranges as ranges
use Rattle.range.specs.declared.range.Range.{Range}
use Rattle.range.specs.declared.range_inclusive.RangeInclusive.{RangeInclusive}
use Rattle.page.specs.Page.{start, bytes, page_steps}
use Rattle.page.specs.Range.{pages, refusal, pages_of, pages_inclusive_of, IsAccepted, IsAcceptedInclusive, IsEmpty, IsEmptyInclusive}
use Rattle.page.specs.declared.page.Page.{Page}

-- what a call answers of the range from `x` to `y`
abbrev pub of_ends : ℕ → (Addresses → ℕ → ℕ → ℕ → ℕ → Outcome ℕ) → Page → Page → Outcome ℕ
of_ends w = ranges.of_ends pages (virt w)

-- `len` and `size`
abbrev pub len_of : ℕ → Range Page → Outcome ℕ
len_of w r = of_ends w count_below r.start r.end

abbrev pub len_inclusive_of : ℕ → RangeInclusive Page → Outcome ℕ
len_inclusive_of w r = of_ends w count_through r.start r.end

abbrev pub size_of : ℕ → Range Page → Outcome ℕ
size_of w r = of_ends w bytes_below r.start r.end

abbrev pub size_inclusive_of : ℕ → RangeInclusive Page → Outcome ℕ
size_inclusive_of w r = of_ends w bytes_through r.start r.end

-- the steps from the start to the end, by pages, as `steps_between_u64` answers them
abbrev pub steps_of : ℕ → Page → Page → Outcome ℕ
steps_of w x y = page_steps w (start x) (bytes x) (start y) (bytes y)

pub record Length (w : ℕ) : Type 0 where
  -- the length of the list of pages that the range stands for, and that times the size
  pub len : (r : Range Page) → IsAccepted w r → len_of w r ≡ gives (length (pages_of w r))
  pub len-inclusive : (r : RangeInclusive Page) → IsAcceptedInclusive w r → len_inclusive_of w r ≡ gives (length (pages_inclusive_of w r))
  pub size : (r : Range Page) → IsAccepted w r → size_of w r ≡ gives (length (pages_of w r) * bytes r.start)
  pub size-inclusive : (r : RangeInclusive Page) → IsAcceptedInclusive w r → size_inclusive_of w r ≡ gives (length (pages_inclusive_of w r) * bytes r.start)
  -- nothing is refused but what the range itself is refused for
  pub refused : (r : Range Page) → (IsAccepted w r → ⊥) → (len_of w r ≡ refuses (refusal w r.start r.end)) × (size_of w r ≡ refuses (refusal w r.start r.end))
  pub refused-inclusive : (r : RangeInclusive Page) → (IsAcceptedInclusive w r → ⊥)
      → (len_inclusive_of w r ≡ refuses (refusal w r.start r.end)) × (size_inclusive_of w r ≡ refuses (refusal w r.start r.end))
  -- 0 when empty, else "steps by low48, divided by the size, plus 1 if inclusive"
  pub empty : (r : Range Page) → IsAccepted w r → IsEmpty r → len_of w r ≡ gives 0
  pub empty-inclusive : (r : RangeInclusive Page) → IsAcceptedInclusive w r → IsEmptyInclusive r → len_inclusive_of w r ≡ gives 0
  pub steps : (r : Range Page) → start r.start ≤ start r.end → len_of w r ≡ steps_of w r.start r.end
  pub steps-inclusive : (r : RangeInclusive Page) → start r.start ≤ start r.end → len_inclusive_of w r ≡ and_then (steps_of w r.start r.end) (λ n. gives (n + 1))
