-- The table holds: by computing, with powers of two known by their one bit.
use mathlib.Core.Path.{◌≡◌, refl}
use mathlib.Core.Bool.{true}
use Prim.Native.Nat.{ℕ, ◌^◌}
use lib.Count.{ones}
use borrow.Author.Tests.{eq-eqb}
use Rattle.laws.specs.Align.{power_of_two, up}
use Rattle.laws.specs.Width.{sign_extend}
use Rattle.laws.specs.Index.{assemble}
use Rattle.page.specs.Page.{page_of_indices}
use Rattle.paging.specs.Entry.{entry}
use Rattle.laws.specs.Steps.{forward, steps}
use Rattle.laws.specs.Run.{run, len_below, len_through, pages_below, pages_through}
use Rattle.laws.specs.Draw.{gap_front, gap_back, top_of, bottom_of}
use Rattle.laws.proofs.Align.{one_bit}
use Rattle.laws.specs.Item.{item_refusal, items_refusal}
use Rattle.cases.specs.Table.{Table}

power : (k : ℕ) → power_of_two (2 ^ k) ≡ true
power k = eq-eqb (ones (2 ^ k)) 1 ((one_bit (2 ^ k)).1 (k, refl))

pub table : Table
unfolding sign_extend assemble entry page_of_indices forward steps up run len_below len_through pages_below pages_through gap_front gap_back top_of bottom_of item_refusal items_refusal
table =
    record {
      a = refl;
      b-forward = refl;
      b-plus = refl;
      c-last = refl;
      c-past = refl;
      d-steps = refl;
      d-back = refl;
      e-jump = rw (power 12);
      e-zero = rw (power 48);
      f-level-4 = refl;
      f-level-3 = refl;
      f-level-2 = refl;
      f-level-1 = refl;
      f-offset = refl;
      g-4-kib = refl;
      g-2-mib = refl;
      g-1-gib = refl;
      edge-last = refl;
      edge-past = refl;
      h = refl;
      i = refl;
      j-len = refl;
      j-front = refl;
      first-high-back = refl;
      last-low-57 = refl;
      first-high-57 = refl;
      last-low-2-mib = refl;
      past-last-low-2-mib = refl;
      empty-front = refl;
      empty-back = refl;
      over-front = refl;
      over-back = refl;
      over-front-exclusive = refl;
      over-back-exclusive = refl;
      k-len = refl;
      k-nth-0 = refl;
      k-nth-1 = refl;
      k-back-0 = refl;
      k-back-1 = refl;
      displaced-0 = refl;
      displaced-2-gib = refl;
      displaced-last-low = refl;
      displaced-first-high = refl;
      displaced-last = refl;
      displaced-0-57 = refl;
      displaced-2-gib-57 = refl;
      displaced-last-low-57 = refl;
      displaced-first-high-57 = refl;
      displaced-last-57 = refl;
      displaced-gap = refl;
      displaced-gap-57 = refl;
      displaced-low-57 = refl;
      whole-len = refl;
      whole-size = refl;
      whole-size-2-mib = refl;
      whole-len-57 = refl;
      whole-size-57 = refl;
      low-len-57 = refl;
      low-len-no-address = refl;
      over-len = refl;
      over-len-inclusive = refl;
      over-size-inclusive = refl;
      back-len = refl;
      back-len-inclusive = refl;
      all-frames = refl;
      low-half = refl;
      k-nth-3 = refl;
      k-back-3 = refl;
      a-57 = refl;
      b-forward-57 = refl;
      b-plus-57 = refl;
      c-last-57 = refl;
      c-past-57 = refl;
      d-steps-57 = refl;
      d-back-57 = refl;
      e-jump-57 = rw (power 12);
      e-zero-57 = rw (power 57);
      f-level-5-57 = refl;
      f-level-4-57 = refl;
      f-level-3-57 = refl;
      f-level-2-57 = refl;
      f-level-1-57 = refl;
      f-offset-57 = refl;
      h-57 = refl;
      i-57 = refl;
      j-len-57 = refl;
      k-len-57 = refl;
      k-nth-0-57 = refl;
      k-nth-1-57 = refl;
      k-back-0-57 = refl;
      k-back-1-57 = refl;
      last-low-canonical-57 = refl;
      gap-first-57 = refl;
      gap-last-57 = refl;
      first-high-canonical-57 = refl;
      gap-of-48 = refl;
      no-level-5 = refl;
      no-level-5-refused = refl;
      both-level-5 = refl;
      both-level-4 = refl;
      above-4 = (refl, refl, refl);
      span-5 = (refl, refl);
      assembled-57 = refl;
      assembled-low-57 = refl;
      assembled-2-mib-57 = refl;
      assembled-1-gib-57 = refl;
      assembled-refused-57 = refl;
      assembled-48 = refl;
      assembled-no-level-5 = refl;
      assembled-refused-48 = (refl, refl);
      bit-7 = (refl, refl, refl);
      named-5 = refl;
      pages-57 = λ f. (refl, refl);
    }
