-- What a draw of pages leaves, where it does not meet the gap: the range left stands for the pages without those drawn, counted from the end they are drawn from.
use Prim.Native.Nat.{ℕ, ◌+◌}
use mathlib.Core.Path.{◌≡◌, ap, ◌∙◌}
use mathlib.Core.Bool.{false}
use mathlib.Core.List.{List, reverse}
use mathlib.Core.Option.{Option, none, some}
use lib.ListN.{get_elem?, drop}
use Rattle.answer.specs.Outcome.{gives}
use Rattle.laws.specs.Item.{Item, item}
use Rattle.laws.specs.Kind.{item_answer}
use Rattle.laws.specs.Run.{below, through}
use Rattle.laws.specs.Draw.{gap_front, gap_back}
use Rattle.laws.proofs.Draw.{end-at-item}
use Rattle.laws.proofs.PagesLeft.{pages-front-left, pages-back-left, pages-front-through-left, pages-back-through-left}
use Rattle.range.specs.declared.range.Range.{Range}
use Rattle.range.specs.declared.range_inclusive.RangeInclusive.{RangeInclusive}
use Rattle.laws.specs.Width.{PageWidth}
use Rattle.page.specs.Page.{start, bytes}
use Rattle.page.specs.Range.{refusal, pages, nth_of, nth_back_of, nth_inclusive_of, nth_back_inclusive_of, pages_of, pages_inclusive_of}
use Rattle.page.specs.declared.page.Page.{Page}
use Rattle.page.proofs.Ranges.{accepted, nth-settled, nth-back-settled, nth-inclusive-settled, nth-back-inclusive-settled}

-- where the page that is answered starts
answer-start : (x : Page) (o : Option ℕ) (i : Item) → item_answer pages x o ≡ gives i → o ≡ some i.start
answer-start x none i h = cc
answer-start x (some a) i h = let q : item a (bytes x) ≡ i = cc in ap (λ (j : Item). some j.start) q

module _ (v : PageWidth) (r : Range Page) (n : ℕ) (e : refusal v.bits r.start r.end ≡ 0) where
  pub nth_left : gap_front v.bits (start r.start) (start r.end) (bytes r.start) n ≡ false → pages_of v.bits (nth_of v.bits r n).range ≡ drop (n + 1) (pages_of v.bits r)
  nth_left g =
      let x = accepted v r.start r.end e in
      rw (← nth-settled v r n e g) (pages-front-left v.bits (bytes r.start) (start r.start) (start r.end) x.ends n g)

  pub nth-back-left : gap_back v.bits (start r.start) (start r.end) (bytes r.start) n ≡ false
      → reverse (pages_of v.bits (nth_back_of v.bits r n).range) ≡ drop (n + 1) (reverse (pages_of v.bits r))
  nth-back-left g =
      let x = accepted v r.start r.end e in
      rw (← nth-back-settled v r n e g) (pages-back-left v.bits (bytes r.start) (start r.start) (start r.end) x.ends n g)

  -- the end left is the page drawn
  pub nth-back-end : gap_back v.bits (start r.start) (start r.end) (bytes r.start) n ≡ false
      → (i : Item) → (nth_back_of v.bits r n).answer ≡ gives i → start (nth_back_of v.bits r n).range.end ≡ i.start
  nth-back-end g i h =
      let x = accepted v r.start r.end e in
      let l = below (start r.start) (start r.end) (bytes r.start) in
      let q = ap (λ d. d.answer) (nth-back-settled v r n e g) ∙ h in
      rw (← nth-back-settled v r n e g)
      (end-at-item l (start r.start) (start r.end) (bytes r.start) n i.start x.ends.some x.whole x.last-whole (answer-start r.start (get_elem? (reverse l) n) i q))

module _ (v : PageWidth) (r : RangeInclusive Page) (n : ℕ) (e : refusal v.bits r.start r.end ≡ 0) where
  abbrev items : List ℕ
  items = through (start r.start) (start r.end) (bytes r.start)

  pub nth-inclusive-left : gap_front v.bits (start r.start) (start r.end) (bytes r.start) n ≡ false
      → pages_inclusive_of v.bits (nth_inclusive_of v.bits r n).range ≡ drop (n + 1) (pages_inclusive_of v.bits r)
  nth-inclusive-left g =
      let x = accepted v r.start r.end e in
      rw (← nth-inclusive-settled v r n e g)
      (pages-front-through-left v.bits (bytes r.start) (start r.start) (start r.end) x.ends items n g)

  pub nth-back-inclusive-left : gap_back v.bits (start r.start) (start r.end) (bytes r.start) n ≡ false
      → reverse (pages_inclusive_of v.bits (nth_back_inclusive_of v.bits r n).range) ≡ drop (n + 1) (reverse (pages_inclusive_of v.bits r))
  nth-back-inclusive-left g =
      let x = accepted v r.start r.end e in
      rw (← nth-back-inclusive-settled v r n e g)
      (pages-back-through-left v.bits (bytes r.start) (start r.start) (start r.end) x.ends items n g)
