-- `find` tells the first run or stop from a page on.
use Prim.Native.Nat.{ℕ, ◌+◌, ◌-◌, ◌*◌, ◌/◌, ◌^◌, ◌≤◌}
use mathlib.Core.Path.{◌≡◌, refl, sym, ap, ◌∙◌}
use native.Mathlib.Omega.{arith}
use lib.Pow.{pow_mono, pow-add, shl-shr}
use Rattle.addr.specs.Widths.{levels_of}
use Rattle.addr.proofs.Widths.{few-levels}
use Rattle.found.specs.Found.{answer_in}
use Rattle.found.specs.Found as answers
use Rattle.found.specs.Progress.{progress_of}
use Rattle.mapping.specs.Pages.{PageState}
use Rattle.mapping.specs.Pass.{Progress, unfound, stopped, running, at-page, answer_of}
use Rattle.mapping.specs.Search.{half_end, search}
use Rattle.mapping.specs.Walk.{span_pages, space_of}
use Rattle.mapping.proofs.Pass.{passed-search}
use Rattle.paging.specs.Memory.{table_from}
use Rattle.image.specs.Tables.{memory_of, lent, pages_below}
use Rattle.image.proofs.AllPages.{pages-top}
use Rattle.image.proofs.ListKept.{kept}
use Rattle.image.proofs.find.find.Goals as goal

half : (levels : ℕ) → 1 ≤ levels → span_pages levels / 2 ≡ 2 ^ (9 * levels - 1)
half levels h =
    let e : 9 * levels ≡ 9 * levels - 1 + 1 = omega arith in
    ap (λ (k : ℕ). 2 ^ k / 2) e ∙ ap (λ (k : ℕ). k / 2) (pow-add 2 (9 * levels - 1) 1) ∙ shl-shr (2 ^ (9 * levels - 1)) 1

same_answer : (levels : ℕ) (f : ℕ → PageState) → 1 ≤ levels → (t : Progress) (x : ℕ) → answer_in (span_pages levels) t x ≡ answer_of (space_of levels f) (at-page t x)
unfolding answer_of half_end
same_answer levels f h unfound x = refl
same_answer levels f h (stopped q l r) x = refl
same_answer levels f h (running q g d) x = rw (half levels h)

pub returns : goal.returns
returns c =
    let levels = levels_of c.args.width in
    let w = lent c.args.words.now c.args.segments.now c.args.reserved in
    let pages = pages_below w levels c.args.root in
    let found : answers.answer_of c.found.result ≡ search pages c.args.page
    = c.found.ensures
    ∙ ap (λ (m : ℕ). answer_in m (progress_of c.pass_root-reached.new.progress) c.pass_root-reached.result) c.page_count.ensures
    ∙ same_answer levels pages.page (omega (arith, (few-levels c.args.width).0)) (progress_of c.pass_root-reached.new.progress) c.pass_root-reached.result
    ∙ ap (answer_of pages) (sym c.pass_root-reached.ensures.passes.comes)
    ∙ passed-search pages c.args.page (pow_mono (omega arith)) in
    record {
      still_known = c.pass_root-reached.ensures.known;
      kept = (pages-top c.args.width, rw found (kept w.reserved (memory_of w) levels (table_from w.words c.args.root) (few-levels c.args.width).1 c.args.page (omega (arith, c.requires.bounded))));
      found = found;
    }
