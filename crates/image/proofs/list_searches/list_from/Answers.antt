-- `list_from` writes the answers of the searches that have room.
use Prim.Native.Nat.{ℕ, ◌+◌, ◌*◌, ◌<◌}
use mathlib.Core.Path.{◌≡◌}
use native.Mathlib.Omega.{arith}
use native.Mathlib.Nat.{add-sub_cancel_left}
use lib.Seq.{drop-drop}
use Rattle.mapping.specs.Pages.{Spanned}
use Rattle.mapping.proofs.Walk.{spanned}
use Rattle.addr.specs.Widths.{width_of, levels_of}
use Rattle.paging.specs.Entry.{entry_by}
use Rattle.paging.specs.Memory.{table_from}
use Rattle.paging.proofs.ListTurns.{first-turn, next-turn, over, same_length}
use Rattle.image.specs.Tables.{Lent, memory_of, lent, pages_below}
use Rattle.image.proofs.list_searches.list_from.Goals as goal

whole : (w : Lent) (levels root : ℕ) → Spanned (pages_below w levels root)
whole w levels root = spanned (entry_by w.reserved) (memory_of w) levels (table_from w.words root)

pub loop-written-init : goal.loop-written-init
loop-written-init c =
    let a = c.args in
    record { turn = first-turn (width_of a.width) (pages_below (lent a.words.now a.segments.now a.reserved) (levels_of a.width) a.root) a.page a.out.now (omega (arith, c.requires.bounded)); known = c.requires.known }

pub returns-then-at-pages-clause-listed : goal.returns-then-at-pages-clause-listed
returns-then-at-pages-clause-listed c = over c.loop-written.invariant.turn (omega (arith, c.if-at-pages.true, c.page_count-pages.ensures))

pub loop-written-preserved : goal.loop-written-preserved
loop-written-preserved c =
    let a = c.args in
    let pages = pages_below (lent a.words.now a.segments.now a.reserved) (levels_of a.width) a.root in
    let turn = c.loop-written.invariant.turn in
    let going : c.loop-written.at < pages.size = omega (arith, c.if-at-pages.false, c.page_count-pages.ensures, turn.inside) in
    let used : (c.loop-written.written + 1) * 5 ≡ c.loop-written.written * 5 + 5 = omega arith in
    record {
      turn =
          rw (c.next_page-at.ensures (levels_of a.width) pages.page c.page_count-pages.ensures, c.find-found.ensures.found, used)
          (next-turn turn (whole (lent a.words.now a.segments.now a.reserved) (levels_of a.width) a.root) going _
          (omega (arith, c.loop-written-test.true, same_length turn)) (rw (c.store.ensures, c.find-found.ensures.found, add-sub_cancel_left, drop-drop)));
      known = c.find-found.ensures.still_known;
    }
