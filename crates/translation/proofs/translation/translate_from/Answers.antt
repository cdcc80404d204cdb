-- `translate_from` meets its contract.
use mathlib.Core.Path.{sym, subst}
use native.Mathlib.Omega.{arith}
use Rattle.mapping.specs.Walk.{Walked}
use Rattle.paging.specs.Memory.{table_from, table_in}
use Rattle.paging.specs.Packed.{Fits, rights_over}
use Rattle.walk.specs.Segments.{segments_of}
use Rattle.walk.proofs.Walked.{fits}
use Rattle.translation.proofs.translation.translate_from.Goals as goal

-- a level is below 8, a page is mapped at level 1, 2 or 3, its frame is below 2^40: of what the table of level 5 decides
pub answer_for-requires : goal.answer_for-requires
answer_for-requires c =
    let t = c.args.tables.now in
    let words = t.words.now in
    subst (λ (w : Walked). Fits w) (sym c.in-Decided.ensures)
    (fits t.reserved (table_in (segments_of t.segments.now) words) 5 (table_from words c.args.root) (rights_over 18446744073709551615) c.page_number-page.result (omega arith))

-- and of what the tables from level 4 on do
pub answer_for-requires-2 : goal.answer_for-requires-2
answer_for-requires-2 c =
    let t = c.args.tables.now in
    let words = t.words.now in
    let from = c.match-width.page in
    subst (λ (w : Walked). Fits w) (sym c.walk_table.ensures)
    (fits t.reserved (table_in (segments_of t.segments.now) words) 4 (table_from words from.1) (rights_over from.2) from.0 (omega arith))
