-- `pass_lowest` goes over a table of level 1, and remembers it if it holds nothing.
use lib.Dec.{lit<}
use Rattle.image.specs.Tables.{Lent, memory_of}
use Rattle.image.proofs.Remembered.{remembered}
use Rattle.image.proofs.tables.pass_lowest.Goals as goal

pub returns : goal.returns
returns c segments known =
    let a = c.args in
    let w : Lent = record { words = a.words.now; segments = segments; reserved = a.reserved } in
    remembered w 0 a.table a.empty.now c.requires.going known c.requires.inside (lit< tt)
    (rw c.table_at-part.ensures at (c.pass_pages-reached.ensures (memory_of w))) c.is_unfound.ensures c.remember_whole.ensures
