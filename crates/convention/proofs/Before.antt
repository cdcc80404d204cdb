-- At 48 bits the calls answer what they did.
use mathlib.Core.Path.{◌≡◌, refl}
use mathlib.Core.Bool.{true}
use lib.Dec.{leb}
use borrow.Author.Tests.{le-leb}
use Rattle.laws.specs.Index.{assemble}
use Rattle.page.specs.Page.{page_of_indices}
use Rattle.convention.specs.Before.{AsBefore}
use Rattle.convention.specs.Choice.{is_width, is_level, width_with}

pub as-before : AsBefore
unfolding is_width is_level width_with page_of_indices assemble
as-before =
    record {
      width = λ o. refl;
      levels = refl;
      level = λ n o. refl;
      index = λ a l h. let e : leb l 4 ≡ true = le-leb l 4 h in rw e;
      page-level = λ a z l h. let e : leb l 4 ≡ true = le-leb l 4 h in rw e;
      page-4-kib = λ p4 p3 p2 p1. refl;
      page-2-mib = λ p4 p3 p2. refl;
      page-1-gib = λ p4 p3. refl;
      list = λ l answers out. refl;
      bytes = λ image base root a out before after l. l.at-width refl;
    }
