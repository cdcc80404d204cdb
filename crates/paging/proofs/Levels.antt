-- An entry of level 5 says what one of level 4 says.
use mathlib.Core.Path.{refl}
use Rattle.paging.specs.Entry.{entry, entry_by}
use Rattle.paging.specs.Levels.{AsLevel4}

pub as-level-4 : AsLevel4
unfolding entry entry_by
as-level-4 = (λ w x v. refl, λ mask v. refl)
