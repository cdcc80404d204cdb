-- What the walk says of a page, as the code has it.
use Rattle.mapping.specs.Pages.{reserved, outside}
use Rattle.mapping.specs.Walk.{Walked, absent, broken, mapped}
use Rattle.walk.specs.Rights.{rights_held}
use Rattle.translation.specs.declared.tables.Walked as code
use Rattle.translation.specs.declared.tables.Walked.TheVariants as found

-- what each case stands for
abbrev pub walked_of : code.Walked → Walked
walked_of (found.Absent l) = absent l
walked_of (found.Reserved l) = broken l reserved
walked_of (found.Outside l) = broken l outside
walked_of (found.Mapped g l h) = mapped g l (rights_held h)
