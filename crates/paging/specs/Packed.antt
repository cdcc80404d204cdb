-- Rights as bits; and what the walk says of a page as one number: two bits for the kind, three for the level, three for the rights, then the frame. No code has the number
-- now; that everything is had back from it is a law of its own (proofs/Unpacking).
use Rattle.std.specs.Prelude.{ℕ, ◌+◌, ◌*◌, ◌^◌, ◌≤◌, ◌<◌, Bool, true, false, not}
use Rattle.mapping.specs.Pages.{Rights, rights, reserved, outside}
use Rattle.mapping.specs.Walk.{Walked, absent, broken, mapped}
use Rattle.paging.specs.Entry.{set}

abbrev pub digit : Bool → ℕ
digit false = 0
digit true = 1

-- rights as three bits
abbrev pub rights_bits : Rights → ℕ
rights_bits (rights w u x) = digit w + 2 * digit u + 4 * digit x

-- the rights that three bits stand for
abbrev pub rights_from : ℕ → Rights
rights_from b = rights (set 0 b) (set 1 b) (set 2 b)

-- the rights of several entries, by the bits that all of their words have, bit 63 turned over in each
abbrev pub rights_over : ℕ → Rights
rights_over all = rights (set 1 all) (set 2 all) (not (set 63 all))

-- what the walk says of a page fits: a level is below 8, a page is mapped at level 1, 2 or 3, its frame is below 2^40
abbrev pub Fits : Walked → Type 0
Fits (absent l) = l < 8
Fits (broken l r) = l < 8
Fits (mapped g l h) = (1 ≤ l) × (l ≤ 3) × (g < 2 ^ 40)

unfoldable pub packed : Walked → ℕ
packed (absent l) = 4 * l
packed (broken l reserved) = 4 * l + 1
packed (broken l outside) = 4 * l + 2
packed (mapped g l h) = 256 * g + 32 * rights_bits h + 4 * l + 3
