-- The statuses of the C interface that are no refusal's number; document 01 gives refusals the numbers 1 to 14.
use Rattle.std.specs.Prelude.{ℕ}

-- the answer's words are stored
abbrev pub answered : ℕ
answered = 0

-- a width, a level or a page size is none of those there are
abbrev pub no_such_choice : ℕ
no_such_choice = 253

-- there is an answer, and the lent words are too few for it
abbrev pub no_room : ℕ
no_room = 254

-- there is no such item
abbrev pub no_item : ℕ
no_item = 255
