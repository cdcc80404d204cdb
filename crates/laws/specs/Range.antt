-- What the calls on ranges of pages and of frames answer, beside the draws. `a` and `y` are the start and its size, `b` and `z` the end and its size.
-- The sentences are those of document 01, "Ranges", but where another is named.
use Rattle.std.specs.Prelude.{ℕ, ◌*◌, Bool, ltb, leb}
use Rattle.answer.specs.Outcome.{Outcome, gives}
use Rattle.laws.specs.Run.{len_below, len_through}
use Rattle.laws.specs.Address.{Addresses}
use Rattle.laws.specs.Item.{Item, item, given_items}

-- a range: its first item and its end
pub record Ends : Type 0 where
  pub first : Item
  pub last : Item

abbrev pub ends : Item → Item → Ends
ends x y = record { first = x; last = y }

-- "Making a range: start, end, then 7 if sizes differ; a range handed to any call is tested the same way first."
abbrev pub make_range : Addresses → ℕ → ℕ → ℕ → ℕ → Outcome Ends
make_range s a y b z = given_items s a y b z (gives (ends (item a y) (item b z)))

-- "An exclusive range is empty if start ≥ end, an inclusive one if start > end."
abbrev pub empty_below : Addresses → ℕ → ℕ → ℕ → ℕ → Outcome Bool
empty_below s a y b z = given_items s a y b z (gives (leb b a))

abbrev pub empty_through : Addresses → ℕ → ℕ → ℕ → ℕ → Outcome Bool
empty_through s a y b z = given_items s a y b z (gives (ltb b a))

-- "`len` is 0 when empty, else (end − start) / size .., plus 1 if inclusive", for pages "steps by low48, divided by the size, plus 1 if inclusive" (document 02, request Three): by the positions, which are in
-- the order of the addresses
abbrev pub count_below : Addresses → ℕ → ℕ → ℕ → ℕ → Outcome ℕ
count_below s a y b z = given_items s a y b z (gives (len_below (s.position a) (s.position b) y))

abbrev pub count_through : Addresses → ℕ → ℕ → ℕ → ℕ → Outcome ℕ
count_through s a y b z = given_items s a y b z (gives (len_through (s.position a) (s.position b) y))

-- "`size` follows it": as many bytes as the items have; "and `size` has no refusal 5 left" (document 02, request Three)
abbrev pub bytes_below : Addresses → ℕ → ℕ → ℕ → ℕ → Outcome ℕ
bytes_below s a y b z = given_items s a y b z (gives (len_below (s.position a) (s.position b) y * y))

abbrev pub bytes_through : Addresses → ℕ → ℕ → ℕ → ℕ → Outcome ℕ
bytes_through s a y b z = given_items s a y b z (gives (len_through (s.position a) (s.position b) y * y))
