-- What document 01 alone says, and document 02 has changed: what "as before" compares with. No function promises these. Request One has changed draws of inclusive ranges of pages,
-- request Three `len` and `size` of ranges of pages. What they have not changed is shared: a request that changes it keeps its text here. The sentences are those of document 01, "Ranges".
use Rattle.std.specs.Prelude.{ℕ, ◌+◌, ◌-◌, ◌*◌, ◌^◌, Bool, true, false, cond, ◌&&◌, List, reverse, ltb, leb, eqb}
use Rattle.std.proofs.Math.ListN.{get_elem?}
use Rattle.answer.specs.Outcome.{Outcome, gives, unless}
use Rattle.answer.specs.Refusal.{overflow}
use Rattle.laws.specs.Width.{half, first_high}
use Rattle.laws.specs.Run.{len_below, len_through}
use Rattle.laws.specs.Draw.{Draw, taken, pages_to_gap, pages_from_gap}
use Rattle.laws.specs.Address.{Addresses}
use Rattle.laws.specs.Item.{given_items}

-- "`len` is 0 when empty, else (end − start) / size on the raw 64-bit numbers, plus 1 if inclusive; across the gap it counts the gap."
abbrev pub count_below : Addresses → ℕ → ℕ → ℕ → ℕ → Outcome ℕ
count_below s a y b z = given_items s a y b z (gives (len_below a b y))

abbrev pub count_through : Addresses → ℕ → ℕ → ℕ → ℕ → Outcome ℕ
count_through s a y b z = given_items s a y b z (gives (len_through a b y))

-- "`size` (inclusive pages): 5 exactly for a start of 0 and the last page as end", where it would be 2^64
abbrev pub bytes_below : Addresses → ℕ → ℕ → ℕ → ℕ → Outcome ℕ
bytes_below s a y b z = given_items s a y b z (gives (len_below a b y * y))

abbrev pub bytes_through : Addresses → ℕ → ℕ → ℕ → ℕ → Outcome ℕ
bytes_through s a y b z =
    given_items s a y b z
    (unless overflow (cond (eqb b (2 ^ 64 - y)) (cond (eqb a 0) false true) true)
    (gives (len_through a b y * y)))

-- "or one item below it (inclusive)"; "one from the back that gives address 0 sets end on it and raises start by one item instead"
abbrev pub back_through : List ℕ → ℕ → ℕ → ℕ → ℕ → Draw
back_through l a b s n =
    let back = taken (len_through a b s) n * s in
    record { item = get_elem? (reverse l) n; start = cond (ltb b back) (a + s) a; end = cond (ltb b back) 0 (b - back) }

-- "front: start low, n ≥ d − 1, and end at or past the last low page (exclusive: end high)"
unfoldable pub gap_front_below : ℕ → ℕ → ℕ → ℕ → ℕ → Bool
gap_front_below w a b s n = ltb a (half w) && (leb (first_high w) b && leb (pages_to_gap w a s) (n + 1))

unfoldable pub gap_front_through : ℕ → ℕ → ℕ → ℕ → ℕ → Bool
gap_front_through w a b s n = ltb a (half w) && (leb (half w - s) b && leb (pages_to_gap w a s) (n + 1))

-- "Back: end high, n ≥ k, and start at or below 0xffff_8000_0000_0000 (exclusive: start low)"
unfoldable pub gap_back_below : ℕ → ℕ → ℕ → ℕ → ℕ → Bool
gap_back_below w a b s n = leb (first_high w) b && (ltb a (half w) && leb (pages_from_gap w b s) n)

unfoldable pub gap_back_through : ℕ → ℕ → ℕ → ℕ → ℕ → Bool
gap_back_through w a b s n = leb (first_high w) b && (leb a (first_high w) && leb (pages_from_gap w b s) n)
