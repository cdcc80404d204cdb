-- Draws from a range, on numbers: the item drawn, and where the range starts and ends after it. The sentences are those of document 01, "Ranges", but where another is named.
use Rattle.std.specs.Prelude.{ℕ, ◌+◌, ◌-◌, ◌*◌, ◌/◌, ◌^◌, min, Bool, cond, ◌&&◌, List, reverse, ltb, leb}
use Rattle.std.proofs.Math.Option.{Option}
use Rattle.std.proofs.Math.ListN.{get_elem?}
use Rattle.laws.specs.Width.{half, first_high}
use Rattle.laws.specs.Run.{len_below, len_through}

pub record Draw : Type 0 where
  pub item : Option ℕ
  pub start : ℕ
  pub end : ℕ

-- how many of `k` items a draw of the one at `n` takes: all where there are not so many ("the range is left as after drawing all")
abbrev pub taken : ℕ → ℕ → ℕ
taken k n = min (n + 1) k

-- "`nth(n)` gives the item n places on and leaves start just past it", of the `k` items `l`
abbrev pub front_of : List ℕ → ℕ → ℕ → ℕ → ℕ → ℕ → Draw
front_of l k a b s n = record { item = get_elem? l n; start = a + taken k n * s; end = b }

-- "`nth_back(n)` gives the item n places before the back one and leaves end at that item (exclusive)": of ends that are whole sizes apart, as those of
-- an accepted range are (`end-at-item` of proofs/Draw.antt)
abbrev pub back_of : List ℕ → ℕ → ℕ → ℕ → ℕ → ℕ → Draw
back_of l k a b s n = record { item = get_elem? (reverse l) n; start = a; end = b - taken k n * s }

-- "An inclusive draw from the front that gives the topmost page or frame of its size sets start on it and lowers end by one item instead": where the start would
-- pass `top`, the topmost item
abbrev pub front_inclusive_of : List ℕ → ℕ → ℕ → ℕ → ℕ → ℕ → ℕ → Draw
front_inclusive_of l k top a b s n =
    let next = a + taken k n * s in
    record { item = get_elem? l n; start = cond (ltb top next) top next; end = cond (ltb top next) (top - s) b }

-- "or one item below it (inclusive)"; "one from the back that gives address 0 sets end on it and raises start by one item instead": where the end would pass `bottom`,
-- the lowest item
abbrev pub back_inclusive_of : List ℕ → ℕ → ℕ → ℕ → ℕ → ℕ → ℕ → Draw
back_inclusive_of l k bottom a b s n =
    let back = taken k n * s in
    record { item = get_elem? (reverse l) n; start = cond (ltb b (bottom + back)) (a + s) a; end = cond (ltb b (bottom + back)) bottom (b - back) }

-- the same of as many items as have room between the numbers `a` and `b`: of frames, and of pages as document 01 alone has them
abbrev pub front_below : List ℕ → ℕ → ℕ → ℕ → ℕ → Draw
front_below l a b s n = front_of l (len_below a b s) a b s n

abbrev pub back_below : List ℕ → ℕ → ℕ → ℕ → ℕ → Draw
back_below l a b s n = back_of l (len_below a b s) a b s n

abbrev pub front_through : List ℕ → ℕ → ℕ → ℕ → ℕ → ℕ → Draw
front_through l top a b s n = front_inclusive_of l (len_through a b s) top a b s n

abbrev pub back_through : List ℕ → ℕ → ℕ → ℕ → ℕ → ℕ → Draw
back_through l bottom a b s n = back_inclusive_of l (len_through a b s) bottom a b s n

-- where the end after a draw would be below 0, at which a difference of numbers stops: that of `back_below`, and that of `front_through` at the topmost item. The other
-- two draws lower no end below 0.
abbrev pub under_back_below : ℕ → ℕ → ℕ → ℕ → Bool
under_back_below a b s n = ltb b (taken (len_below a b s) n * s)

abbrev pub under_front_through : ℕ → ℕ → ℕ → ℕ → ℕ → Bool
under_front_through top a b s n = ltb top (a + taken (len_through a b s) n * s) && ltb top s

-- "Page draws: 10. Let d be the pages from start up to the gap and k those from 0xffff_8000_0000_0000 up to end, not counting end", at the width `w`
abbrev pub pages_to_gap : ℕ → ℕ → ℕ → ℕ
pages_to_gap w a s = (half w - a) / s

abbrev pub pages_from_gap : ℕ → ℕ → ℕ → ℕ
pages_from_gap w b s = (b - first_high w) / s

-- "front: start low, n ≥ d − 1" and end high. So document 01 has it for exclusive ranges, and document 02, request One, for inclusive ones too: "Refusal 10 stays for ranges with
-- start low and end high, under the conditions of 01"
unfoldable pub gap_front : ℕ → ℕ → ℕ → ℕ → ℕ → Bool
gap_front w a b s n = ltb a (half w) && (leb (first_high w) b && leb (pages_to_gap w a s) (n + 1))

-- the same from the back: "end high, n ≥ k" and start low
unfoldable pub gap_back : ℕ → ℕ → ℕ → ℕ → ℕ → Bool
gap_back w a b s n = leb (first_high w) b && (ltb a (half w) && leb (pages_from_gap w b s) n)

-- the topmost page of a size
abbrev pub top_page : ℕ → ℕ
top_page s = 2 ^ 64 - s

-- the topmost page of an inclusive range: where start and end are low, the last low page of the size. "If start and end are both the last low page, a front draw gives it and lowers
-- end by one page" (document 02, request One)
unfoldable pub top_of : ℕ → ℕ → ℕ → ℕ → ℕ
top_of w a b s = cond (ltb a (half w) && ltb b (half w)) (half w - s) (top_page s)

-- its lowest page: where both are high, the first high page. "If both are the first high page, a back draw gives it and raises start by one page"
unfoldable pub bottom_of : ℕ → ℕ → ℕ → ℕ
bottom_of w a b = cond (leb (first_high w) a && leb (first_high w) b) (first_high w) 0
