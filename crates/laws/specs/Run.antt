-- What a range of pages or frames stands for: numbers one size apart. `a` is the start, `b` the end, `s` the size.
-- The sentences are those of document 01, "Ranges", but where another is named.
use Rattle.std.specs.Prelude.{ℕ, zero, suc, ◌+◌, ◌-◌, ◌/◌, min, max, cond, List, [], ◌∷◌, ◌++◌, ltb}
use Rattle.laws.specs.Width.{low, half, first_high}

-- `a`, `a + s`, `a + 2 s`, ..: `k` numbers
unfoldable pub run : ℕ → ℕ → ℕ → List ℕ
run a s zero = []
run a s (suc k) = a ∷ run (a + s) s k

-- "`len` is 0 when empty, else (end − start) / size on the raw 64-bit numbers, plus 1 if inclusive"; "An exclusive range is empty if start ≥ end, an inclusive one
-- if start > end": a difference is never below 0
unfoldable pub len_below : ℕ → ℕ → ℕ → ℕ
len_below a b s = (b - a) / s

unfoldable pub len_through : ℕ → ℕ → ℕ → ℕ
len_through a b s = cond (ltb b a) 0 ((b - a) / s + 1)

-- the items of an exclusive and of an inclusive range
abbrev pub below : ℕ → ℕ → ℕ → List ℕ
below a b s = run a s (len_below a b s)

abbrev pub through : ℕ → ℕ → ℕ → List ℕ
through a b s = run a s (len_through a b s)

-- "From now on `len` of a page range is the number of real pages: steps by low48, divided by the size, plus 1 if inclusive" (document 02, request Three): the same of the low parts, which
-- at the width `w` are in the order of the addresses
abbrev pub page_len_below : ℕ → ℕ → ℕ → ℕ → ℕ
page_len_below w a b s = len_below (low w a) (low w b) s

abbrev pub page_len_through : ℕ → ℕ → ℕ → ℕ → ℕ
page_len_through w a b s = len_through (low w a) (low w b) s

-- the pages of a range, at the width `w`: those of it below the gap, then those of it above; the gap has none
unfoldable pub pages_below : ℕ → ℕ → ℕ → ℕ → List ℕ
pages_below w a b s = below a (min b (half w)) s ++ below (max a (first_high w)) b s

unfoldable pub pages_through : ℕ → ℕ → ℕ → ℕ → List ℕ
pages_through w a b s = through a (min b (half w - s)) s ++ through (max a (first_high w)) b s
