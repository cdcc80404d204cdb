-- What the numbers of pages stand for in the walk and the search: the pages of a space are the 4 KiB pages of the addresses of width `w`, with that many levels. The
-- sentences are those of document 01, "Indices" and "Translation and mapped runs".
use Rattle.std.specs.Prelude.{ℕ, ◌-◌, ◌/◌, ◌≤◌, ◌<◌, ◌≡◌, true, ◌↔◌}
use Rattle.laws.specs.Width.{half, first_high, canonical}
use Rattle.laws.specs.Number.{number, start}
use Rattle.laws.specs.Index.{index}
use Rattle.mapping.specs.Pages.{Space}
use Rattle.mapping.specs.Walk.{entry_index}

-- two pages have the same indices down to the level `l`
abbrev pub SameIndices : (w levels l x y : ℕ) → Type 0
SameIndices w levels l x y = (k : ℕ) → l ≤ k → k ≤ levels → index k (start w 4096 x) ≡ index k (start w 4096 y)

pub record PageNumbers (w levels : ℕ) (s : Space) : Type 0 where
  -- each address is in a page of the space, and each page starts at an address, which is in that page
  pub inside : (a : ℕ) → number w 4096 a < s.size
  pub starts : (n : ℕ) → canonical w (start w 4096 n) ≡ true
  pub back : (n : ℕ) → n < s.size → number w 4096 (start w 4096 n) ≡ n
  -- "The index at a level is nine bits from bit 12 + 9 × (level − 1)": so is the walk's, of an address by its page
  pub indices : (a l : ℕ) → 1 ≤ l → l ≤ levels → entry_index (l - 1) (number w 4096 a) ≡ index l a
  -- "the pages of the broken entry's span: all whose indices down to its level are those of q"
  pub spans : (x y l : ℕ) → x < s.size → y < s.size → 1 ≤ l → l ≤ levels → (x / s.span l ≡ y / s.span l) ↔ SameIndices w levels l x y
  -- "A half is the pages below the gap or those above it."
  pub low_half : (n : ℕ) → n < s.high → start w 4096 n < half w
  pub high_half : (n : ℕ) → s.high ≤ n → n < s.size → first_high w ≤ start w 4096 n
