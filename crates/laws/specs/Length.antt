-- The length of a range of pages is that of the list of its pages: "From now on `len` of a page range is the number of real pages" (document 02, request Three), over the width and
-- the size.
use Rattle.std.specs.Prelude.{ℕ, ◌+◌, ◌%◌, ◌≡◌, true, cond, ltb, length}
use Rattle.std.proofs.Math.Option.{some, none}
use Rattle.std.proofs.Math.ListN.{get_elem?}
use Rattle.laws.specs.Width.{canonical}
use Rattle.laws.specs.Run.{page_len_below, page_len_through, pages_below, pages_through}
use Rattle.laws.specs.Number.{number, start}

-- a page of size `s`, by where it starts
pub record IsPage (w s a : ℕ) : Type 0 where
  pub address : canonical w a ≡ true
  pub whole : a % s ≡ 0

pub record CountsPages (w s : ℕ) : Type 0 where
  pub below : (a b : ℕ) → IsPage w s a → IsPage w s b → page_len_below w a b s ≡ length (pages_below w a b s)
  pub through : (a b : ℕ) → IsPage w s a → IsPage w s b → page_len_through w a b s ≡ length (pages_through w a b s)

-- and that list has the real pages, one after the other: the one at n has the number of the start and n more
pub record ListsPages (w s : ℕ) : Type 0 where
  pub below : (a b n : ℕ) → IsPage w s a → IsPage w s b → get_elem? (pages_below w a b s) n ≡ cond (ltb n (page_len_below w a b s)) (some (start w s (number w s a + n))) none
  pub through : (a b n : ℕ) → IsPage w s a → IsPage w s b → get_elem? (pages_through w a b s) n ≡ cond (ltb n (page_len_through w a b s)) (some (start w s (number w s a + n))) none
