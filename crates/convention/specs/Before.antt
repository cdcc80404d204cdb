-- That the calls of the C interface answer at 48 bits what they answered before the width was asked for: "Old profile answers don't change" (document 02, request Four). Their clauses have the
-- definitions that they had, over the width handed in; here is that what came around these, and the few that have changed, mean the same at 48 bits.
use Rattle.std.specs.Prelude.{ℕ, ◌≤◌, ◌≡◌, false, cond, List, ltb}
use Rattle.answer.specs.Outcome.{Outcome, unless}
use Rattle.laws.specs.Address.{table_index, level_index}
use Rattle.page.specs.Page.{page_index, page_level_index, page_of_indices, from_indices, from_indices_2mib, from_indices_1gib}
use Rattle.paging.specs.List.{Listing}
use Rattle.status.specs.Status.{no_such_choice}
use Rattle.convention.specs.Choice.{at_width, levels_with, at_level}
use Rattle.convention.specs.Images.{leaves_list, leaves_list_at, LeftBytes, LeftBytesAt}

-- document 01: "level 1 to 4"
abbrev pub at_level_before : ℕ → Outcome (List ℕ) → Outcome (List ℕ)
at_level_before n o = unless no_such_choice (cond (ltb 0 n) (ltb n 5) false) o

pub record AsBefore : Type 0 where
  pub width : (o : Outcome (List ℕ)) → at_width 48 o ≡ o
  pub levels : levels_with 48 ≡ 4
  pub level : (n : ℕ) (o : Outcome (List ℕ)) → at_level (levels_with 48) n o ≡ at_level_before n o
  -- the index at a level, of an address and of a page
  pub index : (a l : ℕ) → l ≤ 4 → level_index 48 (levels_with 48) a l ≡ table_index 48 a l
  pub page-level : (a z l : ℕ) → l ≤ 4 → page_level_index 48 (levels_with 48) a z l ≡ page_index 48 a z l
  -- a page from its indices, where that of level 5 is 0
  pub page-4-kib : (p4 p3 p2 p1 : ℕ) → page_of_indices 48 (levels_with 48) 0 p4 p3 p2 p1 0x1000 ≡ from_indices p4 p3 p2 p1
  pub page-2-mib : (p4 p3 p2 : ℕ) → page_of_indices 48 (levels_with 48) 0 p4 p3 p2 0 0x20_0000 ≡ from_indices_2mib p4 p3 p2
  pub page-1-gib : (p4 p3 : ℕ) → page_of_indices 48 (levels_with 48) 0 p4 p3 0 0 0x4000_0000 ≡ from_indices_1gib p4 p3
  -- a list, and what is promised of the bytes lent to it
  pub list : (l : Listing) (answers out : List ℕ) → leaves_list_at 48 l answers out ≡ leaves_list l answers out
  pub bytes : (image : List ℕ) (base root a : ℕ) (out before after : List ℕ) → LeftBytesAt 48 image base root a out before after → LeftBytes 48 image base root a out before after
