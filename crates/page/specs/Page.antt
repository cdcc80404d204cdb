-- What the calls on pages answer, beside what they share with frames, over the width `w`. The sentences are those of document 01, "Pages".
use Rattle.std.specs.Prelude.{ℕ, ◌-◌, ◌*◌, ◌/◌, Bool, cond, ◌||◌, List, [], ◌∷◌, leb, eqb, get_or, Option, Result}
use Rattle.answer.specs.Outcome.{Outcome, gives, none, unless, only_if, and_then}
use Rattle.answer.specs.Answers.{outcome_of, optional_of}
use Rattle.answer.specs.Refusal.{sizes_differ}
use Rattle.answer.specs.declared.refusal.Refusal.{Refusal}
use Rattle.laws.specs.Width.{sign_extend}
use Rattle.laws.specs.Steps.{forward, backward, steps}
use Rattle.laws.specs.Index.{span, index, assemble}
use Rattle.table.specs.Index.{given_index}
use Rattle.table.specs.Level.{bytes_of}
use Rattle.table.specs.declared.size.PageSize.{PageSize}
use Rattle.laws.specs.Address.{virt}
use Rattle.laws.specs.Item.{Item, item, given_item, given_items}
use Rattle.page.specs.declared.page.Page.{Page}

-- where a page starts, and its size in bytes
abbrev pub start : Page → ℕ
start p = p.start_address.0

abbrev pub bytes : Page → ℕ
bytes p = bytes_of p.size

-- a page as an item, and the page of a size that starts at a number
abbrev pub item_of : Page → Item
item_of p = item (start p) (bytes p)

abbrev pub page_at : PageSize → ℕ → Page
page_at z a = record { start_address = record { 0 = a }; size = z }

-- what a result with a page stands for, and what one with a page or none does
abbrev pub page_of : Result Page Refusal → Outcome Item
page_of = outcome_of item_of

abbrev pub page_step_of : Result (Option Page) Refusal → Outcome Item
page_step_of = optional_of item_of

-- a page's index at a level is that of its start, also below its own
abbrev pub page_index : ℕ → ℕ → ℕ → ℕ → Outcome ℕ
page_index w a z l = given_item (virt w) a z (gives (index l a))

-- the same at a width with so many levels: none where it has no such level (document 02, request Four)
abbrev pub page_level_index : (w levels a z l : ℕ) → Outcome ℕ
page_level_index w levels a z l = given_item (virt w) a z (only_if (leb l levels) (index l a))

-- `p1_index`, `p2_index`: the source has them only for pages that are no larger than an entry of the level spans; 7 for the others
abbrev pub own_index : ℕ → ℕ → ℕ → ℕ → Outcome ℕ
own_index w a z l = given_item (virt w) a z (unless sizes_differ (leb z (span (l - 1))) (gives (index l a)))

-- the indices of the levels from 1 on, as a list
abbrev pub indices : List ℕ → ℕ → ℕ
indices ps l = get_or ps (l - 1) 0

-- "`from_page_table_indices` (four indices; three at 2 MiB, two at 1 GiB) sign-extends the assembled address": the levels below have index 0
abbrev pub assembled_page : ℕ → ℕ → List ℕ → ℕ → Outcome Item
assembled_page w l ps z = gives (item (sign_extend w (assemble l (indices ps) 0)) z)

abbrev pub from_indices : ℕ → ℕ → ℕ → ℕ → Outcome Item
from_indices p4 p3 p2 p1 =
    given_index p4 (given_index p3 (given_index p2 (given_index p1 (assembled_page 48 4 (p1 ∷ p2 ∷ p3 ∷ p4 ∷ []) 0x1000))))

abbrev pub from_indices_2mib : ℕ → ℕ → ℕ → Outcome Item
from_indices_2mib p4 p3 p2 = given_index p4 (given_index p3 (given_index p2 (assembled_page 48 4 (0 ∷ p2 ∷ p3 ∷ p4 ∷ []) 0x20_0000)))

abbrev pub from_indices_1gib : ℕ → ℕ → Outcome Item
from_indices_1gib p4 p3 = given_index p4 (given_index p3 (assembled_page 48 4 (0 ∷ 0 ∷ p3 ∷ p4 ∷ []) 0x4000_0000))

-- document 02, request Four: "level 5 .. is the first index when a page is assembled", of any size: the levels below have index 0. A width without level 5 has index 0 there only: else
-- there is no such page
abbrev pub fifth_index_fits : (levels p5 : ℕ) → Bool
fifth_index_fits levels p5 = leb 5 levels || eqb p5 0

unfoldable pub page_of_indices : (w levels p5 p4 p3 p2 p1 z : ℕ) → Outcome Item
page_of_indices w levels p5 p4 p3 p2 p1 z =
    given_index p5 (given_index p4 (given_index p3 (given_index p2 (given_index p1
    (cond (fifth_index_fits levels p5) (assembled_page w levels (p1 ∷ p2 ∷ p3 ∷ p4 ∷ p5 ∷ []) z) none)))))

-- "the wrappers above the address steps: `None` also if count × size passes 64 bits": such a count is past the last page anyway
abbrev pub page_forward : ℕ → ℕ → ℕ → ℕ → Outcome Item
page_forward w a z n = given_item (virt w) a z (and_then (forward w a (n * z)) (λ t. gives (item t z)))

abbrev pub page_backward : ℕ → ℕ → ℕ → ℕ → Outcome Item
page_backward w a z n = given_item (virt w) a z (and_then (backward w a (n * z)) (λ t. gives (item t z)))

-- "`steps_between_u64` on pages: 7; otherwise address steps divided by the size"
abbrev pub page_steps : ℕ → ℕ → ℕ → ℕ → ℕ → Outcome ℕ
page_steps w a y b z = given_items (virt w) a y b z (and_then (steps w a b) (λ d. gives (d / z)))
