-- What the run search answers, for any number of levels. The sentences are those of document 01, "Translation and mapped runs".
use Rattle.std.specs.Prelude.{ℕ, ◌*◌, true, List, [], ◌∷◌}
use Rattle.answer.specs.Outcome.{Outcome, gives, unless_refused}
use Rattle.laws.specs.Number.{start}
use Rattle.mapping.specs.Pages.{Rights, Reason, reserved, outside, Space}
use Rattle.mapping.specs.Search.{Answer, search}
use Rattle.mapping.specs.Search as found
use Rattle.mapping.specs.Walk.{walked_pages}
use Rattle.laws.specs.Address.{virt}
use Rattle.laws.specs.Item.{Item, item, item_refusal, first_refusal}
use Rattle.paging.specs.Entry.{entry, entry_by}
use Rattle.paging.specs.Memory.{Segment, table_at, table_from, table_in}
use Rattle.paging.specs.Packed.{rights_bits}
use Rattle.paging.specs.Translate.{image_refusal, root_table, page_number}

-- what is reported of an answer: its page and frame as 4 KiB items by their addresses
pub data Report : Type 0 where
  end : Report
  stop : (page : Item) (level : ℕ) (reason : Reason) → Report
  run : (page frame : Item) (count : ℕ) → Rights → Report

-- page n starts at the sign extension of n × 4,096
abbrev pub page_item : ℕ → ℕ → Item
page_item w n = item (start w 4096 n) 0x1000

abbrev pub frame_item : ℕ → Item
frame_item n = item (n * 4096) 0x1000

abbrev pub report : ℕ → Answer → Report
report w found.end = end
report w (found.stop q l r) = stop (page_item w q) l r
report w (found.run q g c h) = run (page_item w q) (frame_item g) c h

-- an answer as five words: 0 end, 1 run, 2 and 3 a stop that is reserved or outside; the page; the frame, or the level; the count; the rights as bits
abbrev pub report_words : Report → List ℕ
report_words end = 0 ∷ 0 ∷ 0 ∷ 0 ∷ 0 ∷ []
report_words (run p f c h) = 1 ∷ p.start ∷ f.start ∷ c ∷ rights_bits h ∷ []
report_words (stop p l reserved) = 2 ∷ p.start ∷ l ∷ 0 ∷ 0 ∷ []
report_words (stop p l outside) = 3 ∷ p.start ∷ l ∷ 0 ∷ 0 ∷ []

-- how many words that is
abbrev pub answer_words : ℕ
answer_words = 5

-- the pages below the table at a place, in lent words that have these segments, for a processor that reserves the bits of `mask`
abbrev pub pages_from : (mask : ℕ) → List Segment → (words : List ℕ) → (levels place : ℕ) → Space
pages_from mask segments words levels p = walked_pages (entry_by mask) (table_in segments words) levels (table_from words p)

-- the pages of an image, by the words of its root table
abbrev pub image_pages : (levels : ℕ) → List ℕ → (base : ℕ) → List ℕ → Space
image_pages levels image base t = walked_pages (entry 52 true) (table_at image base) levels t

-- "Both calls: base 2, 3; root 2, 3 ..; then 14 ..; only then .. the 4 KiB page (1, 3).": the number that refuses a search, 0 for none
unfoldable pub search_refusal : ℕ → List ℕ → (base root a : ℕ) → ℕ
search_refusal w image base root a = first_refusal (image_refusal image base root) (item_refusal (virt w) a 0x1000)

unfoldable pub searching : (w levels : ℕ) → List ℕ → (base root a : ℕ) → Outcome Report
searching w levels image base root a =
    unless_refused (search_refusal w image base root a) (gives (report w (search (image_pages levels image base (root_table image base root)) (page_number w a))))
