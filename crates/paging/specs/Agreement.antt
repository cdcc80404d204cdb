-- That the list of run searches from page zero agrees with translating all 4 KiB pages singly: document 01, "Words of demand 3". The claims about a list are those of
-- crates/mapping/specs/Agreement.antt; here are the pages and the calls that they are about, for the width `w` with that many levels.
use Rattle.std.specs.Prelude.{ℕ, ◌*◌, ◌/◌, ◌%◌, ◌<◌, ◌≡◌, true, List}
use Rattle.answer.specs.Outcome.{Outcome, gives, none, refuses}
use Rattle.laws.specs.Width.{low, canonical}
use Rattle.laws.specs.Number.{start}
use Rattle.mapping.specs.Pages.{PageState, Space}
use Rattle.mapping.specs.Pages as page
use Rattle.mapping.specs.Search.{Answer}
use Rattle.mapping.specs.Search as search
use Rattle.mapping.specs.Agreement.{Calls, Agreement}
use Rattle.mapping.specs.Walk.{span_pages, space_of}
use Rattle.laws.specs.Item.{Item}
use Rattle.paging.specs.Translate.{Translated, mapped, absent, broken, image_refusal, translation}
use Rattle.paging.specs.Search.{Report, end, stop, run, searching}

-- "A 4 KiB page is mapped, absent, reserved or outside as translate answers for its first address; if mapped, its frame is the one at the physical address answered."
-- (`RunsAgree` says that an accepted image has no other answer for such an address; here one is read as absent.)
abbrev pub state_in : Outcome Translated → PageState
state_in (gives (mapped p z h)) = page.mapped (p / 4096) h
state_in (gives (absent l)) = page.absent
state_in (gives (broken l r)) = page.broken l r
state_in none = page.absent
state_in (refuses k) = page.absent

-- the pages of an image as translation answers for their first addresses
abbrev pub translated_pages : (w levels : ℕ) → List ℕ → (base root : ℕ) → Space
translated_pages w levels image base root = space_of levels (λ n. state_in (translation w levels image base root (start w 4096 n)))

-- the 4 KiB page with the number `n`: "t canonical, low48(t) that sum", n pages from 0
pub record IsPage (w n : ℕ) (i : Item) : Type 0 where
  pub canonical-start : canonical w i.start ≡ true
  pub low-start : low w i.start ≡ n * 4096
  pub size : i.bytes ≡ 4096

-- the 4 KiB frame with the number `n`
pub record IsFrame (n : ℕ) (i : Item) : Type 0 where
  pub from_start : i.start ≡ n * 4096
  pub size : i.bytes ≡ 4096

-- "Stop with q, level, reason"; "A run answers its first page, first frame, count (at least 1) and rights.": what is reported of an answer, exactly
abbrev pub Reported : ℕ → Answer → Report → Type 0
Reported w search.end r = r ≡ end
Reported w (search.stop q l o) r = (p : Item) × IsPage w q p × (r ≡ stop p l o)
Reported w (search.run q g c h) r = (p : Item) × (f : Item) × IsPage w q p × IsFrame g f × (r ≡ run p f c h)

abbrev pub Reports : ℕ → Outcome Report → Answer → Type 0
Reports w o a = (r : Report) × (o ≡ gives r) × Reported w a r

-- the search from the page with a number
abbrev pub call_from : (w levels : ℕ) → List ℕ → (base root : ℕ) → ℕ → Outcome Report
call_from w levels image base root n = searching w levels image base root (start w 4096 n)

-- "its frame is the one at the physical address answered": a frame is at its first address
abbrev pub AtFrame : Translated → Type 0
AtFrame (mapped p z h) = p % 4096 ≡ 0
AtFrame (absent l) = Unit {0}
AtFrame (broken l r) = Unit {0}

-- translation gives an answer for the first address of every page
abbrev pub PagesTranslated : (w levels : ℕ) → List ℕ → (base root : ℕ) → Type 0
PagesTranslated w levels image base root = (n : ℕ) → n < span_pages levels → (t : Translated) × (translation w levels image base root (start w 4096 n) ≡ gives t) × AtFrame t

-- "All this is one claim about the whole list of answers, whatever its length": of every list of calls from page zero on an image, base and root that are accepted
abbrev pub RunsAgree : (w levels : ℕ) → Type 0
RunsAgree w levels =
    (image : List ℕ) (base root : ℕ) → image_refusal image base root ≡ 0
    → PagesTranslated w levels image base root
    × ((replies : List (Outcome Report)) (passed : ℕ)
    → Calls (translated_pages w levels image base root) (Reports w) (call_from w levels image base root) 0 replies passed
    → Agreement (translated_pages w levels image base root) (Reports w) (call_from w levels image base root) replies passed)
