-- What translation answers, for any number of levels. The sentences are those of document 01, "Translation and mapped runs".
use Rattle.std.specs.Prelude.{ℕ, ◌+◌, ◌-◌, ◌*◌, true, List, [], ◌∷◌}
use Rattle.std.proofs.Math.Option.{Option, none, some}
use Rattle.answer.specs.Outcome.{Outcome, gives, unless_refused}
use Rattle.answer.specs.Refusal.{root_outside}
use Rattle.laws.specs.Number.{number}
use Rattle.laws.specs.Index.{span, offset}
use Rattle.mapping.specs.Pages.{Rights, Reason, reserved, outside}
use Rattle.mapping.specs.Walk.{Walked, walk, all_rights}
use Rattle.mapping.specs.Walk as walked
use Rattle.laws.specs.Address.{virt, phys, given}
use Rattle.laws.specs.Item.{item_refusal, first_refusal}
use Rattle.paging.specs.Entry.{entry, entry_by}
use Rattle.paging.specs.Memory.{Segment, table_at, table_from, table_in, table_words}
use Rattle.paging.specs.Packed.{rights_bits}

-- "Translate answers mapped (physical address, size, rights), absent, reserved or outside, the last three with the entry's level"
pub data Translated : Type 0 where
  mapped : (address bytes : ℕ) → Rights → Translated
  absent : (level : ℕ) → Translated
  broken : (level : ℕ) (reason : Reason) → Translated

-- of an address, by what the walk says of its page: the offset put back, and as many bytes as an entry of that level spans
abbrev pub translated : ℕ → Walked → Translated
translated a (walked.mapped g l h) = mapped (g * 4096 + offset a) (span (l - 1)) h
translated a (walked.absent l) = absent l
translated a (walked.broken l r) = broken l r

-- the same as four words: 0 mapped, 1 absent, 2 reserved, 3 outside; the physical address, or the level; the size in bytes; the rights as bits
abbrev pub translated_words : Translated → List ℕ
translated_words (mapped p z h) = 0 ∷ p ∷ z ∷ rights_bits h ∷ []
translated_words (absent l) = 1 ∷ l ∷ 0 ∷ 0 ∷ []
translated_words (broken l reserved) = 2 ∷ l ∷ 0 ∷ 0 ∷ []
translated_words (broken l outside) = 3 ∷ l ∷ 0 ∷ 0 ∷ []

-- "then 14 if the root's 512 words aren't wholly inside": by its table, or by where that is
abbrev pub outside_refusal : {A : Type 0} → Option A → ℕ
outside_refusal none = root_outside
outside_refusal (some t) = 0

-- "root 2, 3 ..; then 14": the number that refuses a root, 0 for none
abbrev pub root_refusal : {A : Type 0} → (root : ℕ) → Option A → ℕ
root_refusal root t = first_refusal (item_refusal (phys 52) root 0x1000) (outside_refusal t)

-- "Both calls: base 2, 3; root 2, 3 (both are multiples of 4,096); then 14": the number that refuses an image, 0 for none
unfoldable pub image_refusal : List ℕ → (base root : ℕ) → ℕ
image_refusal image base root = first_refusal (item_refusal (phys 52) base 0x1000) (root_refusal root (table_at image base root))

-- the words of the root table, in an image that is not refused
abbrev pub root_table : List ℕ → (base root : ℕ) → List ℕ
root_table image base root = table_words (table_at image base root)

-- the 4 KiB page of an address, by its number
abbrev pub page_number : ℕ → ℕ → ℕ
page_number w a = number w 4096 a

-- "only then the address (1)": an address at the width `w`, by what is said of its page
abbrev pub translation_by : (w : ℕ) → (page : ℕ → Walked) → ℕ → Outcome Translated
translation_by w page a = given (virt w) a (gives (translated a (page (page_number w a))))

-- by the table at a place, in lent words that have these segments, for a processor that reserves the bits of `mask`
abbrev pub translation_from : (w levels mask : ℕ) → List Segment → (words : List ℕ) → (place a : ℕ) → Outcome Translated
translation_from w levels mask segments words p = translation_by w (walk (entry_by mask) (table_in segments words) levels (table_from words p) all_rights)

-- by the root of an image, at the width `w` with that many levels, the physical width 52 and no-execute on
unfoldable pub translation : (w levels : ℕ) → List ℕ → (base root a : ℕ) → Outcome Translated
translation w levels image base root a =
    unless_refused (image_refusal image base root)
    (translation_by w (walk (entry 52 true) (table_at image base) levels (root_table image base root) all_rights) a)
