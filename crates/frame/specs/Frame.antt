-- What the calls on frames answer, beside what they share with pages. The sentences are those of document 01, "Frames".
use Rattle.std.specs.Prelude.{ℕ, ◌*◌, ◌/◌, ltb, Result}
use Rattle.answer.specs.Outcome.{Outcome, gives, unless}
use Rattle.answer.specs.Answers.{outcome_of}
use Rattle.answer.specs.Refusal.{pfn_too_large}
use Rattle.answer.specs.declared.refusal.Refusal.{Refusal}
use Rattle.table.specs.Level.{bytes_of}
use Rattle.table.specs.declared.size.PageSize.{PageSize}
use Rattle.laws.specs.Address.{phys, phys_size}
use Rattle.laws.specs.Item.{Item, item, given_item}
use Rattle.frame.specs.declared.frame.PhysFrame.{PhysFrame}

-- where a frame starts, and its size in bytes
abbrev pub start : PhysFrame → ℕ
start f = f.start_address.0

abbrev pub bytes : PhysFrame → ℕ
bytes f = bytes_of f.size

-- a frame as an item, and the frame of a size that starts at a number
abbrev pub item_of : PhysFrame → Item
item_of f = item (start f) (bytes f)

abbrev pub frame_at : PageSize → ℕ → PhysFrame
frame_at z a = record { start_address = record { 0 = a }; size = z }

-- what a result with a frame stands for
abbrev pub frame_of : Result PhysFrame Refusal → Outcome Item
frame_of = outcome_of item_of

-- "`try_from_pfn`: 12 exactly if number × size ≥ 2^52"
abbrev pub from_pfn : ℕ → ℕ → Outcome Item
from_pfn n z = unless pfn_too_large (ltb (n * z) phys_size) (gives (item (n * z) z))

-- "start / size"
abbrev pub pfn_of : ℕ → ℕ → Outcome ℕ
pfn_of a z = given_item (phys 52) a z (gives (a / z))
