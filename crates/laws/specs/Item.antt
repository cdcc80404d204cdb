-- What the calls on pages and frames answer. A page is an item of the virtual addresses, a frame one of the physical ones; `z` is the size in bytes.
-- The sentences are those of document 01, "Frames" and "Pages".
use Rattle.std.specs.Prelude.{ℕ, zero, suc, ◌-◌, ◌*◌, ◌/◌, ◌%◌, cond, leb, eqb}
use Rattle.answer.specs.Outcome.{Outcome, gives, unless, unless_refused, and_then}
use Rattle.answer.specs.Refusal.{not_aligned, overflow, sizes_differ}
use Rattle.laws.specs.Align.{down}
use Rattle.laws.specs.Address.{Addresses, given, sum, difference}

-- a page or a frame: where it starts, and its size in bytes
pub record Item : Type 0 where
  pub start : ℕ
  pub bytes : ℕ

abbrev pub item : ℕ → ℕ → Item
item a z = record { start = a; bytes = z }

-- the number with which a page or frame handed in is refused, 0 for none: that of its address, then "3 a start that is no multiple of its page size"
unfoldable pub item_refusal : Addresses → ℕ → ℕ → ℕ
item_refusal s a z = cond (s.holds a) (cond (eqb (a % z) 0) 0 not_aligned) s.argument

-- a page or frame handed in, then what follows
abbrev pub given_item : {A : Type 0} → Addresses → ℕ → ℕ → Outcome A → Outcome A
given_item s a z o = unless_refused (item_refusal s a z) o

-- "`from_start_address`: 3"
abbrev pub from_start : Addresses → ℕ → ℕ → Outcome Item
from_start s a z = given_item s a z (gives (item a z))

-- "`containing_address`, here and for frames, aligns down to the size."
abbrev pub containing : Addresses → ℕ → ℕ → Outcome Item
containing s a z = given s a (gives (item (down z a) z))

-- the start and the size of an item
abbrev pub start_of : Addresses → ℕ → ℕ → Outcome ℕ
start_of s a z = given_item s a z (gives a)

abbrev pub size_of : Addresses → ℕ → ℕ → Outcome ℕ
size_of s a z = given_item s a z (gives z)

-- "`+`, `-`: 5 if count × size or the sum passes 64 bits or goes below zero, then 8", for pages "then 6": as for addresses, `n` × `z` bytes on
abbrev pub plus_item : Addresses → ℕ → ℕ → ℕ → Outcome Item
plus_item s a z n = given_item s a z (and_then (sum s a (n * z)) (λ x. gives (item x z)))

abbrev pub minus_item : Addresses → ℕ → ℕ → ℕ → Outcome Item
minus_item s a z n = given_item s a z (and_then (difference s a (n * z)) (λ x. gives (item x z)))

-- the first of two numbers that refuses
abbrev pub first_refusal : ℕ → ℕ → ℕ
first_refusal zero m = m
first_refusal (suc n) m = suc n

-- the number with which two items handed in are refused, 0 for none: that of the first, that of the second, then "7 if sizes differ"
unfoldable pub items_refusal : Addresses → ℕ → ℕ → ℕ → ℕ → ℕ
items_refusal s a y b z = first_refusal (item_refusal s a y) (first_refusal (item_refusal s b z) (cond (eqb y z) 0 sizes_differ))

-- two items handed in, then what follows
abbrev pub given_items : {A : Type 0} → Addresses → ℕ → ℕ → ℕ → ℕ → Outcome A → Outcome A
given_items s a y b z o = unless_refused (items_refusal s a y b z) o

-- "Frame minus frame: 7 if sizes differ, then 5"; "Page minus page: 7, then 5"
abbrev pub distance_item : Addresses → ℕ → ℕ → ℕ → ℕ → Outcome ℕ
distance_item s a y b z = given_items s a y b z (unless overflow (leb b a) (gives ((a - b) / z)))
