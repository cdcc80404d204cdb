-- What the words of tables say, over the level of the table, the physical width `w` and whether no-execute is on. Today these are 52 and on.
-- The sentences are those of document 01, "Entry rules"; the manual is AMD64 APM volume 2, "Long-Mode Page Translation"; of five levels "The Intel SDM vol. 3A decides" (document 02, request Four).
use Rattle.std.specs.Prelude.{ℕ, ◌+◌, ◌-◌, ◌*◌, ◌/◌, ◌%◌, ◌^◌, Bool, false, cond, not, ◌&&◌, ◌||◌, eqb, leb}
use Rattle.std.specs.Int.Bits.{bit_and}
use Rattle.laws.specs.Width.{bit}
use Rattle.mapping.specs.Pages.{Rights, rights}
use Rattle.mapping.specs.Walk.{Entry, not_present, reserved_bit, maps, table}

-- the bit `k` of a word, as a truth value
abbrev pub set : ℕ → ℕ → Bool
set k v = eqb (bit k v) 1

-- "1 writable, 2 user, .. 63 no-execute"
abbrev pub rights_of : ℕ → Rights
rights_of v = rights (set 1 v) (set 2 v) (set 63 v)

-- "7 large (levels 2 and 3; unread at level 1)"
abbrev pub large : ℕ → ℕ → Bool
large l v = leb 2 l && leb l 3 && set 7 v

-- "Reserved: bit 7 at level 4"; "level-5 entries follow the rules for level 4" (document 02, request Four)
abbrev pub large_too_high : ℕ → ℕ → Bool
large_too_high l v = leb 4 l && set 7 v

-- "in a large entry bits 13 to 20 (level 2) or 13 to 29 (level 3)"
abbrev pub large_not_aligned : ℕ → ℕ → Bool
large_not_aligned l v = large l v && not (eqb (v / 2 ^ 13 % 2 ^ (9 * (l - 1) - 1)) 0)

-- document 02: "Entry bits W to 51 are reserved. Bit 63 is reserved if no-execute is off": none at 52 and on
abbrev pub beyond_processor : ℕ → Bool → ℕ → Bool
beyond_processor w no_execute v = not (eqb (v / 2 ^ w % 2 ^ (52 - w)) 0) || cond no_execute false (set 63 v)

abbrev pub reserves : ℕ → Bool → ℕ → ℕ → Bool
reserves w no_execute l v = beyond_processor w no_execute v || (large_too_high l v || large_not_aligned l v)

-- "address in bits 12 to 51, of a large page from bit 21 or 30": the number of the first 4 KiB frame that an entry of level `l` maps
abbrev pub first_frame : ℕ → ℕ → ℕ
first_frame l v = v / 2 ^ (12 + 9 * (l - 1)) % 2 ^ (40 - 9 * (l - 1)) * 2 ^ (9 * (l - 1))

abbrev pub table_address : ℕ → ℕ
table_address v = v / 2 ^ 12 % 2 ^ 40 * 2 ^ 12

-- "Check order: present, reserved, large or level 1 (mapped), next table"
unfoldable pub entry : ℕ → Bool → ℕ → ℕ → Entry
entry w no_execute l v =
    cond (set 0 v)
    (cond (reserves w no_execute l v) reserved_bit
    (cond (eqb l 1 || large l v) (maps (first_frame l v) (rights_of v)) (table (table_address v) (rights_of v))))
    not_present

-- the same with the bits that the processor reserves as a mask, which the code makes once for a call: at 52 and on it has none (`no-mask` of proofs/Fields.antt)
abbrev pub reserves_by : (mask l v : ℕ) → Bool
reserves_by mask l v = not (eqb (bit_and v mask) 0) || (large_too_high l v || large_not_aligned l v)

unfoldable pub entry_by : (mask l v : ℕ) → Entry
entry_by mask l v =
    cond (set 0 v)
    (cond (reserves_by mask l v) reserved_bit
    (cond (eqb l 1 || large l v) (maps (first_frame l v) (rights_of v)) (table (table_address v) (rights_of v))))
    not_present
