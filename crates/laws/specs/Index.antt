-- Table indices and offset of an address. The sentences are those of document 01, "Indices" and "Pages".
use Rattle.std.specs.Prelude.{ℕ, zero, suc, ◌+◌, ◌-◌, ◌*◌, ◌/◌, ◌%◌, ◌^◌}

-- "The spans of the levels ..: 2^12, 2^21, 2^30, 2^39 for one entry, 2^48 for the whole level-4 table": a table of level `l` spans as much as an entry of the next.
-- So a table of level 5 spans 2^57
abbrev pub span : ℕ → ℕ
span l = 2 ^ (12 + 9 * l)

-- "The index at a level is nine bits from bit 12 + 9 × (level − 1)"; "level 5 has its nine bits from bit 48" (document 02, request Four)
abbrev pub index : ℕ → ℕ → ℕ
index l a = a / 2 ^ (12 + 9 * (l - 1)) % 512

-- "the offset is bits 0 to 11"
abbrev pub offset : ℕ → ℕ
offset a = a % 4096

-- the number with these indices at the levels from 1 to `l`, and this offset
unfoldable pub assemble : ℕ → (ℕ → ℕ) → ℕ → ℕ
assemble zero i o = o
assemble (suc l) i o = i (suc l) * span l + assemble l i o
