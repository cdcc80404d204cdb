-- Which bits of an entry are unread: document 01, "Entry rules". The word's meaning does not depend on them.
use Rattle.std.specs.Prelude.{ℕ, ◌≤◌, ◌<◌, ◌≡◌, Bool, true, false, ◌⊎◌}
use Rattle.laws.specs.Width.{bit}
use Rattle.paging.specs.Entry.{set, large, entry}

-- the bit `k` of the word `v` in a table of level `l`
pub data Unread (l v : ℕ) : ℕ → Type 0 where
  -- "bit 0 present (clear: absent, other bits unread)"
  of-absent : {k : ℕ} → set 0 v ≡ false → 0 < k → Unread l v k
  -- "Bits not named here are unread": 3 to 6; 8 to 11, of which 8 is ignored by the Intel SDM, volume 3A, too; 52 to 62
  flags : {k : ℕ} → 3 ≤ k → k ≤ 6 → Unread l v k
  available : {k : ℕ} → 8 ≤ k → k ≤ 11 → Unread l v k
  above-address : {k : ℕ} → 52 ≤ k → k ≤ 62 → Unread l v k
  -- "7 large (levels 2 and 3; unread at level 1)"
  large-at-1 : l ≡ 1 → Unread l v 7
  -- "and so is bit 12 of a large entry"
  large-12 : large l v ≡ true → Unread l v 12

-- two words that differ in unread bits only
abbrev pub SameRead : (l v u : ℕ) → Type 0
SameRead l v u = (k : ℕ) → k < 64 → (bit k v ≡ bit k u) ⊎ Unread l v k

-- they say the same, at every level, every physical width from 13 to 52 bits, and with no-execute on or off
abbrev pub UnreadBits : Type 0
UnreadBits = (w : ℕ) (no_execute : Bool) (l v u : ℕ) → 13 ≤ w → w ≤ 52 → 1 ≤ l → SameRead l v u → entry w no_execute l v ≡ entry w no_execute l u
