-- The pages under one entry above level 1, by what the code reads of it.
use Prim.Native.Nat.{ℕ, ◌+◌, ◌-◌, ◌*◌, ◌/◌, ◌%◌, ◌^◌, ◌≤◌, ◌<◌}
use mathlib.Core.Path.{◌≡◌, sym, ◌∙◌, subst}
use mathlib.Core.Bool.{true}
use mathlib.Core.List.{List}
use mathlib.Core.Option.{Option, none, some}
use native.Mathlib.Omega.{arith}
use native.Mathlib.Nat.{mod-lt}
use lib.Bits.{bit_and, bit_xor}
use lib.Dec.{lit<}
use lib.ListN.{length}
use lib.Pow.{pow_pos}
use Rattle.mapping.specs.Pages.{reserved, outside, absent, broken, mapped}
use Rattle.mapping.specs.Walk.{HoldsNothing, span_pages, word_for}
use Rattle.paging.specs.EmptyTables.{marked}
use Rattle.paging.specs.Entry.{entry_by}
use Rattle.paging.specs.Memory.{Segment, place_from, reaching, table_from}
use Rattle.paging.specs.Packed.{rights_over}
use Rattle.paging.specs.Span.{after}
use Rattle.paging.proofs.Places.{place_inside, place-reached, table-word}
use Rattle.paging.proofs.Remembering.{marked-true}
use Rattle.paging.proofs.RightsBits.{rights-step}
use Rattle.walk.specs.declared.look.Look.{Look}
use Rattle.walk.specs.declared.look.Look.TheVariants as look
use Rattle.walk.proofs.Looks.{Sound, sound-entry}
use Rattle.walk.proofs.Upper.{under-absent, under-reserved, under-leaf, under-outside, under_table}
use Rattle.image.specs.Tables.{Lent, memory_of, HasTable, TrueFor, pages_at, word_at, LooksAt, Lower}
use Rattle.image.specs.declared.tables.Table.{Table}

module _ {words : List ℕ} {reserved : ℕ} {t : Table} {n x : ℕ} {l : Look} (looks : LooksAt words reserved t n x l) where
  abbrev table : List ℕ
  table = table_from words t.place

  abbrev word : ℕ
  word = word_at words t.place n x

  -- the word is that of the table's 512
  the-word : word_for table n x ≡ word
  the-word = table-word words t.place (x / span_pages n % 512) (mod-lt (x / span_pages n) (lit< tt))

-- the words with their segments
abbrev with : List ℕ → ℕ → List Segment → Lent
with words mask segments = record { words = words; segments = segments; reserved = mask }

-- an entry that is absent or has a reserved bit
module _ {words : List ℕ} {mask : ℕ} {t : Table} {n x : ℕ} (segments : List Segment) where
  pub absent-under : LooksAt words mask t n x look.Absent → (y : ℕ) → x ≤ y → y < after n x → pages_at (with words mask segments) (n + 1) t y ≡ absent
  absent-under e = under-absent mask segments words (table e) t.rights n x (word e) (the-word e) (sym e.says)

  pub reserved-under : LooksAt words mask t n x look.Reserved → pages_at (with words mask segments) (n + 1) t x ≡ broken (n + 1) reserved
  reserved-under e = under-reserved mask segments words (table e) t.rights n x (word e) (the-word e) (sym e.says)

-- a leaf
module _ {words : List ℕ} {mask : ℕ} {t : Table} {n x g u : ℕ} (e : LooksAt words mask t n x (look.Leaf g u)) where
  pub leaf-frame : g + x % span_pages n < 2 ^ 40
  leaf-frame =
      let s : Sound n (look.Leaf g u) = subst (λ (k : Look). Sound n k) (sym e.says) (sound-entry mask n (word e)) in
      omega (arith, mod-lt x (pow_pos (9 * n)))

  -- with the rights that all words have
  pub leaf-under : (segments : List Segment) (y : ℕ) → x ≤ y → y < after n x
      → pages_at (with words mask segments) (n + 1) t y ≡ mapped (g + x % span_pages n + (y - x)) (rights_over (bit_and t.rights (bit_xor u (2 ^ 63))))
  leaf-under segments = rw (rights-step t.rights u) (under-leaf mask segments words (table e) t.rights n x (word e) (the-word e) g u (sym e.says))

-- one that names a table
module _ {words : List ℕ} {mask : ℕ} {t : Table} {n x a u : ℕ} (segments : List Segment) (e : LooksAt words mask t n x (look.Next a u)) (inside : HasTable (with words mask segments) t.place) where
  -- where that is
  reached : {o : Option ℕ} → o ≡ place_from 0 (reaching (length words) segments) a → place_from 0 segments a ≡ o
  reached m = sym (m ∙ place-reached segments (length words) a inside.1)

  pub outside-under : none ≡ place_from 0 (reaching (length words) segments) a → pages_at (with words mask segments) (n + 1) t x ≡ broken (n + 1) outside
  outside-under m = under-outside mask segments words (table e) t.rights n x (word e) (the-word e) a u (sym e.says) (reached m)

  pub lower-under : {p : ℕ} → some p ≡ place_from 0 (reaching (length words) segments) a → Lower (with words mask segments) n t x (record { place = p; rights = bit_and t.rights (bit_xor u (2 ^ 63)) })
  lower-under {p} m = record {
    inside = omega (arith, place_inside segments 0 a p (reached m), inside.1);
    pages = under_table mask segments words (table e) t.rights n x (word e) (the-word e) a u (sym e.says) p (reached m);
  }

-- a lower table that is known to hold nothing
pub empty-under : {w : Lent} {t lower : Table} {n x : ℕ} → Lower w n t x lower → (bytes : List ℕ) → TrueFor w bytes → 1 ≤ n → n ≤ 4 → marked bytes lower.place (n - 1) ≡ true
    → (y : ℕ) → x ≤ y → y < after n x → pages_at w (n + 1) t y ≡ absent
empty-under {w} {t} {lower} {n} l bytes h i j s y b d =
    let level : n - 1 + 1 ≡ n = omega arith in
    let nothing : HoldsNothing (entry_by w.reserved) (memory_of w) n (table_from w.words lower.place)
    = subst (λ (k : ℕ). HoldsNothing (entry_by w.reserved) (memory_of w) k (table_from w.words lower.place)) level
    (marked-true (entry_by w.reserved) (memory_of w) w.words bytes h lower.place (n - 1) (omega arith) s) in
    l.pages y b d ∙ nothing (rights_over lower.rights) y
