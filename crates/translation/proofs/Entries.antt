-- A page by the entry that a table in lent words has for it.
use Prim.Native.Nat.{ℕ, ◌+◌, ◌-◌, ◌*◌, ◌/◌, ◌%◌, ◌^◌, ◌≤◌, ◌<◌}
use mathlib.Core.Path.{◌≡◌, sym, ap, ◌∙◌, subst}
use mathlib.Core.Bool.{true, false}
use mathlib.Core.List.{List}
use mathlib.Core.Option.{Option, none, some}
use native.Mathlib.Omega.{arith}
use native.Mathlib.Nat.{mod-lt, mod-one, div-one}
use lib.Bits.{bit_and, bit_xor}
use lib.Dec.{lit<}
use lib.Pow.{pow_pos}
use lib.ListN.{length, get_or}
use Rattle.mapping.specs.Pages.{reserved, outside}
use Rattle.mapping.specs.Walk.{Walked, absent, broken, mapped, joined, span_pages, entry_index, word_for, follow, walk}
use Rattle.paging.specs.Entry.{set, rights_of, entry_by}
use Rattle.paging.specs.Memory.{Segment, place_from, reaching, table_from, table_in, table_where, Inside}
use Rattle.paging.specs.Packed.{rights_over}
use Rattle.paging.proofs.Fields.{entry_absent, entry_masked, entry-page}
use Rattle.paging.proofs.Places.{table-word, place_inside, place-reached}
use Rattle.paging.proofs.RightsBits.{rights-step}
use Rattle.walk.specs.Look.{seen}
use Rattle.walk.specs.Segments.{segments_of}
use Rattle.walk.specs.declared.look.Look.{Look}
use Rattle.walk.specs.declared.look.Look.TheVariants as look
use Rattle.walk.specs.declared.memory.Tables.{Tables}
use Rattle.walk.proofs.Looks.{reads, walk-word, Sound, sound-entry}

-- an index of nine bits
pub index-lt : (x n : ℕ) → entry_index n x < 512
index-lt x n = mod-lt (x / span_pages n) (lit< tt)

-- the page by the word of a table of level 1
module _ (mask : ℕ) (words : List ℕ) (place page rights : ℕ) (memory : ℕ → Option (List ℕ)) where
  abbrev last : ℕ
  last = get_or words (place + page % 512) 0

  abbrev here : Walked
  here = walk (entry_by mask) memory 1 (table_from words place) (rights_over rights) page

  by_word : (l : Look) → seen last (entry_by mask 1 last) ≡ l → reads mask memory 0 (rights_over rights) page l ≡ here
  by_word l e =
      let w : word_for (table_from words place) 0 page ≡ last
      = ap (λ (x : ℕ). get_or (table_from words place) (x % 512) 0) (div-one page)
      ∙ table-word words place (page % 512) (mod-lt page (lit< tt)) in
      sym (walk-word mask memory 0 (rights_over rights) page (table_from words place) last w
      ∙ ap (reads mask memory 0 (rights_over rights) page) e)

  pub page_absent : false ≡ set 0 last → absent 1 ≡ here
  page_absent p = by_word look.Absent (ap (seen last) (entry_absent mask last 1 (sym p)))

  module _ (p : true ≡ set 0 last) where
    pub page_reserved : (bit_and last mask ≡ 0 → ⊥) → broken 1 reserved ≡ here
    page_reserved z = by_word look.Reserved (ap (seen last) (entry_masked mask last 1 (sym p) z))

    pub page_mapped : (frame allowed : ℕ) → bit_and last mask ≡ 0 → frame ≡ last / 2 ^ 12 % 2 ^ 40 → allowed ≡ bit_xor last (2 ^ 63) → mapped frame 1 (rights_over (bit_and rights allowed)) ≡ here
    page_mapped frame allowed z f g =
        let e : frame ≡ last / 2 ^ 12 % 2 ^ 40 + page % span_pages 0 = f ∙ omega (arith, mod-one page) in
        rw (e, g, rights-step rights last) (by_word (look.Leaf (last / 2 ^ 12 % 2 ^ 40) last) (ap (seen last) (entry-page mask last (sym p) z)))

-- the page by the word of a table of level 2 or above
module _ (tables : Tables) (place level page rights : ℕ) (high : 2 ≤ level) where
  abbrev words : List ℕ
  words = tables.words.now

  abbrev segments : List Segment
  segments = segments_of tables.segments.now

  abbrev memory : ℕ → Option (List ℕ)
  memory = table_in segments words

  abbrev below : (level : ℕ) → List ℕ → ℕ → Walked
  below level t all = walk (entry_by tables.reserved) memory level t (rights_over all) page

  -- what the contract says of the page
  abbrev answer : Walked
  answer = below level (table_from words place) rights

  abbrev word : ℕ
  word = get_or words (place + entry_index (level - 1) page) 0

  -- what the code looked up, at the code's level and at that of the definition
  abbrev Looked : Look → Type 0
  Looked l = l ≡ seen word (entry_by tables.reserved (level - 2 + 2) word)

  looked-word : (l : Look) → Looked l → l ≡ seen word (entry_by tables.reserved (level - 1 + 1) word)
  looked-word l e =
      let h : level - 2 + 2 ≡ level - 1 + 1 = omega (arith, high) in
      e ∙ ap (λ (k : ℕ). seen word (entry_by tables.reserved k word)) h

  told : (l : Look) → Looked l → reads tables.reserved memory (level - 1) (rights_over rights) page l ≡ answer
  told l e =
      let n = level - 1 in
      let table = table_from words place in
      let h : n + 1 ≡ level = omega (arith, high) in
      let w = table-word words place (entry_index n page) (index-lt page n) in
      ap (reads tables.reserved memory n (rights_over rights) page) (looked-word l e)
      ∙ sym (walk-word tables.reserved memory n (rights_over rights) page table word w)
      ∙ ap (λ (k : ℕ). below k table rights) h

  same-level : level ≡ level - 1 + 1
  same-level = omega (arith, high)

  pub told_absent : Looked look.Absent → absent level ≡ answer
  told_absent e = ap absent same-level ∙ told look.Absent e

  pub told_reserved : Looked look.Reserved → broken level reserved ≡ answer
  told_reserved e = ap (λ (k : ℕ). broken k reserved) same-level ∙ told look.Reserved e

  module _ (first own : ℕ) (e : Looked (look.Leaf first own)) where
    pub told_leaf : (rest allowed : ℕ) → rest ≡ page % span_pages (level - 1) → allowed ≡ bit_xor own (2 ^ 63)
        → mapped (first + rest) level (rights_over (bit_and rights allowed)) ≡ answer
    told_leaf rest allowed f g =
        rw (f, g, rights-step rights own)
        (ap (λ (k : ℕ). mapped (first + page % span_pages (level - 1)) k (joined (rights_over rights) (rights_of own))) same-level ∙ told (look.Leaf first own) e)

    -- a large page is of level 2 or 3, its frame is below 2^40
    pub frame_fits : (rest : ℕ) → rest ≡ page % span_pages (level - 1) → first + rest < 2 ^ 40
    frame_fits rest f =
        let s = subst (λ (k : Look). Sound (level - 1) k) (sym (looked-word (look.Leaf first own) e)) (sound-entry tables.reserved (level - 1) word) in
        omega (arith, s.1, f, mod-lt page (pow_pos (9 * (level - 1))))

  -- the next table, by its place in words that have just these segments
  module _ (address own : ℕ) (e : Looked (look.Next address own)) (inside : Inside segments words place) where
    abbrev Placed : Option ℕ → Type 0
    Placed o = o ≡ place_from 0 (reaching (length words) segments) address

    placed : (o : Option ℕ) → Placed o → place_from 0 segments address ≡ o
    placed o f = sym (place-reached segments (length words) address inside.1) ∙ sym f

    by_place : (o : Option ℕ) → Placed o
        → follow (table_where words o) level (λ t. walk (entry_by tables.reserved) memory (level - 1) t (joined (rights_over rights) (rights_of own)) page) ≡ answer
    by_place o f =
        let by : Option ℕ → ℕ → Walked
        = λ p k. follow (table_where words p) k (λ t. walk (entry_by tables.reserved) memory (level - 1) t (joined (rights_over rights) (rights_of own)) page) in
        ap (by o) same-level ∙ ap (λ (p : Option ℕ). by p (level - 1 + 1)) (sym (placed o f)) ∙ told (look.Next address own) e

    pub told_outside : Placed none → broken level outside ≡ answer
    unfolding table_where
    told_outside f = by_place none f

    -- it is inside
    pub lower_inside : (lower : ℕ) → Placed (some lower) → lower + 512 ≤ length words
    lower_inside lower f = omega (arith, inside.1, place_inside segments 0 address lower (placed (some lower) f))

    pub told_below : (lower allowed n : ℕ) → Placed (some lower) → allowed ≡ bit_xor own (2 ^ 63) → n ≡ level - 1 → below n (table_from words lower) (bit_and rights allowed) ≡ answer
    unfolding table_where
    told_below lower allowed n f g h = rw (g, rights-step rights own, h) (by_place (some lower) f)
