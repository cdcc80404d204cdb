-- The pages under one entry above level 1, by what it says.
use Prim.Native.Nat.{ℕ, ◌+◌, ◌-◌, ◌*◌, ◌/◌, ◌%◌, ◌^◌, ◌≤◌, ◌<◌}
use mathlib.Core.Path.{◌≡◌, sym, ap, ◌∙◌}
use mathlib.Core.List.{List}
use mathlib.Core.Option.{Option, none, some}
use native.Mathlib.Omega.{arith}
use native.Mathlib.Nat.{div-add-mod'}
use lib.Bits.{bit_and, bit_xor}
use lib.ListN.{get_or}
use Rattle.mapping.specs.Pages.{Rights, reserved, outside, PageState, absent, broken, mapped}
use Rattle.mapping.specs.Walk.{joined, span_pages, word_for, follow, walk, state_of}
use Rattle.paging.specs.Entry.{rights_of, entry_by}
use Rattle.paging.specs.Memory.{Segment, place_from, table_from, table_where, table_in}
use Rattle.paging.specs.Packed.{rights_over}
use Rattle.paging.specs.Pages.{pages_by}
use Rattle.paging.specs.Span.{after}
use Rattle.paging.proofs.RightsBits.{rights-step}
use Rattle.paging.proofs.Spanning.{ahead_of, same-entry}
use Rattle.walk.specs.Look.{seen}
use Rattle.walk.specs.declared.look.Look.{Look}
use Rattle.walk.specs.declared.look.Look.TheVariants as look
use Rattle.walk.proofs.Looks.{reads, walk-word}

module _ (mask : ℕ) (segments : List Segment) (words t : List ℕ) (all n x v : ℕ) (word : word_for t n x ≡ v) where
  abbrev memory : ℕ → Option (List ℕ)
  memory = table_in segments words

  abbrev pages : ℕ → PageState
  pages = pages_by mask memory (n + 1) t (rights_over all)

  by-look : (l : Look) → seen v (entry_by mask (n + 1) v) ≡ l → (y : ℕ) → x ≤ y → y < after n x → pages y ≡ state_of (reads mask memory n (rights_over all) y l)
  by-look l e y a b =
      let w : word_for t n y ≡ v = ap (λ (q : ℕ). get_or t (q % 512) 0) (same-entry n x y a b) ∙ word in
      ap state_of (walk-word mask memory n (rights_over all) y t v w ∙ ap (reads mask memory n (rights_over all) y) e)

  pub under-absent : seen v (entry_by mask (n + 1) v) ≡ look.Absent → (y : ℕ) → x ≤ y → y < after n x → pages y ≡ absent
  under-absent e = by-look look.Absent e

  pub under-reserved : seen v (entry_by mask (n + 1) v) ≡ look.Reserved → pages x ≡ broken (n + 1) reserved
  under-reserved e = by-look look.Reserved e x (omega arith) (ahead_of n x)

  pub under-leaf : (g u : ℕ) → seen v (entry_by mask (n + 1) v) ≡ look.Leaf g u → (y : ℕ) → x ≤ y → y < after n x
      → pages y ≡ mapped (g + x % span_pages n + (y - x)) (joined (rights_over all) (rights_of u))
  under-leaf g u e y a b =
      let q : y / span_pages n * span_pages n ≡ x / span_pages n * span_pages n = ap (λ (k : ℕ). k * span_pages n) (same-entry n x y a b) in
      let f : g + y % span_pages n ≡ g + x % span_pages n + (y - x) = omega (arith, div-add-mod' x (span_pages n), div-add-mod' y (span_pages n)) in
      by-look (look.Leaf g u) e y a b ∙ ap (λ (k : ℕ). mapped k (joined (rights_over all) (rights_of u))) f

  module _ (a u : ℕ) (e : seen v (entry_by mask (n + 1) v) ≡ look.Next a u) where
    pub under-outside : place_from 0 segments a ≡ none → pages x ≡ broken (n + 1) outside
    unfolding table_where
    under-outside m =
        by-look (look.Next a u) e x (omega arith) (ahead_of n x)
        ∙ ap (λ (o : Option ℕ). state_of (follow (table_where words o) (n + 1) (λ t'. walk (entry_by mask) memory n t' (joined (rights_over all) (rights_of u)) x))) m

    pub under_table : (p : ℕ) → place_from 0 segments a ≡ some p → (y : ℕ) → x ≤ y → y < after n x
        → pages y ≡ pages_by mask memory n (table_from words p) (rights_over (bit_and all (bit_xor u (2 ^ 63)))) y
    unfolding table_where
    under_table p m y i j =
        by-look (look.Next a u) e y i j
        ∙ ap (λ (o : Option ℕ). state_of (follow (table_where words o) (n + 1) (λ t'. walk (entry_by mask) memory n t' (joined (rights_over all) (rights_of u)) y))) m
        ∙ ap (λ (r : Rights). pages_by mask memory n (table_from words p) r y) (sym (rights-step all u))
