-- What the code sees in an entry above level 1, by what it tests.
use Prim.Native.Nat.{ℕ, ◌+◌, ◌-◌, ◌/◌, ◌%◌, ◌^◌, ◌≤◌, ◌<◌}
use mathlib.Core.Path.{◌≡◌, sym, ap, ◌∙◌}
use mathlib.Core.Bool.{true, false}
use native.Mathlib.Omega.{arith}
use lib.Bits.{bit_and}
use Rattle.mapping.specs.Walk.{span_pages}
use Rattle.paging.specs.Entry.{set, table_address, entry_by}
use Rattle.paging.specs.Span.{within}
use Rattle.paging.proofs.Fields.{entry_absent, entry_masked, entry-table, entry-too-high, entry-large, entry-reserved}
use Rattle.walk.specs.Look.{seen}
use Rattle.walk.specs.declared.look.Look.TheVariants as look

module _ (v n mask : ℕ) where
  two : n + 2 ≡ n + 1 + 1
  two = omega arith

  pub seen_absent : false ≡ set 0 v → look.Absent ≡ seen v (entry_by mask (n + 2) v)
  seen_absent p = rw (entry_absent mask v (n + 2) (sym p))

  module _ (p : true ≡ set 0 v) where
    pub seen_masked : (bit_and v mask ≡ 0 → ⊥) → look.Reserved ≡ seen v (entry_by mask (n + 2) v)
    seen_masked z = rw (entry_masked mask v (n + 2) (sym p) z)

    module _ (z : bit_and v mask ≡ 0) where
      pub seen_table : (a : ℕ) → false ≡ set 7 v → a ≡ table_address v → look.Next a v ≡ seen v (entry_by mask (n + 2) v)
      seen_table a q e = rw (e, two, entry-table mask v (sym p) z (n + 1) (omega arith) (sym q))

      pub seen_high : true ≡ set 7 v → 2 ≤ n → look.Reserved ≡ seen v (entry_by mask (n + 2) v)
      seen_high q h = rw (two, entry-too-high mask v (sym p) z (n + 1) (omega arith) (sym q))

      module _ (q : true ≡ set 7 v) (h : n < 2) (frame rest : ℕ) (f : frame ≡ v / 2 ^ 12 % 2 ^ 40) (e : rest ≡ within (n + 1) frame) where
        here : rest ≡ v / 2 ^ 12 % 2 ^ 40 % span_pages (n + 1)
        here = e ∙ ap (λ (g : ℕ). g % span_pages (n + 1)) f

        pub seen_leaf : rest < 2 → look.Leaf (frame - rest) v ≡ seen v (entry_by mask (n + 2) v)
        seen_leaf r =
            let d : frame - rest ≡ v / 2 ^ 12 % 2 ^ 40 - v / 2 ^ 12 % 2 ^ 40 % span_pages (n + 1) = ap (λ (g : ℕ). g - rest) f ∙ ap (λ (g : ℕ). v / 2 ^ 12 % 2 ^ 40 - g) here in
            rw (d, two, entry-large mask v (sym p) z (n + 1) (omega arith) (omega arith) (sym q) (omega (arith, here)))

        pub seen_misaligned : 2 ≤ rest → look.Reserved ≡ seen v (entry_by mask (n + 2) v)
        seen_misaligned r = rw (two, entry-reserved mask v (sym p) z (n + 1) (omega arith) (omega arith) (sym q) (λ (x : v / 2 ^ 12 % 2 ^ 40 % span_pages (n + 1) < 2). omega (arith, here)))
