-- An image is one segment: what refuses it, where its root is, and its pages.
use Prim.Native.Nat.{ℕ}
use mathlib.Core.Path.{◌≡◌, refl, sym, ap, ◌∙◌}
use mathlib.Core.List.{List, [], ◌∷◌}
use mathlib.Core.Option.{Option, none, some}
use native.Mathlib.Omega.{arith}
use lib.ListN.{length}
use Rattle.mapping.specs.Walk.{Entry, walked_pages}
use Rattle.laws.specs.Address.{phys}
use Rattle.laws.specs.Item.{item_refusal, first_refusal}
use Rattle.paging.specs.Entry.{entry_by}
use Rattle.paging.specs.Memory.{Segment, place_from, reaching, table_at, table_from, table_where, table_words}
use Rattle.paging.specs.Translate.{outside_refusal, root_refusal, image_refusal, root_table}
use Rattle.paging.specs.Search.{image_pages, pages_from}
use Rattle.paging.proofs.Fields.{no-mask}
use Rattle.paging.proofs.Places.{reaching-all}

module _ (image : List ℕ) (base root : ℕ) where
  abbrev whole : List Segment
  whole = record { base = base; words = length image } ∷ []

  -- the same numbers refuse it
  pub image-segment : first_refusal (item_refusal (phys 52) base 0x1000) (root_refusal root (place_from 0 whole root)) ≡ image_refusal image base root
  unfolding image_refusal table_where
  image-segment = ap (λ (n : ℕ). first_refusal (item_refusal (phys 52) base 0x1000) (first_refusal (item_refusal (phys 52) root 0x1000) n)) (go (place_from 0 whole root))
    where
      go : (o : Option ℕ) → outside_refusal o ≡ outside_refusal (table_where image o)
      go none = refl
      go (some p) = refl

  pub whole-reached : reaching (length image) whole ≡ whole
  whole-reached = reaching-all whole (length image) (omega arith)

  -- its root has the words at its place
  pub root-placed : (p : ℕ) → place_from 0 whole root ≡ some p → root_table image base root ≡ table_from image p
  unfolding table_where
  root-placed p e = ap (λ (o : Option ℕ). table_words (table_where image o)) e

  -- so its pages are those below that place
  pub pages-placed : (levels p : ℕ) → place_from 0 whole root ≡ some p → pages_from 0 whole image levels p ≡ image_pages levels image base (root_table image base root)
  pages-placed levels p e =
      ap (λ (t : List ℕ). walked_pages (entry_by 0) (table_at image base) levels t) (sym (root-placed p e))
      ∙ ap (λ (by : ℕ → ℕ → Entry). walked_pages by (table_at image base) levels (root_table image base root)) no-mask
