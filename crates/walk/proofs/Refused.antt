-- What refuses an image and a search in it, by the code's place of the root.
use Prim.Native.Nat.{ℕ, zero, suc}
use mathlib.Core.Path.{◌≡◌, ap, ◌∙◌, subst}
use mathlib.Core.List.{List, [], ◌∷◌}
use mathlib.Core.Option.{Option}
use lib.ListN.{length}
use Rattle.std.specs.Prelude.{Result, Ok, Err}
use Rattle.answer.specs.Outcome.{gives, unless_refused}
use Rattle.answer.specs.Answers.{u64_of}
use Rattle.answer.specs.declared.refusal.Refusal.{Refusal}
use Rattle.laws.specs.Address.{virt}
use Rattle.laws.specs.Item.{item_refusal, first_refusal}
use Rattle.item.proofs.Checked.{first_number}
use Rattle.paging.specs.Memory.{Segment, place_from, reaching}
use Rattle.paging.specs.Translate.{image_refusal}
use Rattle.paging.specs.Search.{search_refusal}
use Rattle.paging.proofs.OneSegment.{image-segment, whole-reached}
use Rattle.walk.specs.Root.{Placed, ImageAt, with_page}

-- the page of a search is tried behind what is tried before it
page-told : (w a k : ℕ) (o : Option ℕ) (r s : Result ℕ Refusal) → Placed k o r → u64_of s ≡ with_page w a (u64_of r) → Placed (first_refusal k (item_refusal (virt w) a 0x1000)) o s
page-told w a k o (Ok p) s h e = go (item_refusal (virt w) a 0x1000) s e
  where
    go : (n : ℕ) (s : Result ℕ Refusal) → u64_of s ≡ unless_refused n (gives p) → Placed (first_refusal k n) o s
    go zero (Ok q) f = (ap (λ (m : ℕ). first_refusal m 0) h.0, let g : p ≡ q = cc in rw g at h.1)
    go zero (Err z) f = cc
    go (suc n) (Ok q) f = cc
    go (suc n) (Err z) f = ap (λ (m : ℕ). first_refusal m (suc n)) h.0 ∙ (cc)
page-told w a k o (Err z) (Ok q) h e = cc
page-told w a k o (Err z) (Err y) h e = ap (λ (m : ℕ). first_refusal m (item_refusal (virt w) a 0x1000)) h ∙ first_number z _ ∙ (cc)

module _ (image : List ℕ) (base root : ℕ) where
  abbrev whole : List Segment
  whole = record { base = base; words = length image } ∷ []

  -- the code's place of its root is told by the definitions' numbers
  pub image-told : (r : Result ℕ Refusal) → ImageAt (reaching (length image) whole) base root r → Placed (image_refusal image base root) (place_from 0 whole root) r
  image-told r h =
      subst (λ (k : ℕ). Placed k (place_from 0 whole root) r) (image-segment image base root) (subst (λ (l : List Segment). ImageAt l base root r) (whole-reached image base root) h)

  pub search-told : (w a : ℕ) (r s : Result ℕ Refusal) → ImageAt (reaching (length image) whole) base root r → u64_of s ≡ with_page w a (u64_of r)
      → Placed (search_refusal w image base root a) (place_from 0 whole root) s
  unfolding search_refusal
  search-told w a r s h e = page-told w a (image_refusal image base root) (place_from 0 whole root) r s (image-told r h) e
