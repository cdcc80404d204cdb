-- The root of a search in an image, and what refuses it.
use Prim.Native.Nat.{ℕ, ◌+◌, ◌≤◌}
use mathlib.Core.Path.{◌≡◌, refl, sym}
use mathlib.Core.List.{List}
use mathlib.Core.Option.{some}
use native.Mathlib.Omega.{arith}
use lib.ListN.{length}
use Rattle.std.specs.Prelude.{Ok, Err}
use Rattle.answer.specs.Answers.{number_of}
use Rattle.answer.specs.declared.refusal.Refusal.{Refusal}
use Rattle.laws.specs.Address.{virt}
use Rattle.laws.specs.Item.{item_refusal}
use Rattle.paging.specs.Memory.{Segment, place_from, reaching}
use Rattle.paging.specs.Search.{pages_from, image_pages, search_refusal}
use Rattle.paging.specs.Translate.{root_table}
use Rattle.paging.proofs.Places.{place_inside}
use Rattle.paging.proofs.OneSegment.{pages-placed}
use Rattle.walk.specs.Root.{ImageAt}
use Rattle.walk.proofs.Refused.{image-told, search-told}
use Rattle.image.specs.Root.{Rooted, whole}

module _ (w : ℕ) (image : List ℕ) (base root page : ℕ) where
  -- what refuses the image refuses the search
  pub root_refused : (r : Refusal) → ImageAt (reaching (length image) (whole image base)) base root (Err r) → number_of r ≡ search_refusal w image base root page
  root_refused r h = sym (search-told image base root w page (Err r) (Err r) h refl)

  -- otherwise what refuses the page does
  module _ {place : ℕ} (h : ImageAt (reaching (length image) (whole image base)) base root (Ok place)) where
    pub page_refused : search_refusal w image base root page ≡ item_refusal (virt w) page 0x1000
    unfolding search_refusal
    page_refused = rw (image-told image base root (Ok place) h).0

    pub root_placed : place_from 0 (whole image base) root ≡ some place
    root_placed = (image-told image base root (Ok place) h).1

  -- where nothing does, with the image as one segment
  module _ {place : ℕ} (told : Rooted w image base root page (Ok place)) where
    pub root_inside : place + 512 ≤ length image
    root_inside = omega (arith, place_inside (whole image base) 0 root place told.1)

    pub root_pages : (one : List Segment) (levels : ℕ) → one ≡ whole image base → pages_from 0 one image levels place ≡ image_pages levels image base (root_table image base root)
    root_pages one levels is = rw is (pages-placed image base root levels place told.1)
