-- Translation in an image, by the code's place of its root.
use Prim.Native.Nat.{ℕ}
use mathlib.Core.Path.{◌≡◌, sym, ap, ◌∙◌}
use mathlib.Core.List.{List, [], ◌∷◌}
use native.Mathlib.Omega.{arith}
use lib.ListN.{length}
use Rattle.std.specs.Prelude.{Ok, Err}
use Rattle.answer.specs.Outcome.{Outcome, refuses, gives}
use Rattle.answer.specs.Answers.{number_of}
use Rattle.answer.specs.declared.refusal.Refusal.{Refusal}
use Rattle.answer.proofs.Refused.{refused_number}
use Rattle.laws.specs.Address.{virt}
use Rattle.laws.specs.Address as address
use Rattle.mapping.specs.Walk.{Entry, walk, all_rights}
use Rattle.paging.specs.Entry.{entry_by}
use Rattle.paging.specs.Memory.{Segment, reaching, table_at, Inside}
use Rattle.paging.specs.Translate.{Translated, translated, root_table, page_number, translation, translation_from}
use Rattle.paging.proofs.Fields.{no-mask}
use Rattle.paging.proofs.Places.{place_inside}
use Rattle.paging.proofs.OneSegment.{root-placed}
use Rattle.walk.specs.Root.{ImageAt}
use Rattle.walk.proofs.Refused.{image-told}

module _ (image : List ℕ) (base root : ℕ) where
  abbrev whole : List Segment
  whole = record { base = base; words = length image } ∷ []

  pub image_refused : (r : Refusal) (w levels a : ℕ) → ImageAt (reaching (length image) whole) base root (Err r) → refuses (number_of r) ≡ translation w levels image base root a
  unfolding translation
  image_refused r w levels a h = rw (image-told image base root (Err r) h) (sym (refused_number r _))

  module _ (p : ℕ) (h : ImageAt (reaching (length image) whole) base root (Ok p)) where
    pub image_inside : Inside whole image p
    image_inside = let r = image-told image base root (Ok p) h in (omega (arith, place_inside whole 0 root p r.1), omega arith)

    pub image_translated : (w levels a : ℕ) → translation_from w levels 0 whole image p a ≡ translation w levels image base root a
    unfolding translation
    image_translated w levels a =
        let r = image-told image base root (Ok p) h in
        let by : (ℕ → ℕ → Entry) → List ℕ → Outcome Translated
        = λ e t. address.given (virt w) a (gives (translated a (walk e (table_at image base) levels t all_rights (page_number w a)))) in
        ap (by (entry_by 0)) (sym (root-placed image base root p r.1))
        ∙ ap (λ (e : ℕ → ℕ → Entry). by e (root_table image base root)) no-mask
        ∙ rw r.0
