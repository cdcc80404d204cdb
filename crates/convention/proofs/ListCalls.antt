-- What a caller of the C function that lists reads is what `list` answers, so that its chains of calls agree as those of `list` do.
use Prim.Native.Nat.{ℕ, zero, suc, ◌+◌, ◌*◌, ◌≤◌}
use mathlib.Core.Path.{◌≡◌, refl, sym, subst, fun_ext}
use mathlib.Core.Bool.{Bool, true, false}
use mathlib.Core.List.{List}
use lib.Dec.{ltb}
use lib.ListN.{length}
use native.Mathlib.Omega.{arith}
use borrow.Author.Tests.{le-leb, ne_eqb}
use Rattle.answer.specs.Outcome.{gives, unless_refused}
use Rattle.laws.specs.Width.{IsWidth}
use Rattle.mapping.specs.Pages.{Space}
use Rattle.mapping.specs.Search.{left_after}
use Rattle.addr.specs.declared.width.Width.TheVariants.{Bits48, Bits57}
use Rattle.addr.proofs.Widths.{widths}
use Rattle.paging.specs.Translate.{page_number, root_table}
use Rattle.paging.specs.Search.{search_refusal, image_pages}
use Rattle.paging.specs.List.{Listing, room, settled, listing}
use Rattle.paging.specs.ListAgreement.{ChainsAgree}
use Rattle.paging.proofs.ListAgreement.{lists_agree}
use Rattle.status.specs.Status.{answered}
use Rattle.status.specs.Convention.{leaves}
use Rattle.convention.specs.Choice.{is_width}
use Rattle.convention.specs.Images.{listed_length, leaves_list, leaves_list_at}
use Rattle.convention.specs.ListCalls.{read_list, ListCallsAgree}

module _ (w : ℕ) (s : Space) (p : ℕ) (answers own : List ℕ) (h : listed_length ≤ length own) where
  read-settled : (k : ℕ) → read_list (leaves_list (settled w (unless_refused k (gives s)) p answers) answers own) ≡ settled w (unless_refused k (gives s)) p answers
  unfolding read_list leaves_list leaves
  read-settled (suc k) = simp (le-leb listed_length (length own) h, ne_eqb (suc k) answered (λ z. omega arith))
  read-settled zero = go (ltb (left_after s (room answers) p) s.size) refl
    where
      go : (b : Bool) → ltb (left_after s (room answers) p) s.size ≡ b
          → read_list (leaves_list (settled w (gives s) p answers) answers own) ≡ settled w (gives s) p answers
      go true e = simp (e, le-leb listed_length (length own) h)
      go false e = simp (e, le-leb listed_length (length own) h)

read-list : (w levels : ℕ) (image : List ℕ) (base root a : ℕ) (answers own : List ℕ) → listed_length ≤ length own
    → read_list (leaves_list (listing w levels image base root a answers) answers own) ≡ listing w levels image base root a answers
unfolding listing
read-list w levels image base root a answers own h =
    read-settled w (image_pages levels image base (root_table image base root)) (page_number w a) answers own h (search_refusal w image base root a)

read-list-at : (w levels : ℕ) (image : List ℕ) (base root a : ℕ) (answers own : List ℕ) → is_width w ≡ true → listed_length ≤ length own
    → read_list (leaves_list_at w (listing w levels image base root a answers) answers own) ≡ listing w levels image base root a answers
read-list-at w levels image base root a answers own c h = rw c (read-list w levels image base root a answers own h)

pub list-calls-agree : (w levels : ℕ) → IsWidth w → w ≡ 9 * levels + 12 → is_width w ≡ true → ListCallsAgree w levels
list-calls-agree w levels v e c image base root ok own h =
    subst (λ (call : ℕ → List ℕ → Listing). ChainsAgree w levels image base root call)
    (fun_ext (λ a. fun_ext (λ answers. sym (read-list-at w levels image base root a answers (own a answers) c (h a answers)))))
    (lists_agree w levels v e image base root ok)

pub list-calls-agree-48 : ListCallsAgree 48 4
unfolding is_width
list-calls-agree-48 = list-calls-agree 48 4 (widths Bits48) refl refl

pub list-calls-agree-57 : ListCallsAgree 57 5
unfolding is_width
list-calls-agree-57 = list-calls-agree 57 5 (widths Bits57) refl refl
