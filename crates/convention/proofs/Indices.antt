-- The 16-bit numbers that stand for indices: a page is told by them as by the numbers handed in.
use Prim.Native.Nat.{ℕ}
use mathlib.Core.Path.{◌≡◌, refl, ap, ◌∙◌}
use mathlib.Core.Bool.{Bool, true, false, cond}
use mathlib.Core.List.{[], ◌∷◌}
use lib.Dec.{ltb}
use native.Mathlib.Omega.{arith}
use borrow.Author.Tests.{ltb-true, ltb-false, le-ltb}
use Rattle.answer.specs.Outcome.{Outcome, none}
use Rattle.laws.specs.Item.{Item}
use Rattle.table.specs.Index.{given_index}
use Rattle.page.specs.Page.{assembled_page, fifth_index_fits, page_of_indices}
use Rattle.convention.specs.Choice.{saturate}

same-index : {A : Type 0} (p : ℕ) (f : ℕ → Outcome A) → given_index (saturate p) (f (saturate p)) ≡ given_index p (f p)
same-index p f = go (ltb p 512) refl
  where
    go : (b : Bool) → ltb p 512 ≡ b → given_index (saturate p) (f (saturate p)) ≡ given_index p (f p)
    go true e = let s : saturate p ≡ p = omega (arith, ltb-true p 512 e) in rw s refl
    go false e = let s : ltb (saturate p) 512 ≡ false = le-ltb (saturate p) 512 (omega (arith, ltb-false p 512 e)) in rw (s, e) refl

pub same_page : (w levels p5 p4 p3 p2 p1 z : ℕ)
    → page_of_indices w levels (saturate p5) (saturate p4) (saturate p3) (saturate p2) (saturate p1) z ≡ page_of_indices w levels p5 p4 p3 p2 p1 z
unfolding page_of_indices
same_page w levels p5 p4 p3 p2 p1 z =
    let at : ℕ → ℕ → ℕ → ℕ → ℕ → Outcome Item
    = λ q5 q4 q3 q2 q1. cond (fifth_index_fits levels q5) (assembled_page w levels (q1 ∷ q2 ∷ q3 ∷ q4 ∷ q5 ∷ []) z) none in
    let s4 = saturate p4 in let s3 = saturate p3 in let s2 = saturate p2 in let s1 = saturate p1 in
    same-index p5 (λ q. given_index s4 (given_index s3 (given_index s2 (given_index s1 (at q s4 s3 s2 s1)))))
    ∙ ap (given_index p5) (same-index p4 (λ q. given_index s3 (given_index s2 (given_index s1 (at p5 q s3 s2 s1))))
    ∙ ap (given_index p4) (same-index p3 (λ q. given_index s2 (given_index s1 (at p5 p4 q s2 s1)))
    ∙ ap (given_index p3) (same-index p2 (λ q. given_index s1 (at p5 p4 p3 q s1))
    ∙ ap (given_index p2) (same-index p1 (λ q. at p5 p4 p3 p2 q)))))

-- of 2 MiB, and of 1 GiB
pub same_large_page : (w levels p5 p4 p3 p2 z : ℕ) → page_of_indices w levels (saturate p5) (saturate p4) (saturate p3) (saturate p2) 0 z ≡ page_of_indices w levels p5 p4 p3 p2 0 z
same_large_page w levels p5 p4 p3 p2 z = same_page w levels p5 p4 p3 p2 0 z

pub same_largest_page : (w levels p5 p4 p3 z : ℕ) → page_of_indices w levels (saturate p5) (saturate p4) (saturate p3) 0 0 z ≡ page_of_indices w levels p5 p4 p3 0 0 z
same_largest_page w levels p5 p4 p3 z = same_page w levels p5 p4 p3 0 0 z
