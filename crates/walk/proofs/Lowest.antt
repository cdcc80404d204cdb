-- The pages of a table of level 1 by its words: those of words that are alike are all absent, or mapped from a frame on with the same rights.
use Prim.Native.Nat.{ℕ, ◌+◌, ◌-◌, ◌*◌, ◌/◌, ◌%◌, ◌^◌, ◌≤◌, ◌<◌}
use mathlib.Core.Path.{◌≡◌, ap, ◌∙◌}
use mathlib.Core.Bool.{true, false}
use mathlib.Core.List.{List}
use mathlib.Core.Option.{Option}
use native.Mathlib.Decide.{ℕ_discrete}
use native.Mathlib.Omega.{arith}
use native.Mathlib.Nat.{mod-one, div-one}
use lib.Bits.{bit_and, and_mask}
use lib.Dec.{eqb}
use lib.ListN.{get_or}
use Rattle.laws.proofs.Cases.{by_cases}
use Rattle.mapping.specs.Pages.{Rights, reserved, PageState}
use Rattle.mapping.specs.Pages as page
use Rattle.mapping.specs.Walk.{Entry, joined, word_for, state_of}
use Rattle.paging.specs.Entry.{set, rights_of}
use Rattle.paging.specs.Pages.{pages_by, Alike}
use Rattle.paging.proofs.Fields.{entry_absent, entry_masked, entry-page}
use Rattle.paging.proofs.ReadBits.{read_mask, same-present, same-rights, next-frame}
use Rattle.walk.specs.Look.{seen}
use Rattle.walk.proofs.Looks.{reads, walk-word}

module _ (mask : ℕ) (memory : ℕ → Option (List ℕ)) (t : List ℕ) (r : Rights) (x i : ℕ) (at-word : x % 512 ≡ i) where
  abbrev here : PageState
  here = pages_by mask memory 1 t r x

  word : word_for t 0 x ≡ get_or t i 0
  word = ap (λ (n : ℕ). get_or t (n % 512) 0) (div-one x) ∙ ap (λ (n : ℕ). get_or t n 0) at-word

  -- a page by its word
  pub page-absent : set 0 (get_or t i 0) ≡ false → here ≡ page.absent
  page-absent p =
      ap state_of (walk-word mask memory 0 r x t (get_or t i 0) word ∙ ap (λ (e : Entry). reads mask memory 0 r x (seen (get_or t i 0) e)) (entry_absent mask (get_or t i 0) 1 p))

  pub page-masked : set 0 (get_or t i 0) ≡ true → (bit_and (get_or t i 0) mask ≡ 0 → ⊥) → here ≡ page.broken 1 reserved
  page-masked p n =
      ap state_of (walk-word mask memory 0 r x t (get_or t i 0) word ∙ ap (λ (e : Entry). reads mask memory 0 r x (seen (get_or t i 0) e)) (entry_masked mask (get_or t i 0) 1 p n))

  pub page-mapped : set 0 (get_or t i 0) ≡ true → bit_and (get_or t i 0) mask ≡ 0 → here ≡ page.mapped (get_or t i 0 / 2 ^ 12 % 2 ^ 40) (joined r (rights_of (get_or t i 0)))
  page-mapped p z =
      ap state_of (walk-word mask memory 0 r x t (get_or t i 0) word ∙ ap (λ (e : Entry). reads mask memory 0 r x (seen (get_or t i 0) e)) (entry-page mask (get_or t i 0) p z))
      ∙ ap (λ (n : ℕ). page.mapped n (joined r (rights_of (get_or t i 0)))) (omega (arith, mod-one x))

-- the pages of words that are alike, from page a, whose word is i, up to page m, whose word would be e
module _ (mask : ℕ) (memory : ℕ → Option (List ℕ)) (t : List ℕ) (r : Rights) (s i e : ℕ) (first : s % 512 ≡ 0) where
  index : (x : ℕ) → s + i ≤ x → x < s + e → e ≤ 512 → x % 512 ≡ x - s
  index x a b c = omega arith

  pub all-absent : Alike t i 1 0 0 e → set 0 (get_or t i 0) ≡ false → (x : ℕ) → s + i ≤ x → x < s + e → pages_by mask memory 1 t r x ≡ page.absent
  all-absent k p x a b =
      page-absent mask memory t r x (x - s) (index x a b k.at_most) (ap (λ (n : ℕ). eqb n 1) same ∙ p)
    where
      same : get_or t (x - s) 0 / 2 ^ 0 % 2 ≡ get_or t i 0 / 2 ^ 0 % 2
      same =
          let g = k.grows (x - s) (omega arith) (omega arith) in
          omega (arith, and_mask (get_or t (x - s) 0) 1, and_mask (get_or t i 0) 1)

  pub all-mapped : Alike t i read_mask 4096 mask e → set 0 (get_or t i 0) ≡ true → bit_and (get_or t i 0) mask ≡ 0 → (x : ℕ) → s + i ≤ x → x < s + e
      → pages_by mask memory 1 t r x ≡ page.mapped (get_or t i 0 / 2 ^ 12 % 2 ^ 40 + (x - (s + i))) (joined r (rights_of (get_or t i 0)))
  all-mapped k p z x a b =
      let j = x - s in
      let d = x - (s + i) in
      let g : bit_and (get_or t j 0) read_mask ≡ bit_and (get_or t i 0) read_mask + d * 4096 = k.grows j (omega arith) (omega arith) ∙ ap (λ (n : ℕ). bit_and (get_or t i 0) read_mask + n * 4096) (omega arith) in
      let l : d < 512 = omega (arith, k.at_most) in
      let c : bit_and (get_or t j 0) mask ≡ 0 = by_cases (ℕ_discrete j i) (λ q. rw q z) (λ n. k.clear j (omega arith) (omega arith)) in
      page-mapped mask memory t r x j (index x a b k.at_most) (same-present (get_or t j 0) (get_or t i 0) d g l ∙ p) c
      ∙ ap (λ (n : ℕ). page.mapped n (joined r (rights_of (get_or t j 0)))) (next-frame (get_or t j 0) (get_or t i 0) d g l)
      ∙ ap (λ (h : Rights). page.mapped (get_or t i 0 / 2 ^ 12 % 2 ^ 40 + d) (joined r h)) (same-rights (get_or t j 0) (get_or t i 0) d g l)
