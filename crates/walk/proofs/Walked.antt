-- What the walk says of a page fits in one number.
use Prim.Native.Nat.{ℕ, zero, suc, ◌+◌, ◌*◌, ◌≤◌}
use mathlib.Core.Path.{refl, sym, ap, ◌∙◌, subst}
use mathlib.Core.List.{List}
use mathlib.Core.Option.{Option, none, some}
use native.Mathlib.Omega.{arith}
use native.Mathlib.Numerals.{add-one}
use native.Mathlib.Nat.{mod-lt}
use lib.Pow.{pow_pos}
use Rattle.mapping.specs.Pages.{Rights}
use Rattle.mapping.specs.Walk.{Walked, joined, word_for, follow, walk}
use Rattle.paging.specs.Entry.{rights_of, entry_by}
use Rattle.paging.specs.Packed.{Fits}
use Rattle.walk.specs.Look.{seen}
use Rattle.walk.specs.declared.look.Look.{Look}
use Rattle.walk.specs.declared.look.Look.TheVariants as look
use Rattle.walk.proofs.Looks.{reads, walk-word, Sound, sound-entry}

module _ (mask : ℕ) (memory : ℕ → Option (List ℕ)) where
  -- below an entry, where the tables of its level fit
  follow-fits : (level : ℕ) (r : Rights) (x : ℕ) → level ≤ 5 → ((t : List ℕ) → Fits (walk (entry_by mask) memory level t r x))
      → (o : Option (List ℕ)) → Fits (follow o (level + 1) (λ t. walk (entry_by mask) memory level t r x))
  follow-fits level r x h f none = omega arith
  follow-fits level r x h f (some t) = f t

  pub fits : (level : ℕ) (t : List ℕ) (r : Rights) (x : ℕ) → level ≤ 5 → Fits (walk (entry_by mask) memory level t r x)
  unfolding walk
  fits zero t r x h = omega arith
  fits (suc n) t r x h =
      let v = word_for t n x in
      subst (λ (w : Walked). Fits w) (sym (walk-word mask memory n r x t v refl) ∙ ap (λ (k : ℕ). walk (entry_by mask) memory k t r x) (add-one n))
      (go (seen v (entry_by mask (n + 1) v)) (sound-entry mask n v) (λ t' r'. fits n t' r' x (omega arith)))
    where
      go : (l : Look) → Sound n l → ((t' : List ℕ) (r' : Rights) → Fits (walk (entry_by mask) memory n t' r' x)) → Fits (reads mask memory n r x l)
      go look.Absent s f = omega arith
      go look.Reserved s f = omega arith
      go (look.Leaf g v) s f = (omega arith, omega arith, omega (arith, mod-lt x (pow_pos (9 * n))))
      go (look.Next a v) s f = follow-fits n (joined r (rights_of v)) x (omega arith) (λ t'. f t' (joined r (rights_of v))) (memory a)
