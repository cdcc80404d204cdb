-- What a choice by its number says.
use mathlib.Core.Path.{◌≡◌, refl}
use mathlib.Core.Bool.{Bool, true, false, cond}
use Prim.Native.Nat.{ℕ, ◌+◌, ◌<◌}
use native.Mathlib.Omega.{arith}
use native.Mathlib.Decide.{ℕ_discrete}
use borrow.Author.Tests.{ne_eqb, ltb-true, clash}
use lib.Dec.{ltb}
use Rattle.answer.specs.Outcome.{gives, none, only_if}
use Rattle.laws.proofs.Cases.{by_cases}
use Rattle.table.specs.Level.{level_of, bytes_of}
use Rattle.table.specs.declared.level.PageTableLevel.{PageTableLevel}
use Rattle.addr.specs.Widths.{width_of}
use Rattle.addr.proofs.Widths.{few-levels}
use Rattle.convention.specs.Choice.{is_width, is_level, is_size, width_with, levels_with, level_with, size_with}

-- an answer says whether its test holds
pub some_holds : {A : Type 0} (t : Bool) (x y : A) → gives x ≡ only_if t y → (t ≡ true) × (x ≡ y)
some_holds true x y e = (refl, cc)
some_holds false x y e = let z : ◌≡◌ {A = ℕ} 0 1 = cc in absurd (omega arith)

pub none-fails : {A : Type 0} (t : Bool) (y : A) → none ≡ only_if t y → t ≡ false
none-fails true y e = let z : ◌≡◌ {A = ℕ} 0 1 = cc in absurd (omega arith)
none-fails false y e = refl

pub not-size : (z : ℕ) → (z ≡ 0x1000 → ⊥) → (z ≡ 0x20_0000 → ⊥) → (z ≡ 0x4000_0000 → ⊥) → is_size z ≡ false
unfolding is_size
not-size z a b c = simp (ne_eqb z 0x1000 a, ne_eqb z 0x20_0000 b, ne_eqb z 0x4000_0000 c)

-- the size with so many bytes has them
pub bytes_with : (z : ℕ) → is_size z ≡ true → bytes_of (size_with z) ≡ z
unfolding size_with
bytes_with z h =
    by_cases (ℕ_discrete z 0x1000) (λ e. rw e) (λ a.
    by_cases (ℕ_discrete z 0x20_0000) (λ e. rw e) (λ b.
    by_cases (ℕ_discrete z 0x4000_0000) (λ e. rw e) (λ c.
    let n = not-size z a b c in let f : ◌≡◌ {A = ℕ} 0 1 = cc in absurd (omega arith))))

-- the width with so many bits has them
pub bits_with : (w : ℕ) → is_width w ≡ true → width_of (width_with w) ≡ w
unfolding is_width width_with
bits_with w h =
    by_cases (ℕ_discrete w 48) (λ e. rw e) (λ a.
    by_cases (ℕ_discrete w 57) (λ e. rw e) (λ b.
    absurd (clash (rw (ne_eqb w 48 a, ne_eqb w 57 b) at h))))

-- a level is within those that there are
pub level-within : (levels n : ℕ) → is_level levels n ≡ true → (0 < n) × (n < levels + 1)
unfolding is_level
level-within levels n h = go (ltb 0 n) refl h
  where
    go : (b : Bool) → ltb 0 n ≡ b → cond b (ltb n (levels + 1)) false ≡ true → (0 < n) × (n < levels + 1)
    go true e k = (ltb-true 0 n e, ltb-true n (levels + 1) k)
    go false e k = absurd (clash k)

-- the level with a number has it
pub number_with : (w n : ℕ) → is_level (levels_with w) n ≡ true → level_of (level_with n) ≡ n
unfolding is_level level_with
number_with w n h =
    by_cases (ℕ_discrete n 1) (λ e. rw e) (λ a.
    by_cases (ℕ_discrete n 2) (λ e. rw e) (λ b.
    by_cases (ℕ_discrete n 3) (λ e. rw e) (λ c.
    by_cases (ℕ_discrete n 4) (λ e. rw e) (λ d.
    by_cases (ℕ_discrete n 5) (λ e. rw e) (λ f. absurd (omega (arith, level-within (levels_with w) n h, few-levels (width_with w), a, b, c, d, f)))))))

-- of so many levels, the one that was chosen has the number asked for; where none was, the number is no choice
pub level-chosen : (levels n : ℕ) (l : PageTableLevel) → gives (level_of l) ≡ only_if (is_level levels n) n → (is_level levels n ≡ true) × (level_of l ≡ n)
level-chosen levels n l e = some_holds (is_level levels n) (level_of l) n e

pub level-missing : (levels n : ℕ) → none ≡ only_if (is_level levels n) n → is_level levels n ≡ false
level-missing levels n e = none-fails (is_level levels n) n e

-- what was read with a size, `p`, is what it should be, `x`, and the number of bytes is the size's
pub record OfSize {A : Type 0} (z : ℕ) (p x : A) : Type 0 where
  pub is-size : is_size z ≡ true
  pub read : p ≡ x
  pub bytes : bytes_of (size_with z) ≡ z

module _ {A : Type 0} (z : ℕ) (x : A) where
  pub size-chosen : (p : A) → gives p ≡ only_if (is_size z) x → OfSize z p x
  size-chosen p e = let h = some_holds (is_size z) p x e in record { is-size = h.0; read = h.1; bytes = bytes_with z h.0 }
