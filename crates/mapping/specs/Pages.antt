-- What a 4 KiB page is, and pages by their numbers. Page n starts at the sign extension of n × 4,096, so that the first high page comes after the last low one.
-- The sentences are those of document 01, "Translation and mapped runs".
use Rattle.std.specs.Prelude.{ℕ, ◌+◌, ◌*◌, ◌/◌, ◌≤◌, ◌<◌, ◌≡◌, Bool}
use Rattle.std.proofs.Math.Bool.{Bool-discrete}
use Rattle.std.proofs.Math.Decide.{ℕ_discrete}

-- "Writable and user hold if every level has them; no-execute if some level has it."
pub data Rights : Type 0 where
  rights : (writable user no_execute : Bool) → Rights
  deriving Discrete as Rights-discrete

-- "Reserved or outside (both are called broken)"
pub data Reason : Type 0 where
  reserved : Reason
  outside : Reason
  deriving Discrete as Reason-discrete

-- "A 4 KiB page is mapped, absent, reserved or outside": its frame by number and its rights; the level of the broken entry and the reason
pub data PageState : Type 0 where
  absent : PageState
  broken : (level : ℕ) (reason : Reason) → PageState
  mapped : (frame : ℕ) (rights : Rights) → PageState
  deriving Discrete as PageState-discrete

unfoldable pub same_state : (a b : PageState) → Dec (a ≡ b)
same_state = PageState-discrete ℕ_discrete Reason-discrete (Rights-discrete Bool-discrete)

-- the pages 0 to `size` − 1 of an address space, those from `high` on above the gap ("A half is the pages below the gap or those above it"), and how many pages an
-- entry of a level spans
pub record Space : Type 0 where
  pub page : ℕ → PageState
  pub size : ℕ
  pub high : ℕ
  pub span : ℕ → ℕ

-- the page after the last of the span of `k` pages that page `x` is in
abbrev pub span_end : (k x : ℕ) → ℕ
span_end k x = (x / k + 1) * k

-- what is asked of the pages: the pages of a broken entry's span are broken alike, "all whose indices down to its level are those of q", and spans end where the
-- pages end
pub record Spanned (s : Space) : Type 0 where
  pub halves : s.high ≤ s.size
  pub some : (x l : ℕ) (r : Reason) → x < s.size → s.page x ≡ broken l r → 0 < s.span l
  pub divides : (x l : ℕ) (r : Reason) → x < s.size → s.page x ≡ broken l r → (k : ℕ) × (s.size ≡ k * s.span l)
  pub alike : (x y l : ℕ) (r : Reason) → x < s.size → s.page x ≡ broken l r → y / s.span l ≡ x / s.span l → s.page y ≡ broken l r
