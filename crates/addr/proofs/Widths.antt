-- The two widths are widths, and the levels of tables that they have.
use Prim.Native.Nat.{ℕ, ◌+◌, ◌*◌, ◌^◌, ◌≤◌, ◌<◌}
use mathlib.Core.Path.{◌≡◌, refl, sym, ◌∙◌}
use lib.Dec.{ltb, leb, lit<}
use native.Mathlib.Omega.{arith}
use borrow.Author.Tests.{lt-ltb}
use Rattle.laws.specs.Width.{IsWidth, PageWidth, half, first_high, canonical}
use Rattle.laws.proofs.Width.{width-48, width-57, canonical-low, canonical-from}
use Rattle.addr.specs.declared.width.Width.{Width}
use Rattle.addr.specs.declared.width.Width.TheVariants.{Bits48, Bits57}
use Rattle.addr.specs.Widths.{width_of, levels_of}

pub widths : (x : Width) → IsWidth (width_of x)
widths Bits48 = width-48
widths Bits57 = width-57

-- a page of any size is much less than a half
pub wide : (x : Width) → 47 < width_of x
wide Bits48 = lit< tt
wide Bits57 = lit< tt

-- nine bits for each level above the offset's twelve
pub nine-each : (x : Width) → width_of x ≡ 12 + 9 * levels_of x
nine-each Bits48 = refl
nine-each Bits57 = refl

pub few-levels : (x : Width) → (2 ≤ levels_of x) × (levels_of x ≤ 5)
few-levels Bits48 = (omega arith, omega arith)
few-levels Bits57 = (omega arith, omega arith)

-- whether a number is canonical, by the first numbers of the gap and of the high half
module _ (x : Width) (a : ℕ) where
  pub low_canonical : (h : ℕ) → h ≡ half (width_of x) → a < h → ltb a h ≡ canonical (width_of x) a
  low_canonical h e l = lt-ltb a h l ∙ sym (canonical-low (width_of x) (widths x) a (omega arith))

  pub high_canonical : (f : ℕ) → f ≡ first_high (width_of x) → half (width_of x) ≤ a → a < 2 ^ 64 → leb f a ≡ canonical (width_of x) a
  high_canonical f e l b = rw e (canonical-from (width_of x) (widths x) a b l)

abbrev pub page-width : Width → PageWidth
page-width x = record { bits = width_of x; width = widths x; wide = wide x }
