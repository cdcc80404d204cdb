-- The widths of virtual addresses.
use Rattle.std.specs.Prelude.{ℕ}
use Rattle.addr.specs.declared.width.Width.{Width}
use Rattle.addr.specs.declared.width.Width.TheVariants.{Bits48, Bits57}

abbrev pub width_of : Width → ℕ
width_of Bits48 = 48
width_of Bits57 = 57

-- how many levels of tables address so many bits: four (document 01), five (document 02, Four: "The walk and the run search begin at level 5")
abbrev pub levels_of : Width → ℕ
levels_of Bits48 = 4
levels_of Bits57 = 5
