-- `first` over pages in two parts, for code that goes through tables a span at a time.
use Prim.Native.Nat.{ℕ, ◌-◌, ◌≤◌, ◌<◌}
use mathlib.Core.Path.{◌≡◌, ap, ◌∙◌}
use native.Mathlib.Omega.{arith}
use Rattle.mapping.specs.Pages.{PageState}
use Rattle.mapping.specs.Search.{first}
use Rattle.mapping.proofs.First.{first-stop, first-add, first-other}

-- the pages from p to e, in two parts that meet at m: the step of a loop
module _ (f w : ℕ → PageState) (p m e : ℕ) (a : p ≤ m) (b : m ≤ e) where
  in_two : first f w (e - p) p ≡ first f w (e - m) (first f w (m - p) p)
  in_two = ap (λ (k : ℕ). first f w k p) (omega arith) ∙ first-add f w (m - p) (e - m) p

  pub go_on : first f w (m - p) p ≡ m → first f w (e - p) p ≡ first f w (e - m) m
  go_on h = in_two ∙ ap (first f w (e - m)) h

  pub found_inside : first f w (m - p) p < m → first f w (e - p) p ≡ first f w (m - p) p
  found_inside h = in_two ∙ first-other f w (e - m) (first f w (m - p) p) (first-stop f w (m - p) p (omega arith))
