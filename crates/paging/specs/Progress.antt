-- A search on its way: when it goes on, and what an entry makes of what it has found.
use Rattle.std.specs.Prelude.{ℕ, ◌+◌, ◌-◌, ◌^◌, ◌≤◌, ◌<◌, ◌≡◌, Bool, true, false, cond, eqb}
use Rattle.mapping.specs.Pages.{Rights, Reason, PageState}
use Rattle.mapping.specs.Pass.{Progress, unfound, stopped, running, at-page, pass}
use Rattle.paging.specs.Packed.{rights_bits}

-- whether nothing is found but absent pages
abbrev pub finds_nothing : Progress → Bool
finds_nothing unfound = true
finds_nothing (running q g h) = false
finds_nothing (stopped q l r) = false

-- what holds of it at page `x`: a run begins before the page, with a frame below 2^40
abbrev pub Holds : Progress → ℕ → Type 0
Holds unfound x = Unit {0}
Holds (running q g h) x = (q ≤ x) × (g < 2 ^ 40)
Holds (stopped q l r) x = Unit {0}

-- a search that goes on from page `x`: it is not stopped
abbrev pub GoesOn : Progress → ℕ → Type 0
GoesOn unfound x = Unit {0}
GoesOn (running q g h) x = (q ≤ x) × (g < 2 ^ 40)
GoesOn (stopped q l r) x = ⊥

-- a mapped page: whether it begins the run or belongs to it, and what is found then
abbrev pub accepts : Progress → (page frame : ℕ) → Rights → Bool
accepts unfound x g h = true
accepts (running q c k) x g h = cond (eqb (rights_bits k) (rights_bits h)) (eqb (c + (x - q)) g) false
accepts (stopped q l r) x g h = false

abbrev pub taken : Progress → (page frame : ℕ) → Rights → Progress
taken unfound x g h = running x g h
taken (running q c k) x g h = running q c k
taken (stopped q l r) x g h = stopped q l r

-- a broken page: what is found then
abbrev pub halted : Progress → Progress → Progress
halted unfound s = s
halted (running q c k) s = running q c k
halted (stopped q l r) s = stopped q l r

-- a mapped page was taken, with what was found before and after, and whether it was accepted
pub record Takes (page frame : ℕ) (held : Rights) (before after : Progress) (accepted : Bool) : Type 0 where
  pub found : after ≡ taken before page frame held
  pub answer : accepted ≡ accepts before page frame held

-- a broken page was come to
abbrev pub Halts : (page level : ℕ) → Reason → (before after : Progress) → Type 0
Halts x l r before after = after ≡ halted before (stopped x l r)

-- the code went over the pages from `a` up to `e` and came to page `r`, with what was found before and after
pub record Passes (f : ℕ → PageState) (a e : ℕ) (before after : Progress) (r : ℕ) : Type 0 where
  pub comes : pass f a e before ≡ at-page after r
  pub holds : Holds after r
