-- Draws from ranges by their numbers, taken apart: refused, and not refused.
use Rattle.std.specs.Prelude.{◌≡◌, ℕ, zero, suc, refl}
use Rattle.std.proofs.Math.Option.{Option, none, some}
use Rattle.answer.specs.Outcome.{gives, refuses, unless_refused}
use Rattle.laws.specs.Draw.{Draw}
use Rattle.laws.specs.Drawing.{Drawn}
use Rattle.laws.specs.Kind.{Kind, GuardedDraw, guarded, item_answer, settled, drawn_unless, drawn, drawn_of}

module _ {P R : Type 0} (k : Kind P) (made : P → P → R) (x y : P) where
  -- what a draw on the numbers gives or with what it is refused
  pub guarded_gives : (g : GuardedDraw) (d : Draw) → gives d ≡ guarded g → settled k made x y d ≡ drawn k made x y g
  guarded_gives g d e = go g.refusal g.draw e
    where
      go : (n : ℕ) (b : Draw) → gives d ≡ unless_refused n (gives b) → settled k made x y d ≡ drawn_unless k made x y n b
      go zero b f = let q : d ≡ b = cc in rw q refl
      go (suc n) b f = cc

  pub guarded_refuses : (g : GuardedDraw) (m : ℕ) → refuses m ≡ guarded g → record { answer = refuses m; range = made x y } ≡ drawn k made x y g
  guarded_refuses g m e = go g.refusal g.draw e
    where
      go : (n : ℕ) (b : Draw) → refuses m ≡ unless_refused n (gives b) → record { answer = refuses m; range = made x y } ≡ drawn_unless k made x y n b
      go zero b f = cc
      go (suc n) b f = let q : m ≡ suc n = cc in rw q refl

  -- where an item placed at a number starts there, the same as what is given and left
  module _ (p : (a : ℕ) → (k.item (k.placed x a)).start ≡ a) where
    of-item : (i : Option ℕ) (r : R) → drawn_of (record { answer = item_answer k x i; range = r }) ≡ some (record { item = i; range = r })
    of-item none r = refl
    of-item (some a) r = rw (p a) refl

    pub of-settled : (m : ℕ) (d : Draw) → m ≡ 0 → drawn_of (drawn_unless k made x y m d) ≡ some (record { item = d.item; range = made (k.placed x d.start) (k.placed y d.end) })
    of-settled m d h = rw h (of-item d.item (made (k.placed x d.start) (k.placed y d.end)))

  pub not-refused : (m : ℕ) (d : Draw) (e : Drawn R) → drawn_of (drawn_unless k made x y m d) ≡ some e → m ≡ 0
  not-refused zero d e h = refl
  not-refused (suc m) d e h = cc
