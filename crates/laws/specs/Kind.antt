-- Draws from ranges of pages and of frames by draws on their numbers. The sentences are those of document 01, "Ranges".
use Rattle.std.specs.Prelude.{ℕ, zero, suc}
use Rattle.std.proofs.Math.Option.{Option, none, some, map}
use Rattle.answer.specs.Outcome as outcome
use Rattle.answer.specs.Outcome.{Outcome, gives, refuses, unless_refused}
use Rattle.laws.specs.Draw.{Draw}
use Rattle.laws.specs.Drawing.{Drawn}
use Rattle.laws.specs.Item.{Item}

-- a draw behind its refusal: the number that refuses it, 0 for none, and what it comes to otherwise
pub record GuardedDraw : Type 0 where
  pub refusal : ℕ
  pub draw : Draw

abbrev pub guarded : GuardedDraw → Outcome Draw
guarded g = unless_refused g.refusal (gives g.draw)

-- pages or frames, `P`: where one starts and its size, and the one of the same size that starts at a number
pub record Kind (P : Type 0) : Type 0 where
  pub item : P → Item
  pub placed : P → ℕ → P

-- what a draw answers, and the range left
pub record RangeDraw (R : Type 0) : Type 0 where
  pub answer : Outcome Item
  pub range : R

-- the item drawn, of the size of `x`
abbrev pub item_answer : {P : Type 0} → Kind P → P → Option ℕ → Outcome Item
item_answer k x none = outcome.none
item_answer k x (some a) = gives (k.item (k.placed x a))

-- a draw of the range from `x` to `y` that is not refused, by one on its numbers; `made` puts the range together
abbrev pub settled : {P R : Type 0} → Kind P → (P → P → R) → P → P → Draw → RangeDraw R
settled k made x y d = record { answer = item_answer k x d.item; range = made (k.placed x d.start) (k.placed y d.end) }

-- by the number that refuses it, 0 for none: the range left on a refusal is the range taken
abbrev pub drawn_unless : {P R : Type 0} → Kind P → (P → P → R) → P → P → ℕ → Draw → RangeDraw R
drawn_unless k made x y zero d = settled k made x y d
drawn_unless k made x y (suc n) d = record { answer = refuses (suc n); range = made x y }

abbrev pub drawn : {P R : Type 0} → Kind P → (P → P → R) → P → P → GuardedDraw → RangeDraw R
drawn k made x y g = drawn_unless k made x y g.refusal g.draw

-- where the item of an answer starts; none where it is a refusal
abbrev pub item_in : Outcome Item → Option (Option ℕ)
item_in (refuses k) = none
item_in outcome.none = some none
item_in (gives i) = some (some i.start)

-- what a draw gives and leaves; none where it is refused
abbrev pub drawn_of : {R : Type 0} → RangeDraw R → Option (Drawn R)
drawn_of d = map (λ i. record { item = i; range = d.range }) (item_in d.answer)
