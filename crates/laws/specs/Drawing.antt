-- Drawing a range item by item, from either end or both. `items` are the items that a range stands for, `draw` is its `next` and its `next_back`.
use Rattle.std.specs.Prelude.{ℕ, zero, suc, ◌≤◌, ◌≡◌, List, [], ◌∷◌, ◌++◌, reverse, length}
use Rattle.std.proofs.Math.Option.{Option, none, some, map, bind}

pub data Side : Type 0 where
  front : Side
  back : Side

-- a draw that is not refused: the item, if there is one, and the range left
pub record Drawn (S : Type 0) : Type 0 where
  pub item : Option ℕ
  pub range : S

-- the items drawn from the front and those drawn from the back, each in the order drawn, and the range left
pub record Drawing (S : Type 0) : Type 0 where
  pub fronts : List ℕ
  pub backs : List ℕ
  pub range : S

abbrev pub with_item : Option ℕ → List ℕ → List ℕ
with_item none l = l
with_item (some x) l = x ∷ l

abbrev pub added : {S : Type 0} → Side → Option ℕ → Drawing S → Drawing S
added front x d = record { fronts = with_item x d.fronts; backs = d.backs; range = d.range }
added back x d = record { fronts = d.fronts; backs = with_item x d.backs; range = d.range }

-- draws one after the other, each of the range that the one before it left; none where one of them is refused
unfoldable pub drawing : {S : Type 0} → (Side → S → Option (Drawn S)) → List Side → S → Option (Drawing S)
drawing draw [] r = some (record { fronts = []; backs = []; range = r })
drawing draw (side ∷ sides) r = elim (draw side r) [ none ↦ none | some d ↦ map (added side d.item) (drawing draw sides d.range) ]

-- each item once, in order: those drawn from the front, those of the range left, those drawn from the back read backwards; after as many draws as there are items,
-- none is left
pub record Once {S : Type 0} (items : S → List ℕ) (sides : List Side) (r : S) (d : Drawing S) : Type 0 where
  pub in_order : d.fronts ++ (items d.range ++ reverse d.backs) ≡ items r
  pub to_the_end : length (items r) ≤ length sides → items d.range ≡ []

-- of every range, where no draw is refused
abbrev pub EachOnce : {S : Type 0} → (S → List ℕ) → (Side → S → Option (Drawn S)) → Type 0
EachOnce {S} items draw = (sides : List Side) (r : S) (d : Drawing S) → drawing draw sides r ≡ some d → Once items sides r d

-- `next`, n times: the range left; none where one of them is refused
unfoldable pub left_by_next : {S : Type 0} → (S → Option (Drawn S)) → ℕ → S → Option S
left_by_next next zero r = some r
left_by_next next (suc n) r = bind (next r) (λ d. left_by_next next n d.range)

-- draws with any n by those with n = 0, which are `next` and `next_back`. `Given` are the ranges that no call refuses, `Empty` the empty ones, `len` is the range's `len`.
pub record OneByOne {S : Type 0} (Given Empty : S → Type 0) (len : S → ℕ) (nth : Side → ℕ → S → Option (Drawn S)) : Type 0 where
  -- "A draw on an empty range is `None`, range unchanged."
  pub on-empty : (side : Side) (n : ℕ) (r : S) → Given r → Empty r → nth side n r ≡ some (record { item = none; range = r })
  -- a draw gives and leaves what `next` after n times `next` does, and is refused exactly if one of these is
  pub as-next : (side : Side) (n : ℕ) (r : S) → nth side n r ≡ bind (left_by_next (nth side 0) n r) (nth side 0)
  -- "If n ≥ `len` and no refusal applies, it is `None` and the range is left as after drawing all", which is `len` times `next`
  pub past_all : (side : Side) (n : ℕ) (r : S) (d : Drawn S) → len r ≤ n → nth side n r ≡ some d → (d.item ≡ none) × (left_by_next (nth side 0) (len r) r ≡ some d.range)

-- "A range whose start and end are in one half is thereby drained to its last page from both ends, and that is proved against the list of its pages" (document 02,
-- request One): of the ranges that `Chosen` names, no draw is refused, with any n and in any order, and each item comes once
pub record Drained {S : Type 0} (Chosen : S → Type 0) (items : S → List ℕ) (nth : Side → ℕ → S → Option (Drawn S)) : Type 0 where
  pub answered : (side : Side) (n : ℕ) (r : S) → Chosen r → (d : Drawn S) × (nth side n r ≡ some d) × Chosen d.range
  pub drained : (sides : List Side) (r : S) → Chosen r → (d : Drawing S) × (drawing (λ side. nth side 0) sides r ≡ some d) × Once items sides r d
