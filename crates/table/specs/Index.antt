-- What the calls on indices and offsets answer. The sentences are those of document 01, "Indices".
use Rattle.std.specs.Prelude.{ℕ, ◌+◌, ◌-◌, ltb, leb}
use Rattle.answer.specs.Outcome.{Outcome, gives, unless, only_if}
use Rattle.answer.specs.Refusal.{index_too_large}

-- "`new`: 9 for an index of 512 or more or an offset of 4,096 or more": the number, if it is below `m`
abbrev pub small : ℕ → ℕ → Outcome ℕ
small m n = unless index_too_large (ltb n m) (gives n)

-- an index handed in: "9 an index of 512 or more"; then what follows
abbrev pub given_index : {A : Type 0} → ℕ → Outcome A → Outcome A
given_index i o = unless index_too_large (ltb i 512) o

-- "Index steps give `None` above 511 and below 0."
abbrev pub index_forward : ℕ → ℕ → Outcome ℕ
index_forward i n = given_index i (only_if (ltb (i + n) 512) (i + n))

abbrev pub index_backward : ℕ → ℕ → Outcome ℕ
index_backward i n = given_index i (only_if (leb n i) (i - n))

abbrev pub index_steps : ℕ → ℕ → Outcome ℕ
index_steps i j = given_index i (given_index j (only_if (leb i j) (j - i)))
