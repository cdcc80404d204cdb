-- What a call answers. Document 01: "Where Rust panics, the port refuses by number"; "`None` means no such item and isn't a refusal."
use Rattle.std.specs.Prelude.{ℕ, zero, suc, Bool, cond}

pub data Outcome (A : Type 0) : Type 0 where
  gives : A → Outcome A
  none : Outcome A
  refuses : ℕ → Outcome A

-- refused with the number `k` unless the test holds; if it holds, what follows. Tests are tried from the left.
abbrev pub unless : {A : Type 0} → ℕ → Bool → Outcome A → Outcome A
unless k t o = cond t o (refuses k)

-- refused with a number, 0 for none: then what follows
abbrev pub unless_refused : {A : Type 0} → ℕ → Outcome A → Outcome A
unless_refused zero o = o
unless_refused (suc k) o = refuses (suc k)

-- a value where the test holds, else no such item
abbrev pub only_if : {A : Type 0} → Bool → A → Outcome A
only_if t x = cond t (gives x) none

-- what follows on a value; an answer without a value stays
abbrev pub and_then : {A B : Type 0} → Outcome A → (A → Outcome B) → Outcome B
and_then (gives x) f = f x
and_then none f = none
and_then (refuses k) f = refuses k
