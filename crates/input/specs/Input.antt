-- The input of the program `runs`. The sentences are those of document 01, "Program `runs`".
use Rattle.std.specs.Prelude.{ℕ, zero, suc, ◌+◌, ◌*◌, Bool, ◌&&◌, List, [], ◌∷◌, Option, Some, None, Result, leb, eqb, length, take, drop}
use Rattle.answer.specs.Outcome.{Outcome, gives, refuses, unless}
use Rattle.answer.specs.Refusal.{wrong_file}
use Rattle.answer.specs.Answers.{outcome_of}
use Rattle.answer.specs.declared.refusal.Refusal.{Refusal}
use Rattle.input.specs.declared.input as read

-- "all big-endian": the number that bytes are, after what stands before them
unfoldable pub number_after : ℕ → List ℕ → ℕ
number_after n [] = n
number_after n (b ∷ bytes) = number_after (n * 256 + b) bytes

abbrev pub big_endian : List ℕ → ℕ
big_endian bytes = number_after 0 bytes

-- the number in the `k` bytes from place `i` on
abbrev pub field : List ℕ → (i k : ℕ) → ℕ
field bytes i k = big_endian (take k (drop i bytes))

-- the bytes of a word, and of all that stands before the words
abbrev pub word_bytes : ℕ
word_bytes = 8

abbrev pub header_bytes : ℕ
header_bytes = 21

-- "word count N (at most 7,680)"
abbrev pub most_words : ℕ
most_words = 7680

-- "one byte version 1, four bytes word count N (at most 7,680), eight bytes base, eight bytes root, N words"
abbrev pub version : List ℕ → ℕ
version bytes = field bytes 0 1

abbrev pub count : List ℕ → ℕ
count bytes = field bytes 1 4

abbrev pub base : List ℕ → ℕ
base bytes = field bytes 5 word_bytes

abbrev pub root : List ℕ → ℕ
root bytes = field bytes 13 word_bytes

-- "`refused 13` if the version, N or file length is wrong"
abbrev pub well_formed : List ℕ → Bool
well_formed bytes = leb header_bytes (length bytes) && eqb (version bytes) 1 && leb (count bytes) most_words && eqb (length bytes) (header_bytes + word_bytes * count bytes)

-- the header of a file: how many words, base and root
pub record Header : Type 0 where
  pub words : ℕ
  pub base : ℕ
  pub root : ℕ

unfoldable pub header_of : List ℕ → Outcome Header
header_of bytes = unless wrong_file (well_formed bytes) (gives (record { words = count bytes; base = base bytes; root = root bytes }))

-- `k` words from place `i` on
unfoldable pub words_from : List ℕ → (i k : ℕ) → List ℕ
words_from bytes i zero = []
words_from bytes i (suc k) = field bytes i word_bytes ∷ words_from bytes (i + word_bytes) k

-- what a result stands for
abbrev pub header_in : Result read.Header.Header Refusal → Outcome Header
header_in = outcome_of (λ h. record { words = h.words; base = h.base; root = h.root })

-- no header where the file is wrong
abbrev pub header_found : Option read.Header.Header → Outcome Header
header_found (Some h) = gives (record { words = h.words; base = h.base; root = h.root })
header_found None = refuses wrong_file
