-- The lines of the program `runs`, as ASCII. The sentences are those of document 01, "Program `runs`".
use Rattle.std.specs.Prelude.{ℕ, zero, suc, ◌-◌, ◌/◌, ◌%◌, Bool, true, false, cond, List, [], ◌∷◌, ◌++◌, ltb, length, replicate}
use Rattle.io.specs.Digits.{hex_digit_ascii, last_digits}
use Rattle.found.specs.declared.progress.StopReason.{StopReason}
use Rattle.found.specs.declared.progress.StopReason.TheVariants.{Reserved, Outside}

-- "addresses in 16 lower-case hex digits"
abbrev pub hex : ℕ → List ℕ
hex n = last_digits 16 16 n

-- "COUNT is decimal": no more digits than it takes; `k` is at least that many
unfoldable pub decimal_in : (k n : ℕ) → List ℕ
decimal_in zero n = []
decimal_in (suc k) n = cond (ltb n 10) (hex_digit_ascii n ∷ []) (decimal_in k (n / 10) ++ (hex_digit_ascii (n % 10) ∷ []))

-- 64 bits take 20 digits at most
abbrev pub decimal : ℕ → List ℕ
decimal n = decimal_in 20 n

-- "RIGHTS is w or -, u or -, x or - (executable)"
abbrev pub letter : Bool → ℕ → ℕ
letter b c = cond b c 45

abbrev pub rights_text : (writable user no_execute : Bool) → List ℕ
rights_text w u x = letter w 119 ∷ letter u 117 ∷ cond x 45 120 ∷ []

-- `run `, `stop `, `end`, `more `, `refused `, `reserved`, `outside`
abbrev pub run_word : List ℕ
run_word = 114 ∷ 117 ∷ 110 ∷ 32 ∷ []

abbrev pub stop_word : List ℕ
stop_word = 115 ∷ 116 ∷ 111 ∷ 112 ∷ 32 ∷ []

abbrev pub end_word : List ℕ
end_word = 101 ∷ 110 ∷ 100 ∷ []

abbrev pub more_word : List ℕ
more_word = 109 ∷ 111 ∷ 114 ∷ 101 ∷ 32 ∷ []

abbrev pub refused_word : List ℕ
refused_word = 114 ∷ 101 ∷ 102 ∷ 117 ∷ 115 ∷ 101 ∷ 100 ∷ 32 ∷ []

abbrev pub reserved_word : List ℕ
reserved_word = 114 ∷ 101 ∷ 115 ∷ 101 ∷ 114 ∷ 118 ∷ 101 ∷ 100 ∷ []

abbrev pub outside_word : List ℕ
outside_word = 111 ∷ 117 ∷ 116 ∷ 115 ∷ 105 ∷ 100 ∷ 101 ∷ []

abbrev pub space : List ℕ
space = 32 ∷ []

-- every line ends with a newline
abbrev pub newline : List ℕ
newline = 10 ∷ []

-- "`run PAGE FRAME COUNT RIGHTS`"
unfoldable pub run_line : (page frame count : ℕ) (writable user no_execute : Bool) → List ℕ
run_line p f c w u x = run_word ++ (hex p ++ (space ++ (hex f ++ (space ++ (decimal c ++ (space ++ (rights_text w u x ++ newline)))))))

-- "`stop PAGE LEVEL reserved|outside`"
unfoldable pub stop_line : (page level : ℕ) (is_reserved : Bool) → List ℕ
stop_line p l r = stop_word ++ (hex p ++ (space ++ (decimal l ++ (space ++ (cond r reserved_word outside_word ++ newline)))))

-- "then `end`"; "it prints `more PAGE`"; "`refused` and the number"
unfoldable pub end_line : List ℕ
end_line = end_word ++ newline

unfoldable pub more_line : ℕ → List ℕ
more_line p = more_word ++ (hex p ++ newline)

unfoldable pub refused_line : ℕ → List ℕ
refused_line k = refused_word ++ (decimal k ++ newline)

-- the bytes of a line: no text is longer
abbrev pub line_bytes : ℕ
line_bytes = 64

-- a text and the zeros that stand behind it
abbrev pub padded : List ℕ → List ℕ
padded text = text ++ replicate (line_bytes - length text) 0

-- whether a stop is at an entry with a reserved bit set
abbrev pub is_reserved : StopReason → Bool
is_reserved Reserved = true
is_reserved Outside = false
