-- The words of a file, one by one.
use Rattle.std.proofs.Common.{◌≡◌, refl, ap, ◌∙◌, ℕ, zero, suc, ◌+◌, ◌*◌, ◌/◌, ◌<◌, ◌≤◌, min, List, [], ◌∷◌, ◌++◌, length, get_or, take, drop, add-one, arith, append_assoc, length-drop, drop-cons}
use Rattle.std.specs.Int.{from_be_bytes, w64}
use Rattle.std.specs.Simd.{first_chunks}
use Rattle.std.proofs.Math.ListN.{set}
use Rattle.std.proofs.Math.Seq.{drop-drop}
use Rattle.std.proofs.lemmas.List.{set_at, get_or-take, length-take, length-take-le}
use Rattle.input.specs.Input.{big_endian, field, header_bytes, word_bytes, words_from}
use Rattle.input.proofs.Fields.{eight_bytes}

length-words : (bytes : List ℕ) (i n : ℕ) → length (words_from bytes i n) ≡ n
unfolding words_from
length-words bytes i zero = refl
length-words bytes i (suc n) = ap suc (length-words bytes (i + word_bytes) n)

words_more : (bytes : List ℕ) (i n : ℕ) → words_from bytes i (suc n) ≡ words_from bytes i n ++ (field bytes (i + word_bytes * n) word_bytes ∷ [])
unfolding words_from
words_more bytes i zero = let e : i + word_bytes * 0 ≡ i = omega arith in rw e
words_more bytes i (suc n) =
    let e : i + word_bytes * suc n ≡ i + word_bytes + word_bytes * n = omega arith in
    rw e (ap (λ (l : List ℕ). field bytes i word_bytes ∷ l) (words_more bytes (i + word_bytes) n))

-- the next word stored behind the first `n`
stored : (bytes out : List ℕ) (i n : ℕ) → n < length out → set (words_from bytes i n ++ drop n out) n (field bytes (i + word_bytes * n) word_bytes) ≡ words_from bytes i (n + 1) ++ drop (n + 1) out
stored bytes out i n h =
    rw (add-one, words_more, append_assoc, drop-cons out n 0) (set_at (words_from bytes i n) (get_or out n 0) (drop (suc n) out) (field bytes (i + word_bytes * n) word_bytes) n (length-words bytes i n))

-- the chunk at a place
first_chunks-get : (k n i : ℕ) (bytes : List ℕ) → i < n → get_or (first_chunks k n bytes) i [] ≡ take k (drop (k * i) bytes)
first_chunks-get k zero i bytes h = absurd (omega arith)
first_chunks-get k (suc n) zero bytes h = let e : k * 0 ≡ 0 = omega arith in rw e
first_chunks-get k (suc n) (suc i) bytes h = first_chunks-get k n i (drop k bytes) (omega arith) ∙ ap (take k) (drop-drop (k * i) k bytes ∙ ap (λ (j : ℕ). drop j bytes) (omega arith))

-- the chunk at a place, of those that are read
pub chunk_at : (rest : List ℕ) (words : List (List ℕ)) (count n : ℕ)
    → n < length (take count words)
    → length words ≡ length rest / word_bytes
    → words ≡ first_chunks word_bytes (length rest / word_bytes) rest
    → get_or (take count words) n [] ≡ take word_bytes (drop (word_bytes * n) rest)
chunk_at rest words count n below long chunks =
    get_or-take count words n [] (omega (arith, length-take count words))
    ∙ ap (λ (l : List (List ℕ)). get_or l n []) chunks
    ∙ first_chunks-get word_bytes (length rest / word_bytes) n rest (omega (arith, length-take count words))

-- the number of eight bytes stored, where these are a word's
pub word_stored : (bytes out rest read : List ℕ) (words : List (List ℕ)) (count n w : ℕ)
    → n < length (take count words)
    → count ≡ min (length words) (length out)
    → length words ≡ length rest / word_bytes
    → rest ≡ drop header_bytes bytes
    → w ≡ from_be_bytes w64 read
    → read ≡ take word_bytes (drop (word_bytes * n) rest)
    → set (words_from bytes header_bytes n ++ drop n out) n w ≡ words_from bytes header_bytes (n + 1) ++ drop (n + 1) out
word_stored bytes out rest read words count n w below both long behind number chunk =
    let whole : word_bytes ≤ length (drop (word_bytes * n) rest) = simp length-drop (omega (arith, length-take count words)) in
    let place : drop (word_bytes * n) rest ≡ drop (header_bytes + word_bytes * n) bytes = rw (behind, drop-drop) (ap (λ (j : ℕ). drop j bytes) (omega arith)) in
    let value : w ≡ field bytes (header_bytes + word_bytes * n) word_bytes = number ∙ ap (from_be_bytes w64) chunk ∙ eight_bytes _ (length-take-le word_bytes (drop (word_bytes * n) rest) whole) ∙ ap (λ (l : List ℕ). big_endian (take word_bytes l)) place in
    rw value (stored bytes out header_bytes n (omega (arith, length-take count words)))
