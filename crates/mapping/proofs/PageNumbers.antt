-- The numbers of pages are those of the addresses, with their indices, spans and halves.
use Prim.Native.Nat.{ℕ, zero, suc, ◌+◌, ◌-◌, ◌*◌, ◌/◌, ◌%◌, ◌^◌, ◌≤◌, ◌<◌}
use mathlib.Core.Path.{◌≡◌, sym, ap, ◌∙◌}
use native.Mathlib.Omega.{arith}
use native.Mathlib.Nat.{div-eq_of_lt, mod-eq_of_lt}
use lib.Pow.{shr-shr, shl-shr, shl_lt, field, split, pow-add}
use Rattle.laws.specs.Width.{IsWidth, half, low}
use Rattle.laws.specs.Number.{number, start}
use Rattle.laws.specs.Index.{index}
use Rattle.laws.proofs.Width.{sizes, sign_low, sign-of-low, sign_set, sign-canonical}
use Rattle.laws.proofs.Index.{index-low}
use Rattle.laws.proofs.Number.{number-start, number_lt}
use Rattle.mapping.specs.Pages.{PageState}
use Rattle.mapping.specs.Walk.{entry_index, space_of}
use Rattle.mapping.specs.PageNumbers.{SameIndices, PageNumbers}
use Rattle.mapping.proofs.Walk.{wider, same_above}

module _ (w levels : ℕ) (v : IsWidth w) (e : w ≡ 9 * levels + 12) where
  -- the page that starts where page n does
  pub number_of : (n : ℕ) → number w 4096 (start w 4096 n) ≡ n % 2 ^ (9 * levels)
  number_of n = ap (λ (x : ℕ). x / 4096) (sign_low w v (n * 4096)) ∙ rw e (field (n * 4096) (9 * levels) 12 ∙ ap (λ (x : ℕ). x % 2 ^ (9 * levels)) (shl-shr n 12))

  pub number-back : (n : ℕ) → n < 2 ^ (9 * levels) → number w 4096 (start w 4096 n) ≡ n
  number-back n h = let z : w - 12 ≡ 9 * levels = omega arith in number-start w 12 v v.above n (rw z h)

  number-inside : (a : ℕ) → number w 4096 a < 2 ^ (9 * levels)
  number-inside a = let z : w - 12 ≡ 9 * levels = omega arith in rw z at (number_lt w 12 v v.above a)

  index_of : (a l : ℕ) → 1 ≤ l → l ≤ levels → entry_index (l - 1) (number w 4096 a) ≡ index l a
  index_of a l p h =
      let z : w ≡ 12 + 9 * levels = omega arith in
      ap (λ (x : ℕ). x % 512) (shr-shr (low w a) 12 (9 * (l - 1))) ∙ rw z (index-low a l levels p h)

  page-index : (x l : ℕ) → x < 2 ^ (9 * levels) → 1 ≤ l → l ≤ levels → index l (start w 4096 x) ≡ x / 2 ^ (9 * (l - 1)) % 512
  page-index x l i p h = sym (index_of (start w 4096 x) l p h) ∙ ap (λ (n : ℕ). n / 2 ^ (9 * (l - 1)) % 512) (number-back x i)

  module _ (x y : ℕ) (i : x < 2 ^ (9 * levels)) (j : y < 2 ^ (9 * levels)) where
    same-indices : (l : ℕ) → 1 ≤ l → x / 2 ^ (9 * (l - 1)) ≡ y / 2 ^ (9 * (l - 1)) → SameIndices w levels l x y
    same-indices l p q k g h =
        page-index x k i (omega arith) h
        ∙ ap (λ (n : ℕ). n % 512) (same_above (l - 1) (k - 1) y x (omega arith) q)
        ∙ sym (page-index y k j (omega arith) h)

    -- from the highest level down
    same_span : (d l : ℕ) → l + d ≡ levels + 1 → 1 ≤ l → SameIndices w levels l x y → x / 2 ^ (9 * (l - 1)) ≡ y / 2 ^ (9 * (l - 1))
    same_span zero l q p s =
        let z : l - 1 ≡ levels = omega arith in
        rw z (div-eq_of_lt i ∙ sym (div-eq_of_lt j))
    same_span (suc d) l q p s =
        let t = same_span d (suc l) (omega arith) (omega arith) (λ k g h. s k (omega arith) h) in
        let a = wider (l - 1) (suc l - 1) x (omega arith) in
        let b = wider (l - 1) (suc l - 1) y (omega arith) in
        let o : suc l - 1 - (l - 1) ≡ 1 = omega arith in
        let c : x / 2 ^ (9 * (l - 1)) / 512 ≡ y / 2 ^ (9 * (l - 1)) / 512 = rw o at (sym a ∙ t ∙ b) in
        let m : x / 2 ^ (9 * (l - 1)) % 512 ≡ y / 2 ^ (9 * (l - 1)) % 512
        = sym (page-index x l i p (omega arith)) ∙ s l (omega arith) (omega arith) ∙ page-index y l j p (omega arith) in
        omega (arith, split (x / 2 ^ (9 * (l - 1))) 9, split (y / 2 ^ (9 * (l - 1))) 9)

  bytes_lt : (n j : ℕ) → n < 2 ^ j → n * 4096 < 2 ^ (j + 12)
  bytes_lt n j h = shl_lt j 12 h

  low_half : (n : ℕ) → n < 2 ^ (9 * levels - 1) → start w 4096 n < half w
  low_half n h =
      let z : 9 * levels - 1 + 12 ≡ w - 1 = omega (arith, v.above) in
      let b : n * 4096 < half w = rw z at (bytes_lt n (9 * levels - 1) h) in
      rw (sign-of-low w v (n * 4096) b) b

  high_half : (n : ℕ) → 2 ^ (9 * levels - 1) ≤ n → n < 2 ^ (9 * levels) → 2 ^ 64 - half w ≤ start w 4096 n
  high_half n g h =
      let z : w - 1 ≡ 9 * levels - 1 + 12 = omega (arith, v.above) in
      let s = sizes w v in
      let k : half w ≡ 2 ^ (9 * levels - 1) * 4096 = rw z (pow-add 2 (9 * levels - 1) 12) in
      let b : n * 4096 < 2 ^ w = rw e (bytes_lt n (9 * levels) h) in
      let l : low w (n * 4096) ≡ n * 4096 = mod-eq_of_lt b in
      let t = sign_set w v (n * 4096) (omega (arith, k, l)) in
      omega (arith, k, l, t, s)

-- at every width and number of levels that fit each other
pub page-numbers : (w levels : ℕ) → IsWidth w → w ≡ 9 * levels + 12 → (page : ℕ → PageState) → PageNumbers w levels (space_of levels page)
page-numbers w levels v e page =
    record {
      inside = number-inside w levels v e;
      starts = λ n. sign-canonical w v (n * 4096);
      back = number-back w levels v e;
      indices = index_of w levels v e;
      spans = λ x y l i j p h. (same-indices w levels v e x y i j l p, same_span w levels v e x y i j (levels + 1 - l) l (omega arith) p);
      low_half = low_half w levels v e;
      high_half = high_half w levels v e;
    }
