-- Laws of indices, over the level: an address has the indices it was assembled from, and is assembled from its own.
use mathlib.Core.Path.{◌≡◌, refl, sym, ap, ◌∙◌}
use Prim.Native.Nat.{ℕ, zero, suc, ◌+◌, ◌-◌, ◌*◌, ◌/◌, ◌%◌, ◌^◌, ◌≤◌, ◌<◌}
use native.Mathlib.Omega.{arith}
use native.Mathlib.Decide.{dec_lt}
use native.Mathlib.Nat.{mod-lt, mod-eq_of_lt, mul-le-mul_right, suc-mul}
use lib.Pow.{pow_pos, pow-add, field, mod-mod-pow, mod-pow-add, high, low}
use lib.Dec.{lit<}
use lib.Bits.{bit_and, and_mask}
use Rattle.laws.specs.Index.{span, index, offset, assemble}
use Rattle.laws.proofs.Cases.{by_cases}

-- a span is 512 of those below it
pub span-next : (l : ℕ) → span (suc l) ≡ 512 * span l
span-next l =
    let e : 12 + 9 * suc l ≡ 9 + (12 + 9 * l) = omega arith in
    rw e (pow-add 2 9 (12 + 9 * l))

pub span_pos : (l : ℕ) → 0 < span l
span_pos l = pow_pos (12 + 9 * l)

-- nine bits that lie below `m` depend only on the number modulo 2^m
nine-bits : (a k m : ℕ) → k + 9 ≤ m → a % 2 ^ m / 2 ^ k % 512 ≡ a / 2 ^ k % 512
nine-bits a k m h =
    let e : m - k - 9 + 9 + k ≡ m = omega arith in
    let f : a % 2 ^ (m - k - 9 + 9 + k) / 2 ^ k ≡ a / 2 ^ k % 2 ^ (m - k - 9 + 9) = field a (m - k - 9 + 9) k in
    let g : a % 2 ^ m / 2 ^ k ≡ a / 2 ^ k % 2 ^ (m - k - 9 + 9) = rw e at f in
    rw g (mod-mod-pow (a / 2 ^ k) (m - k - 9) 9)

-- the index at a level depends only on the number modulo the span of any table from that level on
pub index-low : (a l m : ℕ) → 1 ≤ l → l ≤ m → index l (a % span m) ≡ index l a
index-low a l m p h = nine-bits a (12 + 9 * (l - 1)) (12 + 9 * m) (omega arith)

pub offset-low : (a m : ℕ) → offset (a % span m) ≡ offset a
offset-low a m =
    let e : 12 + 9 * m ≡ 9 * m + 12 = omega arith in
    rw e (mod-mod-pow a (9 * m) 12)

-- the index at the level above a table, and the rest
pub index-above : (a l : ℕ) → a % span (suc l) ≡ index (suc l) a * span l + a % span l
index-above a l =
    let e : 12 + 9 * suc l ≡ 9 + (12 + 9 * l) = omega arith in
    let s : suc l - 1 ≡ l = omega arith in
    rw (e, s) (mod-pow-add a 9 (12 + 9 * l))

pub index-lt : (l a : ℕ) → index l a < 512
index-lt l a = mod-lt (a / 2 ^ (12 + 9 * (l - 1))) (lit< tt)

-- the mask of what a table spans, and a shift by what is below an entry, take the index
pub masked-index : (l a : ℕ) → 1 ≤ l → bit_and a (span l - 1) / 2 ^ (12 + 9 * (l - 1)) ≡ index l a
masked-index l a p =
    let e : 12 + 9 * l ≡ 9 + (12 + 9 * (l - 1)) = omega arith in
    rw (and_mask a (12 + 9 * l), e) (field a 9 (12 + 9 * (l - 1)))

-- every address is assembled from its indices and its offset
pub assembled : (l a : ℕ) → assemble l (λ k. index k a) (offset a) ≡ a % span l
unfolding assemble
assembled zero a = refl
assembled (suc l) a = rw (index-above a l, assembled l a)

module _ (i : ℕ → ℕ) (o : ℕ) (small : o < 4096) where
  -- what is assembled from indices below 512 is within the span
  pub assemble-lt : (l : ℕ) → ((k : ℕ) → 1 ≤ k → k ≤ l → i k < 512) → assemble l i o < span l
  unfolding assemble
  assemble-lt zero f = small
  assemble-lt (suc l) f =
      let h = assemble-lt l (λ k p q. f k p (omega arith)) in
      let g : suc (i (suc l)) * span l ≤ 512 * span l = mul-le-mul_right (span l) (f (suc l) (omega arith) (omega arith)) in
      omega (arith, span-next l, suc-mul (i (suc l)) (span l))

  -- it has these indices and this offset
  pub assemble-rest : (l : ℕ) → ((k : ℕ) → 1 ≤ k → k ≤ suc l → i k < 512) → assemble (suc l) i o % span l ≡ assemble l i o
  unfolding assemble
  assemble-rest l f = low (i (suc l)) (12 + 9 * l) (assemble-lt l (λ k p q. f k p (omega arith)))

  pub assemble-index : (l k : ℕ) → ((j : ℕ) → 1 ≤ j → j ≤ l → i j < 512) → 1 ≤ k → k ≤ l → index k (assemble l i o) ≡ i k
  unfolding assemble
  assemble-index zero k f p q = absurd (omega arith)
  assemble-index (suc l) k f p q = by_cases (dec_lt k (suc l)) (below (λ g h. assemble-index l k g p h)) top
    where
      g : (j : ℕ) → 1 ≤ j → j ≤ l → i j < 512
      g j u v = f j u (omega arith)

      below : (((j : ℕ) → 1 ≤ j → j ≤ l → i j < 512) → k ≤ l → index k (assemble l i o) ≡ i k) → k < suc l → index k (assemble (suc l) i o) ≡ i k
      below ih h = sym (index-low (assemble (suc l) i o) k l p (omega arith)) ∙ ap (index k) (assemble-rest l f) ∙ ih g (omega arith)

      top : (k < suc l → ⊥) → index k (assemble (suc l) i o) ≡ i k
      top n =
          let e : k ≡ suc l = omega arith in
          let s : suc l - 1 ≡ l = omega arith in
          rw (e, s, high (i (suc l)) (12 + 9 * l) (assemble-lt l g)) (mod-eq_of_lt (f (suc l) (omega arith) (omega arith)))

  pub assemble-offset : (l : ℕ) → ((j : ℕ) → 1 ≤ j → j ≤ l → i j < 512) → offset (assemble l i o) ≡ o
  unfolding assemble
  assemble-offset zero f = mod-eq_of_lt small
  assemble-offset (suc l) f =
      sym (offset-low (assemble (suc l) i o) l) ∙ ap offset (assemble-rest l f) ∙ assemble-offset l (λ j u v. f j u (omega arith))
