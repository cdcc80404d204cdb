-- The pages of a range and the run of its numbers: a draw that does not meet the gap takes the same item from both.
use Prim.Native.Nat.{ℕ, zero, suc, ◌+◌, ◌-◌, ◌*◌, ◌/◌, ◌%◌, ◌^◌, ◌≤◌, ◌<◌, min, max}
use mathlib.Core.Path.{◌≡◌, refl, sym, ◌∙◌}
use mathlib.Core.Bool.{Bool, true, false, ◌&&◌}
use mathlib.Core.List.{List, [], ◌∷◌, ◌++◌, reverse, reverse-append, append-nil}
use native.Mathlib.Omega.{arith}
use native.Mathlib.Decide.{dec_lt}
use native.Mathlib.Nat.{le-div_iff_mul-le, div-mul-le_self, le_trans, min-eq_left, min-eq_right, max-eq_left, max-eq_right, sub-eq-zero_of_le, zero-div, add-mul, add-div_right, dvd-sub, dvd_of_mod-eq-zero, mod-eq-zero_of_dvd, sub-zero, zero-mod}
use borrow.Author.Tests.{lt-ltb, le-leb, lt-leb, leb-false, eq-eqb, ne_eqb}
use lib.Dec.{ltb, leb, eqb}
use lib.ListN.{length, get_elem?, length-reverse}
use Rattle.laws.specs.Width.{IsWidth, half, first_high, sign_extend}
use Rattle.laws.specs.Run.{run, len_below, len_through, below, through, pages_below, pages_through}
use Rattle.laws.specs.Draw.{gap_front, gap_back}
use Rattle.laws.proofs.Cases.{by_cases}
use Rattle.laws.proofs.Run.{run_length, run_at, back_at, through-is}
use Rattle.laws.proofs.Width.{sizes, canonical-no-gap}
use Rattle.laws.proofs.Align.{under_top, power-whole, apart-whole}
use lib.Pow.{pow_pos, pow_mono, pow-add}

pub append_at : (xs ys : List ℕ) (n : ℕ) → n < length xs → get_elem? (xs ++ ys) n ≡ get_elem? xs n
append_at [] ys n h = absurd (omega arith)
append_at (x ∷ xs) ys zero h = refl
append_at (x ∷ xs) ys (suc n) h = append_at xs ys n (omega arith)

-- two pages of one size as the ends of a range: each is low, with room for one more, or high, and they are whole sizes apart, from each other and from the gap
pub record PageEnds (w s a b : ℕ) : Type 0 where
  pub low-start : a < half w → a + s ≤ half w
  pub high-start : half w ≤ a → first_high w ≤ a
  pub low_end : b < half w → b + s ≤ half w
  pub high_end : half w ≤ b → first_high w ≤ b
  pub apart : (b - a) / s * s ≡ b - a
  pub above : (b - first_high w) / s * s ≡ b - first_high w
  pub whole : a / s * s ≡ a
  pub to-gap : (half w - a) / s * s ≡ half w - a
  pub from-gap : (a - first_high w) / s * s ≡ a - first_high w
  pub first : a + s ≤ 2 ^ 64
  pub last : b + s ≤ 2 ^ 64
  pub some : 0 < s
  pub room : s ≤ half w
  pub two : s + s ≤ half w
  pub halves : half w ≤ first_high w

module _ (w s a b : ℕ) (p : PageEnds w s a b) where
  pub div-le : (x y : ℕ) → x ≤ y → x / s ≤ y / s
  div-le x y h = (le-div_iff_mul-le p.some).1 (le_trans (div-mul-le_self x s) h)

  nothing-below : (x y : ℕ) → y ≤ x → below x y s ≡ []
  unfolding run len_below
  nothing-below x y h = rw (sub-eq-zero_of_le h, zero-div)

  nothing-through : (x y : ℕ) → y < x → through x y s ≡ []
  unfolding run len_through
  nothing-through x y h = rw (lt-ltb y x h)

  -- a range in one half is its run, whichever its ends
  pub pages-low : (x y : ℕ) → y ≤ half w → pages_below w x y s ≡ below x y s
  unfolding pages_below
  pages-low x y h = rw (min-eq_left h, nothing-below (max x (first_high w)) y (omega (arith, p.halves)), append-nil)

  pub pages-high : (x y : ℕ) → first_high w ≤ x → pages_below w x y s ≡ below x y s
  unfolding pages_below
  pages-high x y h = rw (nothing-below x (min y (half w)) (omega (arith, p.halves)), max-eq_left h)

  pub through-low : (x y : ℕ) → y + s ≤ half w → pages_through w x y s ≡ through x y s
  unfolding pages_through
  through-low x y h =
      let e : min y (half w - s) ≡ y = min-eq_left (omega arith) in
      rw (e, nothing-through (max x (first_high w)) y (omega (arith, p.halves, p.some)), append-nil)

  pub through-high : (x y : ℕ) → first_high w ≤ x → pages_through w x y s ≡ through x y s
  unfolding pages_through
  through-high x y h = rw (nothing-through x (min y (half w - s)) (omega (arith, p.halves, p.some, p.room)), max-eq_left h)

  -- across the gap, the item at n from the front is among the low pages
  front_at : (xs : List ℕ) (k d n : ℕ) → n < d → d ≤ k → get_elem? (run a s d ++ xs) n ≡ get_elem? (run a s k) n
  front_at xs k d n h l = append_at (run a s d) xs n (rw run_length h) ∙ rw (run_at, run_at, lt-ltb n d h, lt-ltb n k (omega arith))

  -- what a draw that does not meet the gap says of n
  pub not-gap : (x y z : Bool) → (x && (y && z)) ≡ false → x ≡ true → y ≡ true → z ≡ false
  not-gap true true z e u v = e
  not-gap true false z e u v = let o : ◌≡◌ {A = ℕ} 0 1 = cc in absurd (omega arith)
  not-gap false y z e u v = let o : ◌≡◌ {A = ℕ} 0 1 = cc in absurd (omega arith)

  pub front_below : (n : ℕ) → gap_front w a b s n ≡ false → get_elem? (pages_below w a b s) n ≡ get_elem? (below a b s) n
  unfolding gap_front pages_below len_below
  front_below n g = by_cases (dec_lt a (half w)) low (λ m. rw (pages-high a b (p.high-start (omega arith))))
    where
      crossing : a < half w → half w ≤ b → get_elem? (pages_below w a b s) n ≡ get_elem? (below a b s) n
      crossing h l =
          let hb = p.high_end l in
          let f : n + 1 < (half w - a) / s = leb-false ((half w - a) / s) (n + 1) (not-gap (ltb a (half w)) (leb (first_high w) b) (leb ((half w - a) / s) (n + 1)) g (lt-ltb a (half w) h) (le-leb (first_high w) b hb)) in
          rw (min-eq_right l) (front_at (below (max a (first_high w)) b s) ((b - a) / s) ((half w - a) / s) n (omega arith) (div-le (half w - a) (b - a) (omega arith)))

      low : a < half w → get_elem? (pages_below w a b s) n ≡ get_elem? (below a b s) n
      low h = by_cases (dec_lt b (half w)) (λ l. rw (pages-low a b (omega arith))) (λ l. crossing h (omega arith))

  pub front-through : (n : ℕ) → gap_front w a b s n ≡ false → get_elem? (pages_through w a b s) n ≡ get_elem? (through a b s) n
  unfolding gap_front pages_through len_below
  front-through n g = by_cases (dec_lt a (half w)) low (λ m. rw (through-high a b (p.high-start (omega arith))))
    where
      crossing : a < half w → half w ≤ b → get_elem? (pages_through w a b s) n ≡ get_elem? (through a b s) n
      crossing h l =
          let hb = p.high_end l in
          let e : half w - s + s ≡ half w = omega (arith, p.room) in
          let f : n + 1 < (half w - a) / s = leb-false ((half w - a) / s) (n + 1) (not-gap (ltb a (half w)) (leb (first_high w) b) (leb ((half w - a) / s) (n + 1)) g (lt-ltb a (half w) h) (le-leb (first_high w) b hb)) in
          let u : min b (half w - s) ≡ half w - s = min-eq_right (omega arith) in
          rw (u, through-is a (half w - s) s p.some, through-is a b s p.some, e)
          (front_at (through (max a (first_high w)) b s) ((b + s - a) / s) ((half w - a) / s) n (omega arith) (div-le (half w - a) (b + s - a) (omega arith)))

      low : a < half w → get_elem? (pages_through w a b s) n ≡ get_elem? (through a b s) n
      low h = by_cases (dec_lt b (half w)) (λ l. rw (through-low a b (p.low_end l))) (λ l. crossing h (omega arith))

  -- and the item at n from the back is among the high pages
  back-high : (xs : List ℕ) (h k j n : ℕ) → n < j → j ≤ k → h + (j - 1 - n) * s ≡ a + (k - 1 - n) * s
      → get_elem? (reverse (xs ++ run h s j)) n ≡ get_elem? (reverse (run a s k)) n
  back-high xs h k j n l m e =
      rw (reverse-append) (append_at (reverse (run h s j)) (reverse xs) n (rw (length-reverse, run_length) l)
      ∙ rw (back_at, back_at, lt-ltb n j l, lt-ltb n k (omega arith), e))

  -- the same item, counted from either end
  pub back_below : (n : ℕ) → gap_back w a b s n ≡ false → get_elem? (reverse (pages_below w a b s)) n ≡ get_elem? (reverse (below a b s)) n
  unfolding gap_back pages_below len_below
  back_below n g = by_cases (dec_lt b (half w)) (λ l. rw (pages-low a b (omega arith))) (λ l. high (p.high_end (omega arith)))
    where
      crossing : first_high w ≤ b → a < half w → get_elem? (reverse (pages_below w a b s)) n ≡ get_elem? (reverse (below a b s)) n
      crossing hb h =
          let f : n < (b - first_high w) / s = leb-false ((b - first_high w) / s) n (not-gap (leb (first_high w) b) (ltb a (half w)) (leb ((b - first_high w) / s) n) g (le-leb (first_high w) b hb) (lt-ltb a (half w) h)) in
          let j = (b - first_high w) / s in
          let k = (b - a) / s in
          let l = div-le (b - first_high w) (b - a) (omega (arith, p.halves)) in
          let u : j - 1 - n + (n + 1) ≡ j = omega arith in
          let v : k - 1 - n + (n + 1) ≡ k = omega arith in
          let x = add-mul (j - 1 - n) (n + 1) s in
          let y = add-mul (k - 1 - n) (n + 1) s in
          let x' : j * s ≡ (j - 1 - n) * s + (n + 1) * s = rw u at x in
          let y' : k * s ≡ (k - 1 - n) * s + (n + 1) * s = rw v at y in
          let m : max a (first_high w) ≡ first_high w = max-eq_right (omega (arith, p.halves)) in
          rw m (back-high (below a (min b (half w)) s) (first_high w) k j n (omega arith) l (omega (arith, p.apart, p.above, p.halves)))

      high : first_high w ≤ b → get_elem? (reverse (pages_below w a b s)) n ≡ get_elem? (reverse (below a b s)) n
      high hb = by_cases (dec_lt a (half w)) (crossing hb) (λ m. rw (pages-high a b (p.high-start (omega arith))))

  pub back-through : (n : ℕ) → gap_back w a b s n ≡ false → get_elem? (reverse (pages_through w a b s)) n ≡ get_elem? (reverse (through a b s)) n
  unfolding gap_back pages_through len_below
  back-through n g = by_cases (dec_lt b (half w)) (λ l. rw (through-low a b (p.low_end l))) (λ l. high (p.high_end (omega arith)))
    where
      crossing : first_high w ≤ b → a < half w → get_elem? (reverse (pages_through w a b s)) n ≡ get_elem? (reverse (through a b s)) n
      crossing hb h =
          let f : n < (b - first_high w) / s = leb-false ((b - first_high w) / s) n (not-gap (leb (first_high w) b) (ltb a (half w)) (leb ((b - first_high w) / s) n) g (le-leb (first_high w) b hb) (lt-ltb a (half w) h)) in
          let j = (b - first_high w) / s in
          let k = (b - a) / s in
          let c : b + s - first_high w ≡ b - first_high w + s = omega arith in
          let d : b + s - a ≡ b - a + s = omega (arith, p.halves) in
          let c' = add-div_right (b - first_high w) p.some in
          let d' = add-div_right (b - a) p.some in
          let l = div-le (b - first_high w) (b - a) (omega (arith, p.halves)) in
          let u : j + 1 - 1 - n + n ≡ j = omega arith in
          let v : k + 1 - 1 - n + n ≡ k = omega arith in
          let x = add-mul (j + 1 - 1 - n) n s in
          let y = add-mul (k + 1 - 1 - n) n s in
          let x' : j * s ≡ (j + 1 - 1 - n) * s + n * s = rw u at x in
          let y' : k * s ≡ (k + 1 - 1 - n) * s + n * s = rw v at y in
          let z : max a (first_high w) ≡ first_high w = max-eq_right (omega (arith, p.halves)) in
          rw (z, through-is (first_high w) b s p.some, through-is a b s p.some, c, d, c', d')
          (back-high (through a (min b (half w - s)) s) (first_high w) (k + 1) (j + 1) n (omega arith) (omega arith) (omega (arith, p.apart, p.above, p.halves)))

      high : first_high w ≤ b → get_elem? (reverse (pages_through w a b s)) n ≡ get_elem? (reverse (through a b s)) n
      high hb = by_cases (dec_lt a (half w)) (crossing hb) (λ m. rw (through-high a b (p.high-start (omega arith))))

-- the first high page is one of any size below the width
pub high-whole : (w k : ℕ) → IsWidth w → k < w → first_high w % 2 ^ k ≡ 0
high-whole w k v h =
    mod-eq-zero_of_dvd (2 ^ k) (dvd-sub (2 ^ k) (dvd_of_mod-eq-zero (2 ^ k) (power-whole k 64 (omega (arith, v.below)))) (dvd_of_mod-eq-zero (2 ^ k) (power-whole k (w - 1) (omega arith))))

-- two canonical multiples of a size below the width are such ends
module _ (w k a b : ℕ) (v : IsWidth w) (h : k + 1 < w) (fa : a < 2 ^ 64) (fb : b < 2 ^ 64) (ca : sign_extend w a ≡ a) (cb : sign_extend w b ≡ b) (za : a % 2 ^ k ≡ 0) (zb : b % 2 ^ k ≡ 0) where
  high-of : (x : ℕ) → sign_extend w x ≡ x → half w ≤ x → first_high w ≤ x
  high-of x c l = by_cases (dec_lt x (first_high w)) (λ m. absurd (canonical-no-gap w v x c (l, m))) (λ m. omega arith)

  pub page-ends : PageEnds w (2 ^ k) a b
  page-ends =
      let s = sizes w v in
      record {
        low-start = λ l. under_top k (w - 1) a (omega arith) l za;
        high-start = high-of a ca;
        low_end = λ l. under_top k (w - 1) b (omega arith) l zb;
        high_end = high-of b cb;
        apart = apart-whole (2 ^ k) a b za zb;
        above = apart-whole (2 ^ k) (first_high w) b (high-whole w k v (omega arith)) zb;
        whole = rw sub-zero at (apart-whole (2 ^ k) 0 a (zero-mod (2 ^ k)) za);
        to-gap = apart-whole (2 ^ k) a (half w) za (power-whole k (w - 1) (omega arith));
        from-gap = apart-whole (2 ^ k) (first_high w) a (high-whole w k v (omega arith)) za;
        first = under_top k 64 a (omega (arith, v.below)) fa za;
        last = under_top k 64 b (omega (arith, v.below)) fb zb;
        some = pow_pos k;
        room = pow_mono {i = k} {j = w - 1} (omega arith);
        two = let e : k + 1 ≤ w - 1 = omega arith in omega (arith, pow_mono {i = k + 1} {j = w - 1} e, pow-add 2 k 1);
        halves = omega arith;
      }

-- "n ≥ d − 1" with no sum that could wrap
pub one_more : (d n : ℕ) → n < d → eqb (d - n) 1 ≡ leb d (n + 1)
one_more d n h =
    by_cases (dec_lt (n + 1) d) (λ l. ne_eqb (d - n) 1 (λ e. omega arith) ∙ sym (lt-leb d (n + 1) l))
    (λ l. eq-eqb (d - n) 1 (omega arith) ∙ sym (le-leb d (n + 1) (omega arith)))
