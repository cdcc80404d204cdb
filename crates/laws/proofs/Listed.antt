-- The list of a range's pages has the pages from the start on, by their numbers.
use Prim.Native.Nat.{ℕ, ◌+◌, ◌-◌, ◌*◌, ◌/◌, ◌%◌, ◌^◌, ◌≤◌, ◌<◌, min, max}
use mathlib.Core.Path.{◌≡◌, sym, ap, ◌∙◌}
use mathlib.Core.Bool.{cond}
use mathlib.Core.List.{List, [], ◌∷◌, ◌++◌}
use mathlib.Core.Option.{some, none}
use native.Mathlib.Omega.{arith}
use native.Mathlib.Decide.{dec_lt}
use native.Mathlib.Nat.{zero-add, suc-add, mod-eq_of_lt, add-mul, div-add-mod', min-eq_right, max-eq_right, div-mul-le_self}
use borrow.Author.Tests.{lt-ltb, le-ltb}
use lib.Dec.{ltb}
use lib.ListN.{length, get_elem?}
use Rattle.laws.specs.Width.{IsWidth, low, half, first_high, sign_extend, OverGap}
use Rattle.laws.specs.Run.{run, len_below, len_through, pages_below, pages_through, page_len_below, page_len_through}
use Rattle.laws.specs.Number.{number, start}
use Rattle.laws.specs.Length.{IsPage, ListsPages}
use Rattle.laws.proofs.Cases.{by_cases}
use Rattle.laws.proofs.Width.{sizes, sign_set, sign-of-low}
use Rattle.laws.proofs.Number.{low-multiple}
use Rattle.laws.proofs.Run.{run_length, run_at, steps-fit, through-is}
use lib.Pow.{pow_pos}
use Rattle.laws.proofs.Gap.{PageEnds, append_at, pages-low, pages-high, through-low, through-high}
use Rattle.laws.proofs.Halves.{by_start}
use Rattle.laws.proofs.Length.{low-of-low, low-of-high, below-apart, through-apart, below-over, page-more, low-through, high-through, fixed, ends}

-- behind the first of two lists
append_past : (xs ys : List ℕ) (n : ℕ) → get_elem? (xs ++ ys) (length xs + n) ≡ get_elem? ys n
append_past [] ys n = ap (λ m. get_elem? ys m) (zero-add n)
append_past (x ∷ xs) ys n = ap (λ m. get_elem? (x ∷ (xs ++ ys)) m) (suc-add (length xs) n) ∙ append_past xs ys n

module _ (w k a : ℕ) (v : IsWidth w) (h : k + 1 < w) (ca : sign_extend w a ≡ a) (za : a % 2 ^ k ≡ 0) where
  abbrev s : ℕ
  s = 2 ^ k

  -- the page n on from `a`
  abbrev page_on : ℕ → ℕ
  page_on n = start w s (number w s a + n)

  by-low : (n t : ℕ) → low w a + n * s ≡ t → page_on n ≡ sign_extend w t
  by-low n t f =
      let e : low w a / s * s ≡ low w a = omega (arith, div-add-mod' (low w a) s, low-multiple w k v (omega arith) a) in
      ap (sign_extend w) (omega (arith, add-mul (low w a / s) n s))

  in-high : (t : ℕ) → half w ≤ t → t < 2 ^ w → sign_extend w t ≡ t + (2 ^ 64 - 2 ^ w)
  in-high t l m = let e : low w t ≡ t = mod-eq_of_lt m in omega (arith, sign_set w v t (omega arith))

  low-page : (n : ℕ) → a < half w → a + n * s < half w → page_on n ≡ a + n * s
  low-page n l m = by-low n (a + n * s) (omega (arith, low-of-low w v a ca l)) ∙ sign-of-low w v (a + n * s) m

  high-page : (n : ℕ) → first_high w ≤ a → a + n * s < 2 ^ 64 → page_on n ≡ a + n * s
  high-page n l m =
      let z = sizes w v in
      let e = low-of-high w v a ca (omega (arith, z)) in
      by-low n (a + n * s - (2 ^ 64 - 2 ^ w)) (omega (arith, e)) ∙ in-high (a + n * s - (2 ^ 64 - 2 ^ w)) (omega (arith, e, z)) (omega (arith, e, z)) ∙ omega (arith, e, z)

  over-page : (d n : ℕ) → a < half w → a + d * s ≡ half w → d ≤ n → first_high w + (n - d) * s < 2 ^ 64 → page_on n ≡ first_high w + (n - d) * s
  over-page d n l e m f =
      let z = sizes w v in
      let g : n - d + d ≡ n = omega arith in
      let q : n * s ≡ (n - d) * s + d * s = rw g at (add-mul (n - d) d s) in
      by-low n (half w + (n - d) * s) (omega (arith, low-of-low w v a ca l)) ∙ in-high (half w + (n - d) * s) (omega arith) (omega (arith, z)) ∙ omega (arith, z)

  -- a run in one half
  run-pages : (j n : ℕ) → (n < j → page_on n ≡ a + n * s) → get_elem? (run a s j) n ≡ cond (ltb n j) (some (page_on n)) none
  run-pages j n f = by_cases (dec_lt n j) (λ l. rw (run_at, lt-ltb n j l, f l)) (λ m. rw (run_at, le-ltb n j (omega arith)))

  -- two, one in each half
  over-pages : (d m n : ℕ) → a < half w → a + d * s ≡ half w → first_high w + m * s ≤ 2 ^ 64 → get_elem? (run a s d ++ run (first_high w) s m) n ≡ cond (ltb n (d + m)) (some (page_on n)) none
  over-pages d m n l e f = by_cases (dec_lt n d) below above
    where
      below : n < d → get_elem? (run a s d ++ run (first_high w) s m) n ≡ cond (ltb n (d + m)) (some (page_on n)) none
      below g =
          append_at (run a s d) (run (first_high w) s m) n (rw run_length g)
          ∙ rw (run_at, lt-ltb n d g, lt-ltb n (d + m) (omega arith), low-page n l (omega (arith, steps-fit n d s g, pow_pos k)))

      past : (i : ℕ) → n ≡ d + i → get_elem? (run a s d ++ run (first_high w) s m) n ≡ get_elem? (run (first_high w) s m) i
      past i g =
          let q : length (run a s d) + i ≡ n = rw run_length (sym g) in
          rw q at (append_past (run a s d) (run (first_high w) s m) i)

      above : (n < d → ⊥) → get_elem? (run a s d ++ run (first_high w) s m) n ≡ cond (ltb n (d + m)) (some (page_on n)) none
      above g =
          past (n - d) (omega arith)
          ∙ by_cases (dec_lt (n - d) m)
          (λ i. rw (run_at, lt-ltb (n - d) m i, lt-ltb n (d + m) (omega arith), over-page d n l e (omega arith) (omega (arith, steps-fit (n - d) m s i, pow_pos k))))
          (λ i. rw (run_at, le-ltb (n - d) m (omega arith), le-ltb n (d + m) (omega arith)))

module _ (w k a b n : ℕ) (v : IsWidth w) (h : k + 1 < w) (x : IsPage w (2 ^ k) a) (y : IsPage w (2 ^ k) b) where
  abbrev z : ℕ
  z = 2 ^ k

  p : PageEnds w z a b
  p = ends w k v h a b x y

  ca : sign_extend w a ≡ a
  ca = fixed w k v h a x

  cb : sign_extend w b ≡ b
  cb = fixed w k v h b y

  -- a number before the end
  below-end : n < len_below a b z → a + n * z < b
  unfolding len_below
  below-end l = omega (arith, steps-fit n ((b - a) / z) z l, div-mul-le_self (b - a) z, pow_pos k)

  through-end : n < len_through a b z → a + n * z ≤ b
  unfolding len_below
  through-end l =
      let m : n < (b + z - a) / z = rw (through-is a b z (pow_pos k)) at l in
      omega (arith, steps-fit n ((b + z - a) / z) z m, div-mul-le_self (b + z - a) z)

  below-listed : get_elem? (pages_below w a b z) n ≡ cond (ltb n (page_len_below w a b z)) (some (start w z (number w z a + n))) none
  unfolding pages_below len_below
  below-listed = by_start p low over high
    where
      low : a < half w → b < half w → get_elem? (pages_below w a b z) n ≡ cond (ltb n (page_len_below w a b z)) (some (start w z (number w z a + n))) none
      low l m =
          rw (pages-low w z a b p a b (omega arith), below-apart w z a b v ca cb p (λ o. omega (arith, o.end_high, p.halves)))
          (run-pages w k a v h ca x.whole (len_below a b z) n (λ i. low-page w k a v h ca x.whole n l (omega (arith, below-end i))))

      over : a < half w → first_high w ≤ b → get_elem? (pages_below w a b z) n ≡ cond (ltb n (page_len_below w a b z)) (some (start w z (number w z a + n))) none
      over l m =
          let e : min b (half w) ≡ half w = min-eq_right (omega (arith, p.halves)) in
          let f : max a (first_high w) ≡ first_high w = max-eq_right (omega (arith, p.halves)) in
          rw (e, f, below-over w z a b v ca cb p (record { start_low = l; end_high = m }))
          (over-pages w k a v h ca x.whole ((half w - a) / z) ((b - first_high w) / z) n l (omega (arith, p.to-gap)) (omega (arith, p.above, p.last)))

      high : first_high w ≤ a → get_elem? (pages_below w a b z) n ≡ cond (ltb n (page_len_below w a b z)) (some (start w z (number w z a + n))) none
      high l =
          rw (pages-high w z a b p a b l, below-apart w z a b v ca cb p (λ o. omega (arith, o.start_low, p.halves)))
          (run-pages w k a v h ca x.whole (len_below a b z) n (λ i. high-page w k a v h ca x.whole n l (omega (arith, below-end i, p.last))))

  through-listed : get_elem? (pages_through w a b z) n ≡ cond (ltb n (page_len_through w a b z)) (some (start w z (number w z a + n))) none
  unfolding pages_through
  through-listed = by_start p low over high
    where
      low : a < half w → b < half w → get_elem? (pages_through w a b z) n ≡ cond (ltb n (page_len_through w a b z)) (some (start w z (number w z a + n))) none
      low l m =
          rw (through-low w z a b p a b (p.low_end m), through-apart w z a b v ca cb p (λ o. omega (arith, o.end_high, p.halves)))
          (run-pages w k a v h ca x.whole (len_through a b z) n (λ i. low-page w k a v h ca x.whole n l (omega (arith, through-end i))))

      over : a < half w → first_high w ≤ b → get_elem? (pages_through w a b z) n ≡ cond (ltb n (page_len_through w a b z)) (some (start w z (number w z a + n))) none
      over l m =
          let o : OverGap w a b = record { start_low = l; end_high = m } in
          let e : min b (half w - z) ≡ half w - z = min-eq_right (omega (arith, p.halves)) in
          let f : max a (first_high w) ≡ first_high w = max-eq_right (omega (arith, p.halves)) in
          let g : page_len_through w a b z ≡ (half w - a) / z + ((b - first_high w) / z + 1) = omega (arith, page-more w z a b v ca cb p o, below-over w z a b v ca cb p o) in
          rw (e, f, g, low-through w z a b v ca cb p o, high-through w z a b v ca cb p o)
          (over-pages w k a v h ca x.whole ((half w - a) / z) ((b - first_high w) / z + 1) n l (omega (arith, p.to-gap)) (omega (arith, p.above, p.last, add-mul ((b - first_high w) / z) 1 z)))

      high : first_high w ≤ a → get_elem? (pages_through w a b z) n ≡ cond (ltb n (page_len_through w a b z)) (some (start w z (number w z a + n))) none
      high l =
          rw (through-high w z a b p a b l, through-apart w z a b v ca cb p (λ o. omega (arith, o.start_low, p.halves)))
          (run-pages w k a v h ca x.whole (len_through a b z) n (λ i. high-page w k a v h ca x.whole n l (omega (arith, through-end i, p.last, p.some))))

pub lists-pages : (w k : ℕ) → IsWidth w → k + 1 < w → ListsPages w (2 ^ k)
lists-pages w k v h = record { below = λ a b n x y. below-listed w k a b n v h x y; through = λ a b n x y. through-listed w k a b n v h x y }
