-- Lengths of ranges of pages by the low parts: as long as the list of the pages, and as the run of the numbers unless the range is over the gap, which that counts.
use Prim.Native.Nat.{ℕ, ◌+◌, ◌-◌, ◌*◌, ◌/◌, ◌^◌, ◌≤◌, ◌<◌, min, max}
use mathlib.Core.Path.{◌≡◌, sym, ap, ◌∙◌}
use mathlib.Core.Bool.{true, false, cond}
use native.Mathlib.Omega.{arith}
use native.Mathlib.Decide.{ℕ_discrete, dec_lt}
use native.Mathlib.Nat.{mod-eq_of_lt, add_comm, one-mul, add-mul-div_right, le-div_iff_mul-le, min-eq_right, max-eq_right}
use borrow.Author.Tests.{lt-ltb, le-ltb, le-leb, leb-false, eq-eqb, ne_eqb}
use lib.Dec.{ltb, leb, eqb}
use lib.ListN.{length, length-append}
use Rattle.laws.specs.Width.{IsWidth, low, half, first_high, sign_extend, OverGap}
use Rattle.laws.specs.Run.{len_below, len_through, pages_below, pages_through, page_len_below, page_len_through}
use Rattle.laws.specs.Draw.{taken, gap_front, gap_back}
use Rattle.laws.specs.Length.{IsPage, CountsPages}
use Rattle.laws.proofs.Cases.{by_cases}
use Rattle.laws.proofs.Width.{sizes, by-half, sign_clear, sign_set, sign-lt, canonical-fixed}
use Rattle.laws.proofs.Run.{run_length, through-is}
use Rattle.laws.proofs.Gap.{PageEnds, page-ends, not-gap, pages-low, pages-high, through-low, through-high}
use Rattle.laws.proofs.Halves.{by_start}

-- the low part of an address of each half
module _ (w : ℕ) (v : IsWidth w) (a : ℕ) (c : sign_extend w a ≡ a) where
  pub low-of-low : a < half w → low w a ≡ a
  low-of-low h = mod-eq_of_lt (omega (arith, sizes w v))

  pub low-of-high : half w ≤ a → low w a + (2 ^ 64 - 2 ^ w) ≡ a
  low-of-high h = by-half w v a (λ l. let e = sign_clear w v a l in absurd (omega arith)) (λ l. sym (sign_set w v a l) ∙ c)

-- a whole number of sizes, and what is beside it
with_whole : (x y s : ℕ) → 0 < s → x / s * s ≡ x → (x + y) / s ≡ x / s + y / s
with_whole x y s p e =
    let q : (y + x / s * s) / s ≡ y / s + x / s = add-mul-div_right y (x / s) p in
    let f : y + x / s * s ≡ x + y = omega arith in
    rw f at q ∙ add_comm (y / s) (x / s)

-- two lengths by which a draw of the item at n takes as many; past the first they are one
pub record Alike (k j n : ℕ) : Type 0 where
  pub same : taken k n ≡ taken j n
  pub past : k ≤ n → k ≡ j

module _ (w s a b : ℕ) (v : IsWidth w) (ca : sign_extend w a ≡ a) (cb : sign_extend w b ≡ b) (p : PageEnds w s a b) where
  -- for a proof that takes the ranges over the gap by themselves
  pub by-over : {C : Type 0} → ((OverGap w a b → ⊥) → C) → (OverGap w a b → C) → C
  by-over f g =
      by_start p (λ h k. f (λ o. omega (arith, o.end_high, p.halves))) (λ h k. g (record { start_low = h; end_high = k })) (λ h. f (λ o. omega (arith, o.start_low, p.halves)))

  -- the steps from the start to the end, and to one page past it, are the difference of the numbers
  apart : (e : ℕ) → e ≤ s → (OverGap w a b → ⊥) → low w b + e - low w a ≡ b + e - a
  apart e h n =
      by_start p (λ k l. rw (low-of-low w v a ca k, low-of-low w v b cb l)) (λ k l. absurd (n (record { start_low = k; end_high = l })))
      (λ k. by_cases (dec_lt b (half w))
      (λ l. omega (arith, low-of-low w v b cb l, low-of-high w v a ca (omega (arith, p.halves)), p.low_end l, p.halves, sizes w v))
      (λ l. omega (arith, low-of-high w v b cb (omega arith), low-of-high w v a ca (omega (arith, p.halves)))))

  pub below-apart : (OverGap w a b → ⊥) → page_len_below w a b s ≡ len_below a b s
  unfolding len_below
  below-apart n = let e : low w b - low w a ≡ b - a = omega (arith, apart 0 (omega arith) n) in ap (λ (x : ℕ). x / s) e

  pub through-apart : (OverGap w a b → ⊥) → page_len_through w a b s ≡ len_through a b s
  unfolding len_below
  through-apart n = rw (through-is (low w a) (low w b) s p.some, through-is a b s p.some) (ap (λ (x : ℕ). x / s) (apart s (omega arith) n))

  -- over the gap, the pages of the low half and those of the high one
  module _ (o : OverGap w a b) where
    low-start : low w a ≡ a
    low-start = low-of-low w v a ca o.start_low

    high_end : low w b + (2 ^ 64 - 2 ^ w) ≡ b
    high_end = low-of-high w v b cb (omega (arith, p.halves, o.end_high))

    pub below-over : page_len_below w a b s ≡ (half w - a) / s + (b - first_high w) / s
    unfolding len_below
    below-over =
        let e : low w b - low w a ≡ half w - a + (b - first_high w) = omega (arith, low-start, high_end, o.start_low, o.end_high, p.halves, sizes w v) in
        ap (λ (x : ℕ). x / s) e ∙ with_whole (half w - a) (b - first_high w) s p.some p.to-gap

    -- and beside these what the gap would have room for
    pub gap-counted : len_below a b s ≡ page_len_below w a b s + (2 ^ 64 - 2 ^ w) / s
    unfolding len_below
    gap-counted =
        let e : b - a ≡ half w - a + (b - first_high w + (2 ^ 64 - 2 ^ w)) = omega (arith, o.start_low, o.end_high, p.halves, sizes w v) in
        let f = with_whole (half w - a) (b - first_high w + (2 ^ 64 - 2 ^ w)) s p.some p.to-gap in
        let g = with_whole (b - first_high w) (2 ^ 64 - 2 ^ w) s p.some p.above in
        omega (arith, ap (λ (x : ℕ). x / s) e, f, g, below-over)

    -- an inclusive one has a page more
    pub one-more : len_through a b s ≡ len_below a b s + 1
    unfolding len_below len_through
    one-more = rw (le-ltb b a (omega (arith, o.start_low, o.end_high, p.halves)))

    pub page-more : page_len_through w a b s ≡ page_len_below w a b s + 1
    unfolding len_below len_through
    page-more = rw (le-ltb (low w b) (low w a) (omega (arith, low-start, high_end, o.start_low, o.end_high, p.halves, sizes w v)))

    pub gap-counted-through : len_through a b s ≡ page_len_through w a b s + (2 ^ 64 - 2 ^ w) / s
    gap-counted-through = omega (arith, one-more, page-more, gap-counted)

    list-over : length (pages_below w a b s) ≡ (half w - a) / s + (b - first_high w) / s
    unfolding pages_below len_below
    list-over =
        let e : min b (half w) ≡ half w = min-eq_right (omega (arith, o.end_high, p.halves)) in
        let f : max a (first_high w) ≡ first_high w = max-eq_right (omega (arith, o.start_low, p.halves)) in
        rw (e, f, length-append, run_length, run_length)

    pub low-through : len_through a (half w - s) s ≡ (half w - a) / s
    unfolding len_below
    low-through = let e : half w - s + s ≡ half w = omega (arith, p.room) in through-is a (half w - s) s p.some ∙ ap (λ (x : ℕ). (x - a) / s) e

    pub high-through : len_through (first_high w) b s ≡ (b - first_high w) / s + 1
    unfolding len_through
    high-through = rw (le-ltb b (first_high w) o.end_high)

    list-through-over : length (pages_through w a b s) ≡ (half w - a) / s + ((b - first_high w) / s + 1)
    unfolding pages_through
    list-through-over =
        let e : min b (half w - s) ≡ half w - s = min-eq_right (omega (arith, o.end_high, p.halves)) in
        let f : max a (first_high w) ≡ first_high w = max-eq_right (omega (arith, o.start_low, p.halves)) in
        rw (e, f, length-append, run_length, run_length, low-through, high-through)

  pub below-length : page_len_below w a b s ≡ length (pages_below w a b s)
  below-length =
      by-over (λ n. below-apart n ∙ in-half n) (λ o. below-over o ∙ sym (list-over o))
    where
      in-half : (OverGap w a b → ⊥) → len_below a b s ≡ length (pages_below w a b s)
      in-half n =
          by_start p (λ h k. rw (pages-low w s a b p a b (omega arith), run_length)) (λ h k. absurd (n (record { start_low = h; end_high = k })))
          (λ h. rw (pages-high w s a b p a b h, run_length))

  pub through-length : page_len_through w a b s ≡ length (pages_through w a b s)
  through-length =
      by-over (λ n. through-apart n ∙ in-half n) (λ o. omega (arith, page-more o, below-over o, list-through-over o))
    where
      in-half : (OverGap w a b → ⊥) → len_through a b s ≡ length (pages_through w a b s)
      in-half n =
          by_start p (λ h k. rw (through-low w s a b p a b (p.low_end k), run_length)) (λ h k. absurd (n (record { start_low = h; end_high = k })))
          (λ h. rw (through-high w s a b p a b h, run_length))

  -- a draw that does not meet the gap is alike by either length
  module _ (n : ℕ) where
    fewer-front : OverGap w a b → gap_front w a b s n ≡ false → n + 1 < (half w - a) / s
    unfolding gap_front
    fewer-front o g =
        leb-false ((half w - a) / s) (n + 1)
        (not-gap w s a b p (ltb a (half w)) (leb (first_high w) b) (leb ((half w - a) / s) (n + 1)) g (lt-ltb a (half w) o.start_low) (le-leb (first_high w) b o.end_high))

    fewer-back : OverGap w a b → gap_back w a b s n ≡ false → n < (b - first_high w) / s
    unfolding gap_back
    fewer-back o g =
        leb-false ((b - first_high w) / s) n
        (not-gap w s a b p (leb (first_high w) b) (ltb a (half w)) (leb ((b - first_high w) / s) n) g (le-leb (first_high w) b o.end_high) (lt-ltb a (half w) o.start_low))

    alike : (k j : ℕ) → ((OverGap w a b → ⊥) → k ≡ j) → (OverGap w a b → (n < k) × (n < j)) → Alike k j n
    alike k j f g =
        by-over (λ m. let e = f m in record { same = ap (λ (x : ℕ). taken x n) e; past = λ l. e })
        (λ o. let (x, y) = g o in record { same = omega arith; past = λ l. absurd (omega arith) })

    pub front-alike : gap_front w a b s n ≡ false → Alike (page_len_below w a b s) (len_below a b s) n
    front-alike g =
        alike (page_len_below w a b s) (len_below a b s) below-apart
        (λ o. let f = fewer-front o g in let k = below-over o in (omega arith, omega (arith, gap-counted o)))

    pub front-through-alike : gap_front w a b s n ≡ false → Alike (page_len_through w a b s) (len_through a b s) n
    front-through-alike g =
        alike (page_len_through w a b s) (len_through a b s) through-apart
        (λ o. let f = fewer-front o g in let k = below-over o in (omega (arith, page-more o), omega (arith, page-more o, gap-counted-through o)))

    pub back-alike : gap_back w a b s n ≡ false → Alike (page_len_below w a b s) (len_below a b s) n
    back-alike g =
        alike (page_len_below w a b s) (len_below a b s) below-apart
        (λ o. let f = fewer-back o g in let k = below-over o in (omega arith, omega (arith, gap-counted o)))

    pub back-through-alike : gap_back w a b s n ≡ false → Alike (page_len_through w a b s) (len_through a b s) n
    back-through-alike g =
        alike (page_len_through w a b s) (len_through a b s) through-apart
        (λ o. let f = fewer-back o g in let k = below-over o in (omega (arith, page-more o), omega (arith, page-more o, gap-counted-through o)))

-- the gap would have room for a page
pub gap-some : (w s a b : ℕ) → IsWidth w → PageEnds w s a b → 0 < (2 ^ 64 - 2 ^ w) / s
gap-some w s a b v p = (le-div_iff_mul-le p.some).1 (omega (arith, one-mul s, p.two, sizes w v))

-- `size` of an inclusive range as document 01 alone has it, unless it is all of the 64-bit numbers
pub not-whole : (a b s : ℕ) → (b ≡ 2 ^ 64 - s → a ≡ 0 → ⊥) → cond (eqb b (2 ^ 64 - s)) (cond (eqb a 0) false true) true ≡ true
not-whole a b s h =
    by_cases (ℕ_discrete b (2 ^ 64 - s)) (λ e. rw (eq-eqb b (2 ^ 64 - s) e, ne_eqb a 0 (h e))) (λ n. rw (ne_eqb b (2 ^ 64 - s) n))

-- two pages of a size that is a power of two below the width
module _ (w k : ℕ) (v : IsWidth w) (h : k + 1 < w) where
  pub fixed : (a : ℕ) → IsPage w (2 ^ k) a → sign_extend w a ≡ a
  fixed a x = (canonical-fixed w v a).0 x.address

  under : (a : ℕ) → IsPage w (2 ^ k) a → a < 2 ^ 64
  under a x = omega (arith, fixed a x, sign-lt w v a)

  pub ends : (a b : ℕ) → IsPage w (2 ^ k) a → IsPage w (2 ^ k) b → PageEnds w (2 ^ k) a b
  ends a b x y = page-ends w k a b v h (under a x) (under b y) (fixed a x) (fixed b y) x.whole y.whole

  pub counts-pages : CountsPages w (2 ^ k)
  counts-pages =
      record {
        below = λ a b x y. below-length w (2 ^ k) a b v (fixed a x) (fixed b y) (ends a b x y);
        through = λ a b x y. through-length w (2 ^ k) a b v (fixed a x) (fixed b y) (ends a b x y);
      }
