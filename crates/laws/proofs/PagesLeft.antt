-- What a draw of pages leaves, where it does not meet the gap: the range left stands for the pages without those drawn.
use Prim.Native.Nat.{ℕ, ◌+◌, ◌-◌, ◌*◌, ◌/◌, ◌≤◌, ◌<◌, min, max}
use mathlib.Core.Path.{◌≡◌, sym, ap, ◌∙◌}
use mathlib.Core.Bool.{true, false}
use mathlib.Core.List.{List, ◌++◌, reverse, reverse-append}
use native.Mathlib.Omega.{arith}
use native.Mathlib.Decide.{ℕ_discrete, dec_lt}
use native.Mathlib.Nat.{min-eq_left, min-eq_right, max-eq_right, le_trans, mul-le-mul_right, div-mul-le_self, min-le_right, add-mul, one-mul}
use borrow.Author.Tests.{lt-ltb, le-ltb, le-leb, leb-false}
use lib.Dec.{ltb, leb}
use lib.ListN.{drop, length-reverse}
use lib.Seq.{drop-append-le}
use Rattle.laws.specs.Width.{half, first_high}
use Rattle.laws.specs.Run.{len_below, len_through, below, through, pages_below, pages_through}
use Rattle.laws.specs.Draw.{Draw, taken, front_through, back_through, top_page, top_of, bottom_of, gap_front, gap_back}
use Rattle.laws.proofs.Cases.{by_cases}
use Rattle.laws.proofs.Run.{run_length, front-left, back-left, through-is, fits-through}
use Rattle.laws.proofs.Draw.{front-through-start, front-through-end, back-through-start}
use Rattle.laws.proofs.Left.{front-through-left, back-through-left}
use Rattle.laws.proofs.After.{Stepwise, front-through-steps, back-through-steps}
use Rattle.laws.proofs.Gap.{PageEnds, not-gap, div-le, pages-low, pages-high, through-low, through-high}
use Rattle.laws.proofs.Halves.{by_start, by_end, top-low, top-high, top-over, bottom-high, bottom-over, bottom-zero, start-top, end-top, size-top, bottom-start, bottom-end, bottom-room, start-bottom}

module _ (w s a b : ℕ) (p : PageEnds w s a b) where
  pub pages-front-left : (n : ℕ) → gap_front w a b s n ≡ false → pages_below w (a + taken (len_below a b s) n * s) b s ≡ drop (n + 1) (pages_below w a b s)
  unfolding gap_front pages_below len_below
  pages-front-left n g =
      by_cases (dec_lt a (half w)) low
      (λ m. let h = p.high-start (omega arith) in rw (pages-high w s a b p (a + taken ((b - a) / s) n * s) b (omega arith), pages-high w s a b p a b h) (front-left a b s (n + 1) p.some))
    where
      crossing : a < half w → half w ≤ b → pages_below w (a + taken (len_below a b s) n * s) b s ≡ drop (n + 1) (pages_below w a b s)
      crossing h l =
          let hb = p.high_end l in
          let d = (half w - a) / s in
          let k = (b - a) / s in
          let f : n + 1 < d = leb-false d (n + 1) (not-gap w s a b p (ltb a (half w)) (leb (first_high w) b) (leb d (n + 1)) g (lt-ltb a (half w) h) (le-leb (first_high w) b hb)) in
          let m : d ≤ k = div-le w s a b p (half w - a) (b - a) (omega arith) in
          let j : min (n + 1) k ≡ n + 1 = min-eq_left (omega arith) in
          let j' : min (n + 1) d ≡ n + 1 = min-eq_left (omega arith) in
          let t : (n + 1) * s ≤ half w - a = le_trans (mul-le-mul_right s (omega arith)) (div-mul-le_self (half w - a) s) in
          let x : max (a + (n + 1) * s) (first_high w) ≡ first_high w = max-eq_right (omega (arith, p.halves)) in
          let y : max a (first_high w) ≡ first_high w = max-eq_right (omega (arith, p.halves)) in
          let q = front-left a (half w) s (n + 1) p.some in
          rw (j, min-eq_right l, x, y, drop-append-le (n + 1) (below a (half w) s) (below (first_high w) b s) (rw run_length (omega arith))) (ap (λ (z : List ℕ). z ++ below (first_high w) b s) (rw j' at q))

      low : a < half w → pages_below w (a + taken (len_below a b s) n * s) b s ≡ drop (n + 1) (pages_below w a b s)
      low h =
          by_cases (dec_lt b (half w)) (λ l. rw (pages-low w s a b p (a + taken ((b - a) / s) n * s) b (omega arith), pages-low w s a b p a b (omega arith)) (front-left a b s (n + 1) p.some))
          (λ l. crossing h (omega arith))

  pub pages-back-left : (n : ℕ) → gap_back w a b s n ≡ false → reverse (pages_below w a (b - taken (len_below a b s) n * s) s) ≡ drop (n + 1) (reverse (pages_below w a b s))
  unfolding gap_back pages_below len_below
  pages-back-left n g =
      by_cases (dec_lt b (half w)) (λ l. rw (pages-low w s a b p a (b - taken ((b - a) / s) n * s) (omega arith), pages-low w s a b p a b (omega arith)) (back-left a b s (n + 1) p.some))
      (λ l. high (p.high_end (omega arith)))
    where
      crossing : first_high w ≤ b → a < half w → reverse (pages_below w a (b - taken (len_below a b s) n * s) s) ≡ drop (n + 1) (reverse (pages_below w a b s))
      crossing hb h =
          let j = (b - first_high w) / s in
          let k = (b - a) / s in
          let f : n < j = leb-false j n (not-gap w s a b p (leb (first_high w) b) (ltb a (half w)) (leb j n) g (le-leb (first_high w) b hb) (lt-ltb a (half w) h)) in
          let m : j ≤ k = div-le w s a b p (b - first_high w) (b - a) (omega (arith, p.halves)) in
          let u : min (n + 1) k ≡ n + 1 = min-eq_left (omega arith) in
          let u' : min (n + 1) j ≡ n + 1 = min-eq_left (omega arith) in
          let t : (n + 1) * s ≤ b - first_high w = le_trans (mul-le-mul_right s (omega arith)) (div-mul-le_self (b - first_high w) s) in
          let x : min (b - (n + 1) * s) (half w) ≡ half w = min-eq_right (omega (arith, p.halves)) in
          let y : min b (half w) ≡ half w = min-eq_right (omega (arith, p.halves)) in
          let z : max a (first_high w) ≡ first_high w = max-eq_right (omega (arith, p.halves)) in
          let q = back-left (first_high w) b s (n + 1) p.some in
          let q' : reverse (below (first_high w) (b - (n + 1) * s) s) ≡ drop (n + 1) (reverse (below (first_high w) b s)) = rw u' at q in
          rw (u, x, y, z, reverse-append (below a (half w) s) (below (first_high w) (b - (n + 1) * s) s), reverse-append (below a (half w) s) (below (first_high w) b s), drop-append-le (n + 1) (reverse (below (first_high w) b s)) (reverse (below a (half w) s)) (rw (length-reverse, run_length) (omega arith)))
          (ap (λ (v : List ℕ). v ++ reverse (below a (half w) s)) q')

      high : first_high w ≤ b → reverse (pages_below w a (b - taken (len_below a b s) n * s) s) ≡ drop (n + 1) (reverse (pages_below w a b s))
      high hb =
          by_cases (dec_lt a (half w)) (crossing hb)
          (λ m. let h = p.high-start (omega arith) in rw (pages-high w s a b p a (b - taken ((b - a) / s) n * s) h, pages-high w s a b p a b h) (back-left a b s (n + 1) p.some))

  -- inclusive ranges
  module _ (l : List ℕ) (n : ℕ) where
    -- what a draw leaves
    abbrev pub front : Draw
    front = front_through l (top_of w a b s) a b s n

    abbrev pub back : Draw
    back = back_through l (bottom_of w a b) a b s n

    abbrev pub next : ℕ
    next = a + taken (len_through a b s) n * s

    abbrev pub drawn : ℕ
    drawn = taken (len_through a b s) n * s

    pub next-within : next ≤ max a (b + s)
    next-within = omega (arith, fits-through a b s p.some, mul-le-mul_right {m = min (n + 1) (len_through a b s)} {n = len_through a b s} s (min-le_right (n + 1) (len_through a b s)))

    pub moved : next ≤ top_of w a b s → (front.start ≡ next) × (front.end ≡ b)
    moved h = (rw (le-ltb (top_of w a b s) next h), rw (le-ltb (top_of w a b s) next h))

    pub front-start : a ≤ front.start
    front-start = by_cases (dec_lt (top_of w a b s) next) (λ h. rw (lt-ltb (top_of w a b s) next h) (start-top w s a b p)) (λ h. rw (le-ltb (top_of w a b s) next (omega arith)) (omega arith))

    pub front-end : (front.end ≡ b → ⊥) → front.end ≡ top_of w a b s - s
    front-end m = by_cases (dec_lt (top_of w a b s) next) (λ h. rw (lt-ltb (top_of w a b s) next h)) (λ h. absurd (m (moved (omega arith)).1))

    pub front-start-top : front.start ≤ top_of w a b s
    front-start-top = front-through-start l a b s n (top_of w a b s) (start-top w s a b p) (end-top w s a b p) (size-top w s a b p)

    pub front-end-top : front.end ≤ top_of w a b s
    front-end-top = front-through-end l a b s n (top_of w a b s) (start-top w s a b p) (end-top w s a b p) (size-top w s a b p)

    run-front-left : through front.start front.end s ≡ drop (n + 1) (through a b s)
    run-front-left = front-through-left l a b s (top_of w a b s) n p.some (size-top w s a b p) (start-top w s a b p) (end-top w s a b p)

    pub pages-front-through-left : gap_front w a b s n ≡ false → pages_through w front.start front.end s ≡ drop (n + 1) (pages_through w a b s)
    unfolding gap_front pages_through len_below
    pages-front-through-left g =
        by_start p low over
        (λ h. rw (through-high w s a b p front.start front.end (le_trans h front-start), through-high w s a b p a b h) run-front-left)
      where
        low : a < half w → b < half w → pages_through w front.start front.end s ≡ drop (n + 1) (pages_through w a b s)
        low h k =
            let e = top-low w a b s h k in
            rw (through-low w s a b p front.start front.end (omega (arith, front-end-top, p.room)), through-low w s a b p a b (p.low_end k)) run-front-left

        over : a < half w → first_high w ≤ b → pages_through w front.start front.end s ≡ drop (n + 1) (pages_through w a b s)
        over h k =
            let d = (half w - a) / s in
            let f : n + 1 < d = leb-false d (n + 1) (not-gap w s a b p (ltb a (half w)) (leb (first_high w) b) (leb d (n + 1)) g (lt-ltb a (half w) h) (le-leb (first_high w) b k)) in
            let m : d ≤ (b + s - a) / s = div-le w s a b p (half w - a) (b + s - a) (omega (arith, p.halves)) in
            let j : min (n + 1) (len_through a b s) ≡ n + 1 = rw (through-is a b s p.some) (min-eq_left (omega arith)) in
            let j' : min (n + 1) d ≡ n + 1 = min-eq_left (omega arith) in
            let t : (n + 1) * s ≤ half w - a = le_trans (mul-le-mul_right s (omega arith)) (div-mul-le_self (half w - a) s) in
            let c : ltb (top_of w a b s) (a + (n + 1) * s) ≡ false = le-ltb (top_of w a b s) (a + (n + 1) * s) (omega (arith, end-top w s a b p, p.halves)) in
            let i : min b (half w - s) ≡ half w - s = min-eq_right (omega (arith, p.halves)) in
            let x : max (a + (n + 1) * s) (first_high w) ≡ first_high w = max-eq_right (omega (arith, p.halves)) in
            let y : max a (first_high w) ≡ first_high w = max-eq_right (omega (arith, p.halves)) in
            let e : half w - s + s ≡ half w = omega (arith, p.room) in
            let q = front-left a (half w) s (n + 1) p.some in
            rw (j, c, i, x, y, through-is (a + (n + 1) * s) (half w - s) s p.some, through-is a (half w - s) s p.some, e, drop-append-le (n + 1) (below a (half w) s) (through (first_high w) b s) (rw run_length (omega arith)))
            (ap (λ (z : List ℕ). z ++ through (first_high w) b s) (rw j' at q))

    -- all of a range, of which no more is taken than there is
    all-drawn : a ≤ b → len_through a b s ≤ n + 1 → drawn ≡ b - a + s
    unfolding len_through
    all-drawn h k =
        let e : len_through a b s ≡ (b - a) / s + 1 = rw (le-ltb b a h) in
        let t : min (n + 1) (len_through a b s) ≡ (b - a) / s + 1 = min-eq_right k ∙ e in
        rw t (add-mul ((b - a) / s) 1 s ∙ omega (arith, one-mul s, p.apart))

    -- where the topmost page is drawn, or more than there is
    pub front-at-top : a ≤ b → b ≡ top_of w a b s → len_through a b s ≤ n + 1 → (front.start ≡ b) × (front.end ≡ b - s)
    front-at-top h e k =
        let t : ltb (top_of w a b s) next ≡ true = lt-ltb (top_of w a b s) next (omega (arith, all-drawn h k, p.some)) in
        (rw t (sym e), rw t (ap (λ (x : ℕ). x - s) (sym e)))

    -- and the lowest
    pub back-at-bottom : a ≤ b → a ≡ bottom_of w a b → len_through a b s ≤ n + 1 → (back.start ≡ a + s) × (back.end ≡ a)
    back-at-bottom h e k =
        let t : ltb b (bottom_of w a b + drawn) ≡ true = lt-ltb b (bottom_of w a b + drawn) (omega (arith, all-drawn h k, p.some)) in
        (rw t, rw t (sym e))

    pub back_end : back.end ≤ b
    back_end = by_cases (dec_lt b (bottom_of w a b + drawn)) (λ h. rw (lt-ltb b (bottom_of w a b + drawn) h) (bottom-end w s a b p)) (λ h. rw (le-ltb b (bottom_of w a b + drawn) (omega arith)) (omega arith))

    pub back-end-bottom : bottom_of w a b ≤ back.end
    back-end-bottom = by_cases (dec_lt b (bottom_of w a b + drawn)) (λ h. rw (lt-ltb b (bottom_of w a b + drawn) h) (omega arith)) (λ h. rw (le-ltb b (bottom_of w a b + drawn) (omega arith)) (omega arith))

    pub back_start : a ≤ back.start
    back_start = by_cases (dec_lt b (bottom_of w a b + drawn)) (λ h. rw (lt-ltb b (bottom_of w a b + drawn) h) (omega arith)) (λ h. rw (le-ltb b (bottom_of w a b + drawn) (omega arith)) (omega arith))

    pub back-start-top : back.start ≤ top_page s
    back-start-top =
        back-through-start l a b s n (top_page s) (bottom_of w a b) (omega (arith, p.first)) (omega (arith, p.last)) (bottom-room w s a b p) (bottom-end w s a b p) (start-bottom w s a b p)

    run-back-left : reverse (through back.start back.end s) ≡ drop (n + 1) (reverse (through a b s))
    run-back-left = back-through-left l a b s (bottom_of w a b) n p.some (bottom-start w s a b p)

    pub pages-back-through-left : gap_back w a b s n ≡ false → reverse (pages_through w back.start back.end s) ≡ drop (n + 1) (reverse (pages_through w a b s))
    unfolding gap_back pages_through len_below
    pages-back-through-left g =
        by_end p (λ k. rw (through-low w s a b p back.start back.end (omega (arith, back_end, p.low_end k)), through-low w s a b p a b (p.low_end k)) run-back-left) over
        (λ h k. rw (through-high w s a b p back.start back.end (le_trans h back_start), through-high w s a b p a b h) run-back-left)
      where
        over : a < half w → first_high w ≤ b → reverse (pages_through w back.start back.end s) ≡ drop (n + 1) (reverse (pages_through w a b s))
        over h hb =
            let k = (b - first_high w) / s in
            let f : n < k = leb-false k n (not-gap w s a b p (leb (first_high w) b) (ltb a (half w)) (leb k n) g (le-leb (first_high w) b hb) (lt-ltb a (half w) h)) in
            let m : k ≤ (b + s - a) / s = div-le w s a b p (b - first_high w) (b + s - a) (omega (arith, p.halves)) in
            let m' : k ≤ (b + s - first_high w) / s = div-le w s a b p (b - first_high w) (b + s - first_high w) (omega arith) in
            let j : min (n + 1) (len_through a b s) ≡ n + 1 = rw (through-is a b s p.some) (min-eq_left (omega arith)) in
            let r : n + 1 ≤ len_through (first_high w) b s = rw (through-is (first_high w) b s p.some) (omega arith) in
            let j' : min (n + 1) (len_through (first_high w) b s) ≡ n + 1 = min-eq_left r in
            let t : (n + 1) * s ≤ b - first_high w = le_trans (mul-le-mul_right s (omega arith)) (div-mul-le_self (b - first_high w) s) in
            let o = bottom-over w a b (omega (arith, p.halves)) in
            let c : ltb b (0 + (n + 1) * s) ≡ false = le-ltb b (0 + (n + 1) * s) (omega arith) in
            let x : min (b - (n + 1) * s) (half w - s) ≡ half w - s = min-eq_right (omega (arith, p.halves)) in
            let y : min b (half w - s) ≡ half w - s = min-eq_right (omega (arith, p.halves)) in
            let z : max a (first_high w) ≡ first_high w = max-eq_right (omega (arith, p.halves)) in
            let q = back-through-left l (first_high w) b s 0 n p.some (omega arith) in
            let q' : reverse (through (first_high w) (b - (n + 1) * s) s) ≡ drop (n + 1) (reverse (through (first_high w) b s)) = rw (j', c) at q in
            let u = through a (half w - s) s in
            rw (o, j, c, x, y, z, reverse-append u (through (first_high w) (b - (n + 1) * s) s), reverse-append u (through (first_high w) b s), drop-append-le (n + 1) (reverse (through (first_high w) b s)) (reverse u) (rw (length-reverse, run_length) r))
            (ap (λ (v : List ℕ). v ++ reverse u) q')

    -- the topmost and the lowest page are the same for what is left
    pub top-kept : top_of w front.start front.end s ≡ top_of w a b s
    top-kept =
        by_start p
        (λ h k.
        let e = top-low w a b s h k in
        top-low w front.start front.end s (omega (arith, front-start-top, p.some, p.room)) (omega (arith, front-end-top, p.some, p.room)) ∙ sym e)
        (λ h k.
        let e = top-over w a b s (omega (arith, p.halves)) in
        top-over w front.start front.end s (end-high e (omega (arith, p.halves))) ∙ sym e)
        (λ h. top-high w front.start front.end s (omega (arith, front-start, p.halves)) ∙ sym (top-high w a b s (omega (arith, p.halves))))
      where
        end-high : top_of w a b s ≡ top_page s → half w ≤ b → half w ≤ front.end
        end-high e k = by_cases (ℕ_discrete front.end b) (λ q. rw q k) (λ m. omega (arith, front-end m, p.two, p.halves))

    pub bottom-kept : bottom_of w back.start back.end ≡ bottom_of w a b
    bottom-kept =
        by_end p
        (λ k. bottom-zero w back.start back.end (omega (arith, back_end, p.halves)) ∙ sym (bottom-zero w a b (omega (arith, p.halves))))
        (λ h k.
        let e = bottom-over w a b (omega (arith, p.halves)) in
        over e h ∙ sym e)
        (λ h k.
        let e = bottom-high w a b h k in
        bottom-high w back.start back.end (le_trans h back_start) (omega (arith, back-end-bottom)) ∙ sym e)
      where
        over : bottom_of w a b ≡ 0 → a < half w → bottom_of w back.start back.end ≡ 0
        over e h =
            by_cases (dec_lt b (bottom_of w a b + drawn))
            (λ k. bottom-zero w back.start back.end (rw (lt-ltb b (bottom_of w a b + drawn) k) (omega (arith, p.some, p.room, p.halves))))
            (λ k. bottom-over w back.start back.end (rw (le-ltb b (bottom_of w a b + drawn) (omega arith)) (omega (arith, p.halves))))

-- draws of inclusive ranges one after the other
module _ (w s a b : ℕ) (p : PageEnds w s a b) where
  pub page-front-steps : Stepwise (len_through a b s) (λ a b n. front_through (through a b s) (top_of w a b s) a b s n) a b
  page-front-steps =
      let t = front-through-steps s a b p.some (top_of w a b s) (size-top w s a b p) (start-top w s a b p) (end-top w s a b p) in
      record { after = λ n. rw (top-kept w s a b p (through a b s) 0) (t.after n); past = t.past; empty = t.empty }

  pub page-back-steps : Stepwise (len_through a b s) (λ a b n. back_through (through a b s) (bottom_of w a b) a b s n) a b
  page-back-steps =
      let t = back-through-steps s a b p.some (bottom_of w a b) (bottom-start w s a b p) (bottom-end w s a b p) in
      record { after = λ n. rw (bottom-kept w s a b p (through a b s) 0) (t.after n); past = t.past; empty = t.empty }
