-- Laws of page numbers, over the width and the size, a power of two below the width: pages and numbers correspond one to one and in order, a page's start stays
-- canonical, and steps by pages are steps by addresses divided by the size.
use mathlib.Core.Path.{◌≡◌, sym, ap, ◌∙◌}
use mathlib.Core.Logic.{◌↔◌}
use Prim.Native.Nat.{ℕ, ◌+◌, ◌-◌, ◌*◌, ◌/◌, ◌%◌, ◌^◌, ◌≤◌, ◌<◌}
use native.Mathlib.Omega.{arith}
use native.Mathlib.Decide.{dec_lt}
use native.Mathlib.Nat.{mod-eq_of_lt, mul-lt-mul_of_pos_right, lt_of_mul-lt-mul_right, mul-div_cancel, div-add-mod', add-mul, div-lt_iff_lt-mul, eq_of_mul-eq-mul_right, le_of_mul-le-mul_right}
use lib.Pow.{pow_pos, pow_mono, mod-mod-pow}
use Rattle.answer.specs.Outcome.{gives}
use Rattle.laws.specs.Width.{IsWidth, low, half, sign_extend, InGap}
use Rattle.laws.specs.Align.{down}
use Rattle.laws.specs.Steps.{forward, steps}
use Rattle.laws.specs.Number.{number, start}
use Rattle.laws.proofs.Cases.{by_cases}
use Rattle.laws.proofs.Width.{low-lt, sign_low, sign-by-low, low-order, canonical-no-gap, no-gap-canonical}
use Rattle.laws.proofs.Align.{blocks, down-greatest}
use Rattle.laws.proofs.Steps.{forward-gives, steps-gives}

module _ (w k : ℕ) (v : IsWidth w) (h : k < w) where
  -- the low part of a multiple is a multiple
  pub low-multiple : (a : ℕ) → low w a % 2 ^ k ≡ a % 2 ^ k
  low-multiple a = let e : w - k + k ≡ w = omega arith in let q : a % 2 ^ (w - k + k) % 2 ^ k ≡ a % 2 ^ k = mod-mod-pow a (w - k) k in rw e at q

  -- "`containing_address` .. aligns down to the size": from a canonical address, the start stays canonical
  pub containing-canonical : (a : ℕ) → a < 2 ^ 64 → sign_extend w a ≡ a → sign_extend w (down (2 ^ k) a) ≡ down (2 ^ k) a
  containing-canonical a f c = no-gap-canonical w v (down (2 ^ k) a) (omega (arith, d.1)) gap
    where
      d : (down (2 ^ k) a % 2 ^ k ≡ 0) × (down (2 ^ k) a ≤ a) × ((m : ℕ) → m * 2 ^ k ≤ a → m * 2 ^ k ≤ down (2 ^ k) a)
      d = down-greatest (2 ^ k) a (pow_pos k)

      top : (2 ^ (64 - k) - 2 ^ (w - 1 - k)) * 2 ^ k + half w ≡ 2 ^ 64
      top =
          let p : 2 ^ (w - 1 - k) ≤ 2 ^ (64 - k) = pow_mono {i = w - 1 - k} {j = 64 - k} (omega arith) in
          let e : 2 ^ (64 - k) - 2 ^ (w - 1 - k) + 2 ^ (w - 1 - k) ≡ 2 ^ (64 - k) = omega arith in
          let q = add-mul (2 ^ (64 - k) - 2 ^ (w - 1 - k)) (2 ^ (w - 1 - k)) (2 ^ k) in
          let q' : 2 ^ (64 - k) * 2 ^ k ≡ (2 ^ (64 - k) - 2 ^ (w - 1 - k)) * 2 ^ k + 2 ^ (w - 1 - k) * 2 ^ k = rw e at q in
          omega (arith, blocks k 64 (omega arith), blocks k (w - 1) (omega arith))

      gap : InGap w (down (2 ^ k) a) → ⊥
      gap g =
          let m : 2 ^ 64 - half w ≤ a = by_cases (dec_lt a (2 ^ 64 - half w)) (λ l. absurd (canonical-no-gap w v a c (omega (arith, d.1), l))) (λ n. omega arith) in
          omega (arith, top, d.2 (2 ^ (64 - k) - 2 ^ (w - 1 - k)) (omega (arith, top)))

  -- page `n` has the number `n`
  pub number-start : (n : ℕ) → n < 2 ^ (w - k) → number w (2 ^ k) (start w (2 ^ k) n) ≡ n
  number-start n f =
      let l : n * 2 ^ k < 2 ^ (w - k) * 2 ^ k = mul-lt-mul_of_pos_right f (pow_pos k) in
      let e : low w (n * 2 ^ k) ≡ n * 2 ^ k = mod-eq_of_lt (omega (arith, blocks k w (omega arith))) in
      rw (sign_low w v (n * 2 ^ k), e) (mul-div_cancel n (pow_pos k))

  -- a page is the one with its number
  pub start-number : (a : ℕ) → sign_extend w a ≡ a → a % 2 ^ k ≡ 0 → start w (2 ^ k) (number w (2 ^ k) a) ≡ a
  start-number a c z =
      let e : low w a / 2 ^ k * 2 ^ k ≡ low w a = omega (arith, div-add-mod' (low w a) (2 ^ k), low-multiple a) in
      rw e (sign-by-low w v (low w a) a (mod-eq_of_lt (low-lt w v a)) ∙ c)

  -- pages in order have numbers in order
  pub number-order : (a b : ℕ) → sign_extend w a ≡ a → sign_extend w b ≡ b → a % 2 ^ k ≡ 0 → b % 2 ^ k ≡ 0 → (a < b) ↔ (number w (2 ^ k) a < number w (2 ^ k) b)
  number-order a b ca cb za zb =
      let e : low w a / 2 ^ k * 2 ^ k ≡ low w a = omega (arith, div-add-mod' (low w a) (2 ^ k), low-multiple a) in
      let f : low w b / 2 ^ k * 2 ^ k ≡ low w b = omega (arith, div-add-mod' (low w b) (2 ^ k), low-multiple b) in
      let o = low-order w v a b ca cb in (
        λ l. lt_of_mul-lt-mul_right (2 ^ k) (rw (e, f) (o.0 l)),
        λ l. let m : low w a / 2 ^ k * 2 ^ k < low w b / 2 ^ k * 2 ^ k = mul-lt-mul_of_pos_right l (pow_pos k) in o.1 (rw (e, f) at m),
      )

  -- a page's number is below their count
  pub number_lt : (a : ℕ) → number w (2 ^ k) a < 2 ^ (w - k)
  number_lt a = (div-lt_iff_lt-mul (pow_pos k)).1 (omega (arith, low-lt w v a, blocks k w (omega arith)))

  -- n pages on is the page whose number is n more
  pub forward-number : (s n t : ℕ) → sign_extend w t ≡ t → s % 2 ^ k ≡ 0 → t % 2 ^ k ≡ 0
      → (forward w s (n * 2 ^ k) ≡ gives t) ↔ (number w (2 ^ k) t ≡ number w (2 ^ k) s + n)
  forward-number s n t ct zs zt =
      let es : low w s / 2 ^ k * 2 ^ k ≡ low w s = omega (arith, div-add-mod' (low w s) (2 ^ k), low-multiple s) in
      let et : low w t / 2 ^ k * 2 ^ k ≡ low w t = omega (arith, div-add-mod' (low w t) (2 ^ k), low-multiple t) in
      let m = add-mul (low w s / 2 ^ k) n (2 ^ k) in (
        λ g. eq_of_mul-eq-mul_right (2 ^ k) (pow_pos k) (low w t / 2 ^ k) (low w s / 2 ^ k + n) (omega (arith, ((forward-gives w v s (n * 2 ^ k) t).0 g).1)),
        λ e. let f : low w t / 2 ^ k * 2 ^ k ≡ (low w s / 2 ^ k + n) * 2 ^ k = ap (λ (x : ℕ). x * 2 ^ k) e in
            (forward-gives w v s (n * 2 ^ k) t).1 (ct, omega arith),
      )

  -- the steps from one page to another are a whole number of pages: as many as their numbers differ by
  pub steps-number : (s e d : ℕ) → s % 2 ^ k ≡ 0 → e % 2 ^ k ≡ 0 → steps w s e ≡ gives d → (d / 2 ^ k * 2 ^ k ≡ d) × (number w (2 ^ k) e ≡ number w (2 ^ k) s + d / 2 ^ k)
  steps-number s e d zs ze g =
      let l = (steps-gives w v s e d).0 g in
      let es : low w s / 2 ^ k * 2 ^ k ≡ low w s = omega (arith, div-add-mod' (low w s) (2 ^ k), low-multiple s) in
      let ee : low w e / 2 ^ k * 2 ^ k ≡ low w e = omega (arith, div-add-mod' (low w e) (2 ^ k), low-multiple e) in
      let o : low w s / 2 ^ k ≤ low w e / 2 ^ k = le_of_mul-le-mul_right {k = 2 ^ k} (omega arith) (pow_pos k) in
      let r : low w e / 2 ^ k - low w s / 2 ^ k + low w s / 2 ^ k ≡ low w e / 2 ^ k = omega arith in
      let m = add-mul (low w e / 2 ^ k - low w s / 2 ^ k) (low w s / 2 ^ k) (2 ^ k) in
      let n : low w e / 2 ^ k * 2 ^ k ≡ (low w e / 2 ^ k - low w s / 2 ^ k) * 2 ^ k + low w s / 2 ^ k * 2 ^ k = rw r at m in
      let q : d ≡ (low w e / 2 ^ k - low w s / 2 ^ k) * 2 ^ k = omega arith in
      let p : d / 2 ^ k ≡ low w e / 2 ^ k - low w s / 2 ^ k = rw q (mul-div_cancel (low w e / 2 ^ k - low w s / 2 ^ k) (pow_pos k)) in
      (rw p (sym q), omega arith)
