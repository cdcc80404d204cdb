-- What an entry's word says, by its fields.
use Prim.Native.Nat.{ℕ, suc, ◌+◌, ◌-◌, ◌*◌, ◌/◌, ◌%◌, ◌^◌, ◌≤◌, ◌<◌}
use mathlib.Core.Path.{◌≡◌, ap, ◌∙◌, fun_ext}
use mathlib.Core.Bool.{true, false, and-false}
use native.Mathlib.Omega.{arith}
use native.Mathlib.Nat.{mod-lt, mod-one, mul-one, mul-le-mul_right, suc-mul}
use lib.Bits.{bit_and, and_zero_r}
use lib.Dec.{eqb, leb}
use lib.Pow.{field, shr-shr, mod-mod-pow, mod-pow-add, pow_pos, pow-add}
use borrow.Author.Tests.{eq-eqb, ne_eqb, le-leb, lt-leb}
use Rattle.mapping.specs.Walk.{not_present, reserved_bit, maps, table, span_pages}
use Rattle.paging.specs.Entry.{set, rights_of, first_frame, table_address, entry, entry_by}

-- how far a frame is into the span of an entry of level `n` + 1
module _ (n v : ℕ) (h : 1 ≤ n) (k : n ≤ 4) where
  rest-low : v / 2 ^ 12 % 2 ^ 40 % span_pages n ≡ v / 2 ^ 12 % span_pages n
  rest-low =
      let e : 40 - 9 * n + 9 * n ≡ 40 = omega arith in
      let f : v / 2 ^ 12 % 2 ^ (40 - 9 * n + 9 * n) % 2 ^ (9 * n) ≡ v / 2 ^ 12 % 2 ^ (9 * n) = mod-mod-pow (v / 2 ^ 12) (40 - 9 * n) (9 * n) in
      rw e at f

  -- the bits that a large entry reserves are half of it
  rest-half : v / 2 ^ 12 % 2 ^ 40 % span_pages n / 2 ≡ v / 2 ^ 13 % 2 ^ (9 * n - 1)
  rest-half =
      let e : 9 * n - 1 + 1 ≡ 9 * n = omega arith in
      let f : v / 2 ^ 12 % 2 ^ (9 * n - 1 + 1) / 2 ^ 1 ≡ v / 2 ^ 12 / 2 ^ 1 % 2 ^ (9 * n - 1) = field (v / 2 ^ 12) (9 * n - 1) 1 in
      let g : v / 2 ^ 12 % 2 ^ (9 * n) / 2 ≡ v / 2 ^ 12 / 2 ^ 1 % 2 ^ (9 * n - 1) = rw e at f in
      rw rest-low (g ∙ ap (λ (x : ℕ). x % 2 ^ (9 * n - 1)) (shr-shr v 12 1))

  -- the first frame is the frame without it
  rest-first : v / 2 ^ 12 % 2 ^ 40 ≡ first_frame (n + 1) v + v / 2 ^ 12 % 2 ^ 40 % span_pages n
  rest-first =
      let e : 40 - 9 * n + 9 * n ≡ 40 = omega arith in
      let d : n + 1 - 1 ≡ n = omega arith in
      let f : v / 2 ^ 12 % 2 ^ (40 - 9 * n + 9 * n) ≡ v / 2 ^ 12 / 2 ^ (9 * n) % 2 ^ (40 - 9 * n) * 2 ^ (9 * n) + v / 2 ^ 12 % 2 ^ (9 * n)
      = mod-pow-add (v / 2 ^ 12) (40 - 9 * n) (9 * n) in
      rw (rest-low, d) (rw (e, shr-shr v 12 (9 * n)) at f)

-- the frames of an entry are below 2^40
pub first_frame_lem : (n v : ℕ) → n ≤ 2 → first_frame (n + 1) v + span_pages n ≤ 2 ^ 40
first_frame_lem n v h =
    let k = 40 - 9 * n in
    let q = v / 2 ^ (12 + 9 * n) % 2 ^ k in
    let e : n + 1 - 1 ≡ n = omega arith in
    let s : k + 9 * n ≡ 40 = omega arith in
    let p : 2 ^ (k + 9 * n) ≡ 2 ^ k * 2 ^ (9 * n) = pow-add 2 k (9 * n) in
    let b : suc q * 2 ^ (9 * n) ≤ 2 ^ k * 2 ^ (9 * n) = mul-le-mul_right (2 ^ (9 * n)) (mod-lt (v / 2 ^ (12 + 9 * n)) (pow_pos k)) in
    rw e (omega (arith, rw s at p, suc-mul q (2 ^ (9 * n))))

-- at the physical width 52 with no-execute on the processor reserves no bit of its own
pub no-mask : entry_by 0 ≡ entry 52 true
unfolding entry_by entry
no-mask = fun_ext (λ l. fun_ext (same l))
  where
    same : (l v : ℕ) → entry_by 0 l v ≡ entry 52 true l v
    same l v = simp (and_zero_r, mod-one)

-- the entry, by what the code tests
module _ (mask v : ℕ) where
  pub entry_absent : (l : ℕ) → set 0 v ≡ false → entry_by mask l v ≡ not_present
  unfolding entry_by
  entry_absent l p = simp p

  pub entry_masked : (l : ℕ) → set 0 v ≡ true → (bit_and v mask ≡ 0 → ⊥) → entry_by mask l v ≡ reserved_bit
  unfolding entry_by
  entry_masked l p n = simp (p, ne_eqb (bit_and v mask) 0 n)

  module _ (p : set 0 v ≡ true) (z : bit_and v mask ≡ 0) where
    pub entry-page : entry_by mask 1 v ≡ maps (v / 2 ^ 12 % 2 ^ 40) (rights_of v)
    unfolding entry_by
    entry-page = simp (p, eq-eqb (bit_and v mask) 0 z, mul-one)

    pub entry-too-high : (n : ℕ) → 3 ≤ n → set 7 v ≡ true → entry_by mask (n + 1) v ≡ reserved_bit
    unfolding entry_by
    entry-too-high n h q = simp (p, eq-eqb (bit_and v mask) 0 z, q, le-leb 4 (n + 1) (omega arith))

    module _ (n : ℕ) (h : 1 ≤ n) where
      pub entry-table : set 7 v ≡ false → entry_by mask (n + 1) v ≡ table (table_address v) (rights_of v)
      unfolding entry_by
      entry-table q =
          let e : eqb (n + 1) 1 ≡ false = ne_eqb (n + 1) 1 (λ y. omega arith) in
          simp (p, eq-eqb (bit_and v mask) 0 z, q, and-false, e)

      module _ (k : n ≤ 2) (q : set 7 v ≡ true) where
        pub entry-large : v / 2 ^ 12 % 2 ^ 40 % span_pages n < 2 → entry_by mask (n + 1) v ≡ maps (v / 2 ^ 12 % 2 ^ 40 - v / 2 ^ 12 % 2 ^ 40 % span_pages n) (rights_of v)
        unfolding entry_by
        entry-large r =
            let a : leb 4 (n + 1) ≡ false = lt-leb 4 (n + 1) (omega arith) in
            let b : leb 2 (n + 1) ≡ true = le-leb 2 (n + 1) (omega arith) in
            let c : leb (n + 1) 3 ≡ true = le-leb (n + 1) 3 (omega arith) in
            let d : n + 1 - 1 ≡ n = omega arith in
            let y : eqb (v / 2 ^ 13 % 2 ^ (9 * n - 1)) 0 ≡ true = eq-eqb (v / 2 ^ 13 % 2 ^ (9 * n - 1)) 0 (omega (arith, rest-half n v h (omega arith))) in
            let e : eqb (n + 1) 1 ≡ false = ne_eqb (n + 1) 1 (λ y. omega arith) in
            let f : first_frame (n + 1) v ≡ v / 2 ^ 12 % 2 ^ 40 - v / 2 ^ 12 % 2 ^ 40 % span_pages n = omega (arith, rest-first n v h (omega arith)) in
            let g = rw d at f in
            simp (p, eq-eqb (bit_and v mask) 0 z, q, a, b, c, d, y, e, g)

        pub entry-reserved : (v / 2 ^ 12 % 2 ^ 40 % span_pages n < 2 → ⊥) → entry_by mask (n + 1) v ≡ reserved_bit
        unfolding entry_by
        entry-reserved r =
            let b : leb 2 (n + 1) ≡ true = le-leb 2 (n + 1) (omega arith) in
            let c : leb (n + 1) 3 ≡ true = le-leb (n + 1) 3 (omega arith) in
            let d : n + 1 - 1 ≡ n = omega arith in
            let y : eqb (v / 2 ^ 13 % 2 ^ (9 * n - 1)) 0 ≡ false
            = ne_eqb (v / 2 ^ 13 % 2 ^ (9 * n - 1)) 0 (λ x. r (omega (arith, rest-half n v h (omega arith)))) in
            let a : leb 4 (n + 1) ≡ false = lt-leb 4 (n + 1) (omega arith) in
            simp (p, eq-eqb (bit_and v mask) 0 z, q, a, b, c, d, y)
