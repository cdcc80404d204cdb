-- The spans of entries among those of tables.
use Prim.Native.Nat.{ℕ, zero, suc, ◌+◌, ◌*◌, ◌/◌, ◌^◌, ◌≤◌, ◌<◌}
use mathlib.Core.Path.{◌≡◌, sym, ap, ◌∙◌}
use native.Mathlib.Omega.{arith}
use native.Mathlib.Nat.{lt-div-mul-add, div-eq_of_lt-le, div-mul-le_self, suc-mul, le_trans}
use native.Mathlib.Numerals.{add-one}
use lib.Pow.{pow_pos, pow-add}
use Rattle.mapping.specs.Walk.{span_pages}
use Rattle.paging.specs.Span.{after}

pub ahead_of : (n x : ℕ) → x < after n x
unfolding after
ahead_of n x = rw (add-one, suc-mul) (lt-div-mul-add (pow_pos (9 * n)))

-- pages up to the end of a page's span are under the same entry
pub same-entry : (n x y : ℕ) → x ≤ y → y < after n x → y / span_pages n ≡ x / span_pages n
unfolding after
same-entry n x y a b = div-eq_of_lt-le (span_pages n) (le_trans (div-mul-le_self x (span_pages n)) a) b

-- an entry's span ends no later than its table's
pub nested : (n p x : ℕ) → n ≤ 4 → x < after (n + 1) p → after n x ≤ after (n + 1) p
unfolding after
nested zero p x h b = omega arith
nested (suc zero) p x h b = omega arith
nested (suc (suc zero)) p x h b = omega arith
nested (suc (suc (suc zero))) p x h b = omega arith
nested (suc (suc (suc (suc zero)))) p x h b = omega arith
nested (suc (suc (suc (suc (suc n))))) p x h b = absurd (omega arith)

-- a table of level 1 ends no later than one that it is under
pub lowest-ends : (n x : ℕ) → 1 ≤ n → n ≤ 5 → after 1 x ≤ after n x
lowest-ends zero x a b = absurd (omega arith)
lowest-ends (suc zero) x a b = omega arith
lowest-ends (suc (suc n)) x a b =
    let e : suc n + 1 ≡ suc (suc n) = omega arith in
    let i : after (suc n) x ≤ after (suc n + 1) x = nested (suc n) x x (omega arith) (ahead_of (suc n + 1) x) in
    omega (arith, lowest-ends (suc n) x (omega arith) (omega arith), ap (λ (k : ℕ). after k x) e, i)

pub after-top : (n x : ℕ) → n ≤ 5 → x < 2 ^ 45 → after n x ≤ 2 ^ 45
unfolding after
after-top zero x h b = omega arith
after-top (suc zero) x h b = omega arith
after-top (suc (suc zero)) x h b = omega arith
after-top (suc (suc (suc zero))) x h b = omega arith
after-top (suc (suc (suc (suc zero)))) x h b = omega arith
after-top (suc (suc (suc (suc (suc zero))))) x h b = omega arith
after-top (suc (suc (suc (suc (suc (suc n)))))) x h b = absurd (omega arith)

-- a table spans 512 times what its entries do
pub wide : (n : ℕ) → span_pages n * 512 ≡ span_pages (n + 1)
wide n = let e : 9 * n + 9 ≡ 9 * (n + 1) = omega arith in sym (pow-add 2 (9 * n) 9) ∙ ap (λ (k : ℕ). 2 ^ k) e
