-- The library's decimal text is that of the lines.
use Rattle.std.proofs.Common.{◌≡◌, sym, ℕ, ◌<◌, ◌≤◌, ◌^◌, length, arith}
use Rattle.std.specs.Fmt.{decimal}
use Rattle.std.proofs.lemmas.Fmt.{AppendsLastDigit, decimal_from_appends, length-decimal-le}
use Rattle.std.proofs.lemmas.Bool.Decides.{nat_tests}
use Rattle.listing.specs.Text.{decimal_in}

appends : AppendsLastDigit decimal_in
unfolding decimal_in
appends = record { one = λ k n h. grind (arith, nat_tests); more = λ k n h. grind (arith, nat_tests) }

pub decimal_is : (n : ℕ) → n < 2 ^ 64 → (decimal n ≡ decimal_in 20 n) × (length (decimal_in 20 n) ≤ 20)
decimal_is n h =
    let short : length (decimal n) ≤ 20 = length-decimal-le 20 n (omega arith) (omega arith) h in
    let e : decimal_in 20 n ≡ decimal n = decimal_from_appends decimal_in appends 20 n h short in
    (sym e, rw e short)
