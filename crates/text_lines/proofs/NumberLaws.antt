-- Printed numbers of up to 128 bits beside those of std.
use Rattle.std.proofs.Common.{◌≡◌, ℕ, zero, suc, ◌+◌, ◌/◌, ◌%◌, ◌^◌, ◌<◌, ◌≤◌, Bool, true, false, cond, nat_lt, List, [], ◌∷◌, ◌++◌, ℤ, pos, negsuc, refl, sym, ap, arith}
use Rattle.std.proofs.lemmas.Bool.Decides.{nat_tests}
use Rattle.std.proofs.lemmas.Fmt.{decimal_digit, decimal_step_wide}
use lib.Signed.{mag}
use Rattle.std.specs.Fmt.{decimal, signed_decimal}
use Rattle.bml_bytes.specs.Numerals.{digit_character, decimal_within, signed_decimal_digits}

character : (digit : ℕ) → digit < 10 → digit_character digit ≡ 48 + digit
character digit h = grind (arith, nat_tests)

below-ten : (number : ℕ) → nat_lt number 10 ≡ true → number < 10
below-ten number h = grind (arith, nat_tests)

not-below-ten : (number : ℕ) → nat_lt number 10 ≡ false → 10 ≤ number
not-below-ten number h = grind (arith, nat_tests)

one_digit : (number : ℕ) → number < 10 → digit_character number ∷ [] ≡ decimal number
one_digit number h = rw (character number h) (sym (decimal_digit number h))

step : (more number : ℕ) (small : Bool) → nat_lt number 10 ≡ small → number < 10 ^ 64 → (10 ≤ number → decimal_within more (number / 10) ≡ decimal (number / 10)) → cond small (digit_character number ∷ []) (decimal_within more (number / 10) ++ digit_character (number % 10) ∷ []) ≡ decimal number
step more number true e fits h = one_digit number (below-ten number e)
step more number false e fits h =
    let large = not-below-ten number e in
    let last : number % 10 < 10 = omega arith in
    rw (character (number % 10) last, h large) (sym (decimal_step_wide number large fits))

decimal_within-is : (more number : ℕ) → number ≤ more → number < 10 ^ 64 → decimal_within more number ≡ decimal number
unfolding decimal_within
decimal_within-is zero number h fits =
    let same : number % 10 ≡ number = omega arith in
    rw same (one_digit number (omega arith))
decimal_within-is (suc more) number h fits =
    step more number (nat_lt number 10) refl fits (λ large. decimal_within-is more (number / 10) (omega arith) (omega arith))

pub signed_digits-are : (number : ℤ) → mag number + 1 < 10 ^ 64 → signed_decimal_digits number ≡ signed_decimal number
signed_digits-are (pos number) fits = decimal_within-is number number (omega arith) (omega arith)
signed_digits-are (negsuc number) fits = ap (λ (digits : List ℕ). 45 ∷ digits) (decimal_within-is (suc number) (suc number) (omega arith) (omega arith))
