-- Fields of decimal digits.
use Rattle.std.proofs.Common.{◌≡◌, ℕ, ◌+◌, ◌-◌, ◌*◌, ◌^◌, ◌<◌, ◌≤◌, ◌⊎◌, true, false, List, [], ◌∷◌, ◌++◌, length, take, get_or, Some, None, Result, Ok, Err, refl, sym, add-one, arith}
use Rattle.std.specs.List.{list_all}
use Rattle.std.specs.Result.{OkIff, result_ok}
use Rattle.std.proofs.lemmas.Bool.Decides.{nat_tests}
use Rattle.std.proofs.lemmas.List.{take_more}
use Rattle.std.proofs.lemmas.List.Folds.{list_all-append}
use Rattle.std.proofs.Math.Nat.{pow-suc, pow-le-pow_right}
use Rattle.bml_bytes.specs.Numbers.{number_in}
use Rattle.bml_bytes.specs.Numerals.{decimal_field, decimal_number, is_decimal_digit}

-- the number of the digits that were read so far
pub record ReadSoFar (field : List ℕ) (count number : ℕ) : Type 0 where
  pub digits_only : list_all is_decimal_digit field ≡ true
  pub value : number ≡ decimal_number field
  pub small : number < 10 ^ count

pub none_read : ReadSoFar [] 0 0
unfolding number_in
none_read = record { digits_only = refl; value = refl; small = omega arith }

pub one_more_fits : (field : List ℕ) (count number : ℕ) → ReadSoFar field count number → count < 10 → number * 10 + 10 ≤ 2 ^ 64
one_more_fits field count number so_far few =
    let power = pow-le-pow_right {n = 10} (omega arith) {i = count} {j = 9} (omega arith) in
    let small = so_far.small in
    let numeral : 10 ^ 9 ≡ 1000000000 = refl in
    omega arith

pub one_more_read : ((digits : List ℕ) (digit : ℕ) → decimal_number (digits ++ digit ∷ []) ≡ decimal_number digits * 10 + (digit - 48)) → (field : List ℕ) (count number digit : ℕ) → ReadSoFar (take count field) count number → count < length field → true ≡ is_decimal_digit (get_or field count 0) → digit ≡ get_or field count 0 - 48 → digit < 10 → ReadSoFar (take (count + 1) field) (count + 1) (number * 10 + digit)
one_more_read more field count number digit so_far within is value below =
    let longer = take_more field count 0 within in
    let power = pow-suc 10 count in
    let small = so_far.small in
    record {
      digits_only = rw (longer, list_all-append is_decimal_digit (take count field) (get_or field count 0 ∷ []), so_far.digits_only, ← is) refl;
      value = rw (longer, more (take count field) (get_or field count 0), value, so_far.value) refl;
      small = rw add-one (omega arith);
    }

-- ---- what is a field

field_of : (codes : List ℕ) → list_all is_decimal_digit codes ≡ true → 1 ≤ length codes → length codes ≤ 10 → decimal_number codes < 2 ^ 32 → decimal_field codes ≡ Some (decimal_number codes)
unfolding decimal_field
field_of codes digits some most fits = rw digits (grind (arith, nat_tests))

field_is : (codes : List ℕ) (number : ℕ) → list_all is_decimal_digit codes ≡ true → 1 ≤ length codes → length codes ≤ 10 → number ≡ decimal_number codes → number < 2 ^ 32 → decimal_field codes ≡ Some number
field_is codes number digits some most e fits = rw e (field_of codes digits some most (omega arith))

field-large : (codes : List ℕ) → 2 ^ 32 ≤ decimal_number codes → decimal_field codes ≡ None
unfolding decimal_field
field-large codes h = grind (arith, nat_tests)

pub field-other : (codes : List ℕ) → list_all is_decimal_digit codes ≡ false → decimal_field codes ≡ None
unfolding decimal_field
field-other codes h = rw h refl

pub field-length : (codes : List ℕ) → (length codes ≡ 0) ⊎ (10 < length codes) → decimal_field codes ≡ None
unfolding decimal_field
field-length codes h = grind (arith, nat_tests)

-- a number of digits that was tried for thirty-two bits
pub field-tried : {E : Type 0} (codes : List ℕ) (number : ℕ) (tried : Result ℕ E) → list_all is_decimal_digit codes ≡ true → 1 ≤ length codes → length codes ≤ 10 → number ≡ decimal_number codes → OkIff tried (number < 2 ^ 32) number → result_ok tried ≡ decimal_field codes
field-tried codes number (Ok found) digits some most e (fits, same) =
    rw same (sym (field_is codes number digits some most e fits))
field-tried codes number (Err error) digits some most e large =
    sym (field-large codes (at_least (decimal_number codes) (λ fits. large (omega arith))))
  where
    at_least : (n : ℕ) → (n < 2 ^ 32 → ⊥) → 2 ^ 32 ≤ n
    at_least n h = grind arith
