-- Decimal digits among codes are a field of digits.
use Rattle.std.proofs.Common.{◌≡◌, ℕ, ◌-◌, ◌<◌, ◌≤◌, ◌^◌, nat_le, Bool, true, false, cond, List, [], ◌∷◌, length, map, Option, Some, None, Result, Ok, Err, refl, sym, ap, ◌∙◌, arith}
use Rattle.std.specs.Prelude.{◌&&◌, min}
use Rattle.std.specs.List.{list_all}
use Rattle.std.specs.Result.{OkIff, result_ok}
use Rattle.std.proofs.lemmas.Bool.{and_parts, leb-true}
use Rattle.std.proofs.lemmas.Bool.Decides.{nat_tests}
use Rattle.bml_bytes.specs.Numbers.{number_in}
use Rattle.bml_bytes.specs.Numerals.{decimal_field, decimal_number, is_decimal_digit}
use Rattle.es_values.specs.Numerals.{digit_value, number_written}

digit-is : (code : ℕ) → is_decimal_digit code ≡ true → digit_value code ≡ code - 48
unfolding digit_value
digit-is code h = rw h refl

digits-are : (digits : List ℕ) → list_all is_decimal_digit digits ≡ true
    → map digit_value digits ≡ map (λ (digit : ℕ). digit - 48) digits
digits-are [] h = refl
digits-are (digit ∷ digits) h =
    let parts = and_parts (is_decimal_digit digit) (list_all is_decimal_digit digits) h in
    rw (digit-is digit parts.0, digits-are digits parts.1) refl

written : (digits : List ℕ) → list_all is_decimal_digit digits ≡ true → number_written 10 digits ≡ decimal_number digits
written digits h = ap (number_in 10) (digits-are digits h)

field_of : (digits : List ℕ) → list_all is_decimal_digit digits ≡ true → 1 ≤ length digits → length digits ≤ 10
    → decimal_number digits < 2 ^ 32 → decimal_field digits ≡ Some (decimal_number digits)
unfolding decimal_field
field_of digits all some most fits = rw all (grind (arith, nat_tests))

field-large : (digits : List ℕ) → 2 ^ 32 ≤ decimal_number digits → decimal_field digits ≡ None
unfolding decimal_field
field-large digits h = grind (arith, nat_tests)

within : (n x : ℕ) → x ≡ min 4294967296 n → x < 2 ^ 32 → x ≡ n
within n x e h = grind arith

past : (n x : ℕ) → x ≡ min 4294967296 n → (x < 2 ^ 32 → ⊥) → 2 ^ 32 ≤ n
past n x e h = grind arith

-- 1 to 10 digits, whose number was tried for thirty-two bits
pub field-tried : {E : Type 0} (digits : List ℕ) (number : ℕ) (tried : Result ℕ E)
    → (list_all is_decimal_digit digits && (nat_le 1 (length digits) && nat_le (length digits) 10)) ≡ true
    → number ≡ min 4294967296 (number_written 10 digits) → OkIff tried (number < 2 ^ 32) number
    → result_ok tried ≡ decimal_field digits
field-tried digits number tried h e t =
    let parts = and_parts (list_all is_decimal_digit digits) (nat_le 1 (length digits) && nat_le (length digits) 10) h in
    let sizes = and_parts (nat_le 1 (length digits)) (nat_le (length digits) 10) parts.1 in
    let some : 1 ≤ length digits = leb-true 1 (length digits) sizes.0 in
    let most : length digits ≤ 10 = leb-true (length digits) 10 sizes.1 in
    by_case tried t (written digits parts.0) (field_of digits parts.0 some most)
  where
    by_case : {E : Type 0} (tried : Result ℕ E) → OkIff tried (number < 2 ^ 32) number
        → number_written 10 digits ≡ decimal_number digits
        → (decimal_number digits < 2 ^ 32 → decimal_field digits ≡ Some (decimal_number digits))
        → result_ok tried ≡ decimal_field digits
    by_case (Ok found) (fits, same) is field =
        let value : number ≡ decimal_number digits = within (number_written 10 digits) number e fits ∙ is in
        let small : decimal_number digits < 2 ^ 32 = omega arith in
        ap (λ (n : ℕ). Some n) (same ∙ value) ∙ sym (field small)
    by_case (Err error) large is field =
        let much : 2 ^ 32 ≤ number_written 10 digits = past (number_written 10 digits) number e large in
        sym (field-large digits (omega arith))

-- whatever the last test says
others : (a b c d : Bool) (value : Option ℕ) → (a && (b && c)) ≡ false → cond (a && (b && (c && d))) value None ≡ None
others true true true d value h = absurd cc
others true true false d value h = refl
others true false c d value h = refl
others false b c d value h = refl

-- no such digits
pub field-other : (digits : List ℕ)
    → (list_all is_decimal_digit digits && (nat_le 1 (length digits) && nat_le (length digits) 10)) ≡ false
    → None ≡ decimal_field digits
unfolding decimal_field
field-other digits h =
    sym (others (list_all is_decimal_digit digits) (nat_le 1 (length digits)) (nat_le (length digits) 10)
    (nat_le (decimal_number digits) 4294967295) (Some (decimal_number digits)) h)
