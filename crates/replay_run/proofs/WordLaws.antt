-- Laws of the digits of numbers.
use Rattle.std.proofs.Common.{◌≡◌, ℕ, ◌<◌, ◌&&◌, Bool, true, false, cond, List, length, get_or}
use Rattle.std.proofs.Common.{Some, None, nat_le, refl, ap, arith}
use Rattle.std.specs.List.{list_all}
use Rattle.std.proofs.lemmas.List.Folds.{list_all_at}
use Rattle.std.proofs.lemmas.Bool.Decides.{nat_tests}
use Rattle.bml_bytes.specs.Numerals.{decimal_field, decimal_number, is_decimal_digit}

third_false : (a b c d : Bool) → c ≡ false → (a && (b && (c && d))) ≡ false
third_false true true c d e = ap (λ t. t && d) e
third_false true false c d e = refl
third_false false b c d e = refl

first_false : (a b : Bool) → a ≡ false → (a && b) ≡ false
first_false a b e = ap (λ t. t && b) e

-- a number has at most ten digits
pub decimal_field_long : (word : List ℕ) → 10 < length word → decimal_field word ≡ None
unfolding decimal_field
decimal_field_long word long =
    let no : nat_le (length word) 10 ≡ false = grind (arith, nat_tests) in
    ap (λ b. cond b (Some (decimal_number word)) None)
    (third_false (list_all is_decimal_digit word) (nat_le 1 (length word))
    (nat_le (length word) 10) (nat_le (decimal_number word) 4294967295) no)

-- and a code past 255 is no digit
pub decimal_field_wide : (word : List ℕ) (k : ℕ) → k < length word → 255 < get_or word k 0
    → decimal_field word ≡ None
unfolding decimal_field
decimal_field_wide word k l wide =
    let high : nat_le (get_or word k 0) 57 ≡ false = grind (arith, nat_tests) in
    let none : list_all is_decimal_digit word ≡ false =
    list_all_at is_decimal_digit word k 0 l
    (second_false (nat_le 48 (get_or word k 0)) (nat_le (get_or word k 0) 57) high) in
    ap (λ b. cond b (Some (decimal_number word)) None)
    (first_false (list_all is_decimal_digit word) _ none)
  where
    second_false : (a b : Bool) → b ≡ false → (a && b) ≡ false
    second_false true b e = e
    second_false false b e = refl
