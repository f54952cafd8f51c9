-- Printed numbers: what they are beside those of std, and what they are read back as.
use Rattle.std.proofs.Common.{◌≡◌, ℕ, zero, suc, ◌+◌, ◌-◌, ◌*◌, ◌/◌, ◌%◌, ◌^◌, ◌<◌, ◌≤◌, Bool, true, false, cond, nat_lt, List, [], ◌∷◌, ◌++◌, length, map, take, drop, get_or, Some, None, Result, Ok, Err, ℤ, pos, negsuc, ◌⊎◌, refl, sym, ap, ◌∙◌, subst, add-one, arith}
use Rattle.std.specs.Prelude.{slice_get, ◌≢◌}
use Rattle.std.proofs.lemmas.Bool.Decides.{nat_tests}
use Rattle.std.proofs.lemmas.Fmt.{decimal_digit, decimal_step}
use Rattle.std.proofs.lemmas.List.{length-map, map-append, take_more, length-append, drop-map}
use Rattle.std.proofs.lemmas.List.Folds.{list_all-append}
use Rattle.std.proofs.Math.Nat.{pow-zero, pow-suc, pow-le-pow_right}
use lib.Signed.{mag}
use Rattle.std.specs.Fmt.{decimal, signed_decimal}
use Rattle.std.proofs.Math.Seq.{take-length}
use Rattle.std.specs.List.{list_all}
use Rattle.std.specs.Result.{OkIff, result_ok}
use Rattle.bml_bytes.specs.Numbers.{number_in, digits_in}
use Rattle.bml_bytes.specs.Numerals.{digit_character, decimal_within, decimal_digits, signed_decimal_digits, hex_digits, is_decimal_digit, decimal_number, decimal_field}
use Rattle.bml_bytes.proofs.NumberLaws.{drop-digits_in, length-digits_in}

-- one more digit at the end
pub number_in-more : (base : ℕ) (digits : List ℕ) (digit : ℕ) → number_in base (digits ++ digit ∷ []) ≡ number_in base digits * base + digit
unfolding number_in
number_in-more base [] digit = rw (pow-zero base) (omega arith)
number_in-more base (first ∷ digits) digit =
    let longer : length (digits ++ digit ∷ []) ≡ suc (length digits) = let e = length-append digits (digit ∷ []) in omega arith in
    rw (longer, pow-suc base (length digits), number_in-more base digits digit) (omega arith)

pub decimal_number-more : (digits : List ℕ) (digit : ℕ) → decimal_number (digits ++ digit ∷ []) ≡ decimal_number digits * 10 + (digit - 48)
decimal_number-more digits digit = rw (map-append (λ (d : ℕ). d - 48) digits (digit ∷ [])) (number_in-more 10 (map (λ (d : ℕ). d - 48) digits) (digit - 48))

-- the character of a decimal digit
character-decimal : (digit : ℕ) → digit < 10 → digit_character digit ≡ 48 + digit
character-decimal digit h = grind (arith, nat_tests)

is_digit-character : (digit : ℕ) → digit < 10 → is_decimal_digit (48 + digit) ≡ true
is_digit-character digit h = grind (arith, nat_tests)

below-ten : (number : ℕ) → nat_lt number 10 ≡ true → number < 10
below-ten number h = grind (arith, nat_tests)

not-below-ten : (number : ℕ) → nat_lt number 10 ≡ false → 10 ≤ number
not-below-ten number h = grind (arith, nat_tests)

-- a fact of one digit, and of one more digit at the end, is one of all decimal digits
module _ (P : ℕ → List ℕ → Type 0) (one : (number : ℕ) → number < 10 → P number ((48 + number) ∷ [])) (more_digits : (number : ℕ) (digits : List ℕ) → 10 ≤ number → P (number / 10) digits → P number (digits ++ (48 + number % 10) ∷ [])) where
  step : (more number : ℕ) (small : Bool) → nat_lt number 10 ≡ small → (10 ≤ number → P (number / 10) (decimal_within more (number / 10))) → P number (cond small (digit_character number ∷ []) (decimal_within more (number / 10) ++ digit_character (number % 10) ∷ []))
  step more number true e h = rw (character-decimal number (below-ten number e)) (one number (below-ten number e))
  step more number false e h =
      let large = not-below-ten number e in
      rw (character-decimal (number % 10) (omega arith)) (more_digits number (decimal_within more (number / 10)) large (h large))

  pub decimal_within-by : (more number : ℕ) → number ≤ more → P number (decimal_within more number)
  unfolding decimal_within
  decimal_within-by zero number h =
      let same : number % 10 ≡ number = omega arith in
      let small : number < 10 = omega arith in
      rw (same, character-decimal number small) (one number small)
  decimal_within-by (suc more) number h =
      step more number (nat_lt number 10) refl (λ large. decimal_within-by more (number / 10) (omega arith))

-- the digits are those that std prints
pub decimal_digits-is : (number : ℕ) → number < 2 ^ 64 → decimal_digits number ≡ decimal number
decimal_digits-is number fits =
    decimal_within-by (λ n digits. n < 2 ^ 64 → digits ≡ decimal n)
    (λ n small _. sym (decimal_digit n small))
    (λ n digits large h below. rw (h (omega arith)) (sym (decimal_step n large below)))
    number number (omega arith) fits

-- the digits of a signed number are those that std prints
pub signed_decimal_digits-is : (number : ℤ) → mag number < 2 ^ 63 → signed_decimal_digits number ≡ signed_decimal number
signed_decimal_digits-is (pos number) fits = decimal_digits-is number (omega arith)
signed_decimal_digits-is (negsuc number) fits = ap (λ (digits : List ℕ). 45 ∷ digits) (decimal_digits-is (suc number) (omega arith))

-- nothing stands before the only digit
nothing_before : (digit : ℕ) → decimal_number [] * 10 + (48 + digit - 48) ≡ digit
unfolding number_in
nothing_before digit = omega arith

-- the number of the digits
pub decimal_number-decimal_digits : (number : ℕ) → decimal_number (decimal_digits number) ≡ number
decimal_number-decimal_digits number =
    decimal_within-by (λ n digits. decimal_number digits ≡ n) of_one (λ n digits large h. rw (decimal_number-more digits (48 + n % 10), h) (omega arith)) number number (omega arith)
  where
    of_one : (n : ℕ) → n < 10 → decimal_number ((48 + n) ∷ []) ≡ n
    of_one n h = decimal_number-more [] (48 + n) ∙ nothing_before n

-- each is a digit
pub list_all-decimal_digits : (number : ℕ) → list_all is_decimal_digit (decimal_digits number) ≡ true
list_all-decimal_digits number =
    decimal_within-by (λ n digits. list_all is_decimal_digit digits ≡ true)
    (λ n small. rw (is_digit-character n small) refl)
    (λ n digits large h. rw (list_all-append is_decimal_digit digits ((48 + n % 10) ∷ []), h, is_digit-character (n % 10) (omega arith)) refl)
    number number (omega arith)

-- no zero stands in front of another digit
pub record BeginsAbove (number : ℕ) (digits : List ℕ) : Type 0 where
  pub some : 1 ≤ length digits
  pub first : 0 < number → slice_get digits 0 ≢ Some 48

first-append : (digits more : List ℕ) → 1 ≤ length digits → slice_get (digits ++ more) 0 ≡ slice_get digits 0
first-append [] more h = absurd (omega arith)
first-append (digit ∷ digits) more h = refl

first-one : (number : ℕ) → 0 < number → slice_get ((48 + number) ∷ []) 0 ≢ Some 48
first-one number h e = absurd (let same : 48 + number ≡ 48 = cc in omega arith)

pub begins-decimal_digits : (number : ℕ) → BeginsAbove number (decimal_digits number)
begins-decimal_digits number =
    decimal_within-by BeginsAbove
    (λ n small. record { some = omega arith; first = first-one n })
    (λ n digits large h. record { some = let e = length-append digits ((48 + n % 10) ∷ []) in omega arith; first = λ _. rw (first-append digits ((48 + n % 10) ∷ []) h.some) (h.first (omega arith)) })
    number number (omega arith)

-- a number of one digit
pub decimal_digits-one : (number : ℕ) → number < 10 → decimal_digits number ≡ (48 + number) ∷ []
decimal_digits-one number h =
    decimal_within-by (λ n digits. n < 10 → digits ≡ (48 + n) ∷ [])
    (λ n small _. refl)
    (λ n digits large _ below. absurd (omega arith))
    number number (omega arith) h

-- how many there are
pub record HasDigits (number : ℕ) (digits : List ℕ) : Type 0 where
  pub some : 1 ≤ length digits
  pub most : (more : ℕ) → number < 10 ^ suc more → length digits ≤ suc more

at_most : (number : ℕ) (digits : List ℕ) → 10 ≤ number → HasDigits (number / 10) digits → (more : ℕ) → number < 10 ^ suc more → length (digits ++ (48 + number % 10) ∷ []) ≤ suc more
at_most number digits large h zero below = absurd (let e : 10 ^ suc zero ≡ 10 = refl in omega arith)
at_most number digits large h (suc more) below =
    let e = length-append digits ((48 + number % 10) ∷ []) in
    let power = pow-suc 10 (suc more) in
    let fewer = h.most more (omega arith) in
    omega arith

pub length-decimal_digits : (number : ℕ) → HasDigits number (decimal_digits number)
length-decimal_digits number =
    decimal_within-by HasDigits
    (λ n small. record { some = omega arith; most = λ more h. omega arith })
    (λ n digits large h. record { some = let e = length-append digits ((48 + n % 10) ∷ []) in omega arith; most = at_most n digits large h })
    number number (omega arith)

-- a field of digits, and what isn't one
field_of : (bytes : List ℕ) → list_all is_decimal_digit bytes ≡ true → 1 ≤ length bytes → length bytes ≤ 10 → decimal_number bytes < 2 ^ 32 → decimal_field bytes ≡ Some (decimal_number bytes)
unfolding decimal_field
field_of bytes digits some most fits = rw digits (grind (arith, nat_tests))

pub decimal_field-is : (bytes : List ℕ) (number : ℕ) → list_all is_decimal_digit bytes ≡ true → 1 ≤ length bytes → length bytes ≤ 10 → number ≡ decimal_number bytes → number < 2 ^ 32 → decimal_field bytes ≡ Some number
decimal_field-is bytes number digits some most e fits = rw e (field_of bytes digits some most (omega arith))

pub decimal_field-large : (bytes : List ℕ) → 2 ^ 32 ≤ decimal_number bytes → decimal_field bytes ≡ None
unfolding decimal_field
decimal_field-large bytes h = grind (arith, nat_tests)

pub decimal_field-other : (bytes : List ℕ) → list_all is_decimal_digit bytes ≡ false → decimal_field bytes ≡ None
unfolding decimal_field
decimal_field-other bytes h = rw h refl

pub decimal_field-length : (bytes : List ℕ) → (length bytes ≡ 0) ⊎ (10 < length bytes) → decimal_field bytes ≡ None
unfolding decimal_field
decimal_field-length bytes h = grind (arith, nat_tests)

-- printed digits are a field
pub decimal_field-decimal_digits : (number : ℕ) → number < 2 ^ 32 → decimal_field (decimal_digits number) ≡ Some number
decimal_field-decimal_digits number h =
    let digits = length-decimal_digits number in
    let below : number < 10 ^ suc 9 = omega arith in
    decimal_field-is (decimal_digits number) number (list_all-decimal_digits number) digits.some (digits.most 9 below) (sym (decimal_number-decimal_digits number)) h

-- the last hexadecimal digits
pub drop-hex_digits : (digits value : ℕ) → digits ≤ 8 → drop (8 - digits) (hex_digits 8 value) ≡ hex_digits digits value
drop-hex_digits digits value h =
    let whole : 8 - digits + digits ≡ 8 = omega arith in
    let front : drop (8 - digits) (digits_in 16 8 value) ≡ digits_in 16 digits value = subst (λ (n : ℕ). drop (8 - digits) (digits_in 16 n value) ≡ digits_in 16 digits value) whole (drop-digits_in 16 (8 - digits) digits value) in
    drop-map digit_character (8 - digits) (digits_in 16 8 value) ∙ ap (map digit_character) front

-- the number of the digits that were read so far
pub record ReadSoFar (digits : List ℕ) (count number : ℕ) : Type 0 where
  pub digits_only : list_all is_decimal_digit digits ≡ true
  pub value : number ≡ decimal_number digits
  pub small : number < 10 ^ count

-- one more digit fits sixty-four bits
pub one_more-fits : (digits : List ℕ) (count number : ℕ) → ReadSoFar digits count number → count < 10 → number * 10 + 10 ≤ 2 ^ 64
one_more-fits digits count number so_far few =
    let power = pow-le-pow_right {n = 10} (omega arith) {i = count} {j = 9} (omega arith) in
    let small = so_far.small in
    let numeral : 10 ^ 9 ≡ 1000000000 = refl in
    omega arith

pub one_more-read : (bytes : List ℕ) (count number digit : ℕ) → ReadSoFar (take count bytes) count number → count < length bytes → is_decimal_digit (get_or bytes count 0) ≡ true → digit ≡ get_or bytes count 0 - 48 → digit < 10 → ReadSoFar (take (count + 1) bytes) (count + 1) (number * 10 + digit)
one_more-read bytes count number digit so_far within is value below =
    let longer = take_more bytes count 0 within in
    let power = pow-suc 10 count in
    let small = so_far.small in
    record {
      digits_only = rw (longer, list_all-append is_decimal_digit (take count bytes) (get_or bytes count 0 ∷ []), so_far.digits_only, is) refl;
      value = rw (longer, decimal_number-more (take count bytes) (get_or bytes count 0), value, so_far.value) refl;
      small = rw add-one (omega arith);
    }

-- nothing is read before the first digit
pub none-read : ReadSoFar [] 0 0
unfolding number_in
none-read = record { digits_only = refl; value = refl; small = omega arith }

-- a number of digits that was tried for thirty-two bits
pub decimal_field-tried : {E : Type 0} (bytes : List ℕ) (number : ℕ) (tried : Result ℕ E) → list_all is_decimal_digit bytes ≡ true → 1 ≤ length bytes → length bytes ≤ 10 → number ≡ decimal_number bytes → OkIff tried (number < 2 ^ 32) number → result_ok tried ≡ decimal_field bytes
decimal_field-tried bytes number (Ok found) digits some most e (fits, same) =
    rw same (sym (decimal_field-is bytes number digits some most e fits))
decimal_field-tried bytes number (Err error) digits some most e large =
    sym (decimal_field-large bytes (at_least (decimal_number bytes) (λ fits. large (omega arith))))
  where
    at_least : (n : ℕ) → (n < 2 ^ 32 → ⊥) → 2 ^ 32 ≤ n
    at_least n h = grind arith

-- the part of eight hexadecimal digits that is printed
pub printed-hex_digits : (digits value from : ℕ) (all : List ℕ) → digits ≤ 8 → from ≡ digits → all ≡ hex_digits 8 value → take (8 - (8 - from)) (drop (8 - from) all) ≡ hex_digits digits value
printed-hex_digits digits value from all h e is =
    let kept : 8 - (8 - digits) ≡ length (hex_digits digits value) = let long = length-map (digits_in 16 digits value) digit_character in let count = length-digits_in 16 digits value in omega arith in
    rw (e, is, drop-hex_digits digits value h, kept) (take-length (hex_digits digits value))
