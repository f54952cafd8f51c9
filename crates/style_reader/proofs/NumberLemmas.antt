-- Numbers, digit by digit.
use Rattle.std.proofs.Common.{◌≡◌, ℕ, ◌+◌, ◌-◌, ◌*◌, ◌<◌, ◌≤◌, true, false, List, [], ◌∷◌, ◌++◌, length, take, get_or, Some, None, min, refl, sym, ◌∙◌, ap, arith}
use Rattle.std.proofs.lemmas.List.{take_more, take_all}
use Rattle.std.proofs.lemmas.List.Folds.{list_all-append}
use Rattle.std.specs.Prelude.{option_map}
use Rattle.std.specs.List.{list_all}
use Rattle.bml_bytes.specs.Numbers.{number_in}
use Rattle.bml_bytes.specs.Numerals.{is_decimal_digit, decimal_number}
use Rattle.style_reader.specs.devices.Views.{capped, digits_number}

-- one digit more behind the others: what the law on decimals says
abbrev pub IsMore : Type 0
IsMore = (digits : List ℕ) (digit : ℕ) → decimal_number (digits ++ digit ∷ []) ≡ decimal_number digits * 10 + (digit - 48)

-- the number of the digits that were read so far
pub record ReadSoFar (digits : List ℕ) (number : ℕ) : Type 0 where
  pub digits_only : list_all is_decimal_digit digits ≡ true
  pub value : number ≡ capped (decimal_number digits)

pub none-read : ReadSoFar [] 0
unfolding number_in
none-read = record { digits_only = refl; value = refl }

pub one_more-read : IsMore → (codes : List ℕ) (count number digit : ℕ) → ReadSoFar (take count codes) number → count < length codes → is_decimal_digit (get_or codes count 0) ≡ true → digit ≡ get_or codes count 0 - 48 → ReadSoFar (take (count + 1) codes) (min (number * 10 + digit) 4294967296)
one_more-read more codes count number digit so_far within is value =
    let longer = take_more codes count 0 within in
    let before = so_far.value in
    record {
      digits_only = rw (longer, list_all-append is_decimal_digit (take count codes) (get_or codes count 0 ∷ []), so_far.digits_only, is) refl;
      value = rw (longer, more (take count codes) (get_or codes count 0)) (omega arith);
    }

-- all of the digits are read
pub all-read : (codes : List ℕ) (count number : ℕ) → ReadSoFar (take count codes) number → length codes ≤ count → Some number ≡ option_map capped (digits_number codes)
all-read codes count number so_far all =
    let whole = take_all count codes all in
    let digits : list_all is_decimal_digit codes ≡ true = ap (list_all is_decimal_digit) (sym whole) ∙ so_far.digits_only in
    let value : number ≡ capped (decimal_number codes) = so_far.value ∙ ap (λ (t : List ℕ). capped (decimal_number t)) whole in
    rw digits (ap Some value)

-- a code that is no digit
pub other-read : (codes : List ℕ) → list_all is_decimal_digit codes ≡ false → None ≡ option_map capped (digits_number codes)
other-read codes e = rw e refl
