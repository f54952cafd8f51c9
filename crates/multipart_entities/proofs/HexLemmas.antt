-- Fields of hexadecimal digits.
use Rattle.std.proofs.Common.{◌≡◌, ℕ, ◌+◌, ◌*◌, ◌^◌, ◌<◌, ◌≤◌, true, List, [], ◌∷◌, ◌++◌, length, map, take, get_or, refl, add-one, arith}
use Rattle.std.specs.List.{list_all}
use Rattle.std.proofs.lemmas.List.{map-append, take_more}
use Rattle.std.proofs.lemmas.List.Folds.{list_all-append}
use Rattle.std.proofs.Math.Nat.{pow-suc, pow-le-pow_right}
use Rattle.bml_bytes.specs.Numbers.{number_in}
use Rattle.multipart_entities.specs.Paths.{is_hex_digit, hex_value}

-- the number of the digits that were read so far
pub record ReadSoFar (field : List ℕ) (count number : ℕ) : Type 0 where
  pub digits_only : list_all is_hex_digit field ≡ true
  pub value : number ≡ number_in 16 (map hex_value field)
  pub small : number < 16 ^ count

pub none_read : ReadSoFar [] 0 0
unfolding number_in
none_read = record { digits_only = refl; value = refl; small = omega arith }

pub one_more_fits : (field : List ℕ) (count number : ℕ) → ReadSoFar field count number → count < 4 → number * 16 + 16 ≤ 2 ^ 16
one_more_fits field count number so_far few =
    let power = pow-le-pow_right {n = 16} (omega arith) {i = count} {j = 3} (omega arith) in
    let small = so_far.small in
    let numeral : 16 ^ 3 ≡ 4096 = refl in
    omega arith

pub one_more_read : ((base : ℕ) (digits : List ℕ) (digit : ℕ) → number_in base (digits ++ digit ∷ []) ≡ number_in base digits * base + digit) → (field : List ℕ) (count number digit : ℕ) → ReadSoFar (take count field) count number → count < length field → true ≡ is_hex_digit (get_or field count 0) → digit ≡ hex_value (get_or field count 0) → digit < 16 → ReadSoFar (take (count + 1) field) (count + 1) (number * 16 + digit)
one_more_read more field count number digit so_far within is value below =
    let longer = take_more field count 0 within in
    let power = pow-suc 16 count in
    let small = so_far.small in
    record {
      digits_only = rw (longer, list_all-append is_hex_digit (take count field) (get_or field count 0 ∷ []), so_far.digits_only, ← is) refl;
      value = rw (longer, map-append hex_value (take count field) (get_or field count 0 ∷ []), more 16 (map hex_value (take count field)) (hex_value (get_or field count 0)), value, so_far.value) refl;
      small = rw add-one (omega arith);
    }
