-- The digits of a number read back as the number.
use Rattle.std.proofs.Common.{◌≡◌, ℕ, zero, suc, ◌+◌, ◌-◌, ◌*◌, ◌/◌, ◌%◌, ◌^◌, ◌<◌, ◌≤◌, Bool, true, false, List, [], ◌∷◌, ◌++◌, length, map, refl, ◌∙◌, ap, arith, ⊎_elim}
use Rattle.std.specs.Prelude.{nat_le, nat_lt, ◌&&◌, if◌then◌else◌, pos}
use Rattle.std.specs.List.{list_all}
use Rattle.std.proofs.lemmas.Bool.{cases_lt}
use Rattle.std.proofs.lemmas.Bool.Decides.{nat_tests}
use Rattle.std.proofs.lemmas.List.{length_push, map-append}
use Rattle.std.proofs.lemmas.List.Folds.{list_all-append}
use Rattle.std.proofs.Math.Nat.{add-mul, div-lt_iff_lt-mul, mod-add-div', mod-eq_of_lt, mod-lt, mul_assoc, pow-suc, pow-zero}
use Rattle.bml_bytes.specs.Numbers.{number_in}
use Rattle.bml_bytes.specs.Numerals.{digit_character}
use Rattle.es_values.specs.declared.numbers.Num.TheVariants.{Whole}
use Rattle.es_values.specs.Numerals.{digit_value, is_digit_in, number_written}
use Rattle.es_builtins.specs.Numerals.{digits_within, number_text_in}
use Rattle.es_builtins.proofs.DigitLemmas.{digits_fit, within-large, within-small}

-- A digit

decimal-value : (code : ℕ) → 48 ≤ code → code ≤ 57 → digit_value code ≡ code - 48
unfolding digit_value
decimal-value code low high =
    let both : (nat_le 48 code && nat_le code 57) ≡ true = grind (arith, nat_tests, low, high) in
    ap (λ t. if t then code - 48 else (if nat_le 65 code && nat_le code 90 then code - 55 else (if nat_le 97 code && nat_le code 122 then code - 87 else 36))) both

letter-value : (code : ℕ) → 97 ≤ code → code ≤ 122 → digit_value code ≡ code - 87
unfolding digit_value
letter-value code low high =
    let decimal : (nat_le 48 code && nat_le code 57) ≡ false = grind (arith, nat_tests, low) in
    let capital : (nat_le 65 code && nat_le code 90) ≡ false = grind (arith, nat_tests, low) in
    let letter : (nat_le 97 code && nat_le code 122) ≡ true = grind (arith, nat_tests, low, high) in
    ap (λ t. if t then code - 48 else (if nat_le 65 code && nat_le code 90 then code - 55 else (if nat_le 97 code && nat_le code 122 then code - 87 else 36))) decimal
    ∙ (ap (λ t. if t then code - 55 else (if nat_le 97 code && nat_le code 122 then code - 87 else 36)) capital
    ∙ ap (λ t. if t then code - 87 else 36) letter)

character-value : (digit : ℕ) → digit < 36 → digit_value (digit_character digit) ≡ digit
character-value digit small = by (nat_lt digit 10) refl
  where
    by : (t : Bool) → nat_lt digit 10 ≡ t → digit_value (if t then 48 + digit else 87 + digit) ≡ digit
    by true e =
        let below : digit < 10 = grind (arith, nat_tests, e) in
        let value : 48 + digit - 48 ≡ digit = omega arith in
        decimal-value (48 + digit) (omega arith) (omega (arith, below)) ∙ value
    by false e =
        let from : 10 ≤ digit = grind (arith, nat_tests, e) in
        let value : 87 + digit - 87 ≡ digit = omega arith in
        letter-value (87 + digit) (omega (arith, from)) (omega (arith, small)) ∙ value

-- A digit behind others

number-last : (base : ℕ) (digits : List ℕ) (digit : ℕ) → number_in base (digits ++ digit ∷ []) ≡ number_in base digits * base + digit
unfolding number_in
number-last base [] digit = rw (pow-zero base) (omega arith)
number-last base (first ∷ digits) digit =
    let size : length (digits ++ digit ∷ []) ≡ suc (length digits) = omega (arith, length_push digits digit) in
    let power : base ^ length (digits ++ digit ∷ []) ≡ base ^ length digits * base = ap (λ k. base ^ k) size ∙ pow-suc base (length digits) in
    ap (λ p. first * p + number_in base (digits ++ digit ∷ [])) power
    ∙ (ap (λ n. first * (base ^ length digits * base) + n) (number-last base digits digit)
    ∙ spread first (base ^ length digits) (number_in base digits) base digit)
  where
    spread : (x p n b d : ℕ) → x * (p * b) + (n * b + d) ≡ (x * p + n) * b + d
    spread x p n b d = rw (add-mul (x * p) n b, mul_assoc x p b) (omega arith)

written-one : (base number : ℕ) → base ≤ 36 → number < base → number_written base (digit_character (number % base) ∷ []) ≡ number
unfolding number_in
written-one base number most below =
    let same : number % base ≡ number = mod-eq_of_lt below in
    let value : digit_value (digit_character (number % base)) ≡ number = ap (λ n. digit_value (digit_character n)) same ∙ character-value number (omega arith) in
    ap (λ v. v * base ^ 0 + 0) value ∙ rw (pow-zero base) (omega arith)

digits-written : (base more number : ℕ) → 2 ≤ base → base ≤ 36 → number < base ^ suc more → number_written base (digits_within base more number) ≡ number
digits-written base zero number least most fits =
    let one : base ^ suc zero ≡ 1 * base = pow-suc base zero ∙ ap (λ k. k * base) (pow-zero base) in
    let below : number < base = omega (arith, one, fits) in
    ap (number_written base) (within-small base zero number below) ∙ written-one base number most below
digits-written base (suc more) number least most fits = ⊎_elim
    (λ (below : number < base). ap (number_written base) (within-small base (suc more) number below) ∙ written-one base number most below)
    (λ (from : base ≤ number).
    let some : 0 < base = omega arith in
    let last = digit_character (number % base) in
    let front = digits_within base more (number / base) in
    let rest : number / base < base ^ suc more = (div-lt_iff_lt-mul {k = base} {x = number} {y = base ^ suc more} some).1 (rw (← pow-suc base (suc more)) fits) in
    let digit : number % base < base = mod-lt number some in
    let value : digit_value last ≡ number % base = character-value (number % base) (omega (arith, digit, most)) in
    ap (number_written base) (within-large base more number from)
    ∙ (ap (number_in base) (map-append digit_value front (last ∷ []))
    ∙ (number-last base (map digit_value front) (digit_value last)
    ∙ (ap (λ n. n * base + digit_value last) (digits-written base more (number / base) least most rest)
    ∙ (ap (λ v. number / base * base + v) value ∙ sum (number / base * base) (number % base) number (mod-add-div' number base))))))
    (cases_lt number base)
  where
    sum : (a b n : ℕ) → b + a ≡ n → a + b ≡ n
    sum a b n e = omega (arith, e)

-- Each is a digit of the base

one-digit : (base number : ℕ) → 2 ≤ base → base ≤ 36 → list_all (is_digit_in base) (digit_character (number % base) ∷ []) ≡ true
one-digit base number least most =
    let some : 0 < base = omega arith in
    let digit : number % base < base = mod-lt number some in
    let value : digit_value (digit_character (number % base)) ≡ number % base = character-value (number % base) (omega (arith, digit, most)) in
    let tested : nat_lt (number % base) base ≡ true = grind (arith, nat_tests, digit) in
    ap (λ v. nat_lt v base && true) value ∙ ap (λ t. t && true) tested

digits-all : (base more number : ℕ) → 2 ≤ base → base ≤ 36 → list_all (is_digit_in base) (digits_within base more number) ≡ true
unfolding digits_within
digits-all base zero number least most = one-digit base number least most
digits-all base (suc more) number least most = ⊎_elim
    (λ (below : number < base). ap (list_all (is_digit_in base)) (within-small base (suc more) number below) ∙ one-digit base number least most)
    (λ (from : base ≤ number).
    let front = digits_within base more (number / base) in
    let last = digit_character (number % base) ∷ [] in
    ap (list_all (is_digit_in base)) (within-large base more number from)
    ∙ (list_all-append (is_digit_in base) front last
    ∙ (ap (λ t. t && list_all (is_digit_in base) last) (digits-all base more (number / base) least most) ∙ one-digit base number least most)))
    (cases_lt number base)

pub text-written : (base number : ℕ) → 2 ≤ base → base ≤ 36 → number < 2 ^ 32 → number_written base (number_text_in base (Whole (pos number))) ≡ number
text-written base number least most small = digits-written base 31 number least most (digits_fit base number least small)

pub text-digits : (base number : ℕ) → 2 ≤ base → base ≤ 36 → list_all (is_digit_in base) (number_text_in base (Whole (pos number))) ≡ true
text-digits base number least most = digits-all base 31 number least most
