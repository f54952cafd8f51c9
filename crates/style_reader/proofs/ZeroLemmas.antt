-- Zeros in front of digits change no number, and more than ten digits behind them are past every range.
use Rattle.std.proofs.Common.{◌≡◌, ℕ, suc, ◌+◌, ◌*◌, ◌^◌, ◌-◌, ◌<◌, ◌≤◌, Bool, true, false, cond, List, [], ◌∷◌, length, Some, None, refl, sym, ◌∙◌, ap, subst, arith}
use Rattle.std.specs.Prelude.{◌&&◌, nat_lt, map, drop, Option, option_and_then, option_map, if◌then◌else◌}
use Rattle.std.specs.List.{list_all, prefix_len}
use Rattle.std.proofs.lemmas.Bool.{eqb-true}
use Rattle.std.proofs.lemmas.Bool.Decides.{nat_tests}
use Rattle.std.proofs.lemmas.List.{length-map}
use Rattle.std.proofs.Math.Nat.{mul-le-mul_right, one-mul, zero-mul, pow-le-pow_right}
use Rattle.bml_bytes.specs.Numbers.{number_in}
use Rattle.bml_bytes.specs.Numerals.{decimal_number, is_decimal_digit}
use Rattle.style_reader.specs.devices.Runs.{is_zero, without_front}
use Rattle.style_reader.specs.devices.Views.{capped, digits_number, in_reach}
use Rattle.style_reader.proofs.RunLemmas.{both}

-- a front that begins with a zero, and one that doesn't
without-zero : (d : ℕ) (ds : List ℕ) → is_zero d ≡ true → without_front is_zero (d ∷ ds) ≡ without_front is_zero ds
without-zero d ds h =
    let on : 1 + prefix_len is_zero ds ≡ suc (prefix_len is_zero ds) = omega arith in
    ap (λ t. drop (cond t (1 + prefix_len is_zero ds) 0) (d ∷ ds)) h ∙ ap (λ k. drop k (d ∷ ds)) on

without-other : (d : ℕ) (ds : List ℕ) → is_zero d ≡ false → without_front is_zero (d ∷ ds) ≡ d ∷ ds
without-other d ds h = ap (λ t. drop (cond t (1 + prefix_len is_zero ds) 0) (d ∷ ds)) h

zero-digit : (d : ℕ) → is_zero d ≡ true → is_decimal_digit d ≡ true
zero-digit d h = ap is_decimal_digit (eqb-true d 48 h)

all-by : (d : ℕ) (ds : List ℕ) (t : Bool) → is_zero d ≡ t → list_all is_decimal_digit (without_front is_zero ds) ≡ list_all is_decimal_digit ds → list_all is_decimal_digit (without_front is_zero (d ∷ ds)) ≡ list_all is_decimal_digit (d ∷ ds)
all-by d ds true e h =
    ap (list_all is_decimal_digit) (without-zero d ds e) ∙ (h ∙ sym (ap (λ t. t && list_all is_decimal_digit ds) (zero-digit d e)))
all-by d ds false e h = ap (list_all is_decimal_digit) (without-other d ds e)

-- the rest are digits where all are
same-digits : (ds : List ℕ) → list_all is_decimal_digit (without_front is_zero ds) ≡ list_all is_decimal_digit ds
same-digits [] = refl
same-digits (d ∷ ds) = all-by d ds (is_zero d) refl (same-digits ds)

number-by : (d : ℕ) (ds : List ℕ) (t : Bool) → is_zero d ≡ t → decimal_number (without_front is_zero ds) ≡ decimal_number ds → decimal_number (without_front is_zero (d ∷ ds)) ≡ decimal_number (d ∷ ds)
unfolding number_in
number-by d ds true e h =
    let none : (d - 48) * 10 ^ length (map (λ digit. digit - 48) ds) ≡ 0 = ap (λ v. (v - 48) * 10 ^ length (map (λ digit. digit - 48) ds)) (eqb-true d 48 e) ∙ zero-mul (10 ^ length (map (λ digit. digit - 48) ds)) in
    let same : decimal_number ds ≡ (d - 48) * 10 ^ length (map (λ digit. digit - 48) ds) + decimal_number ds = omega (arith, none) in
    ap decimal_number (without-zero d ds e) ∙ (h ∙ same)
number-by d ds false e h = ap decimal_number (without-other d ds e)

-- they write the same number
same-number : (ds : List ℕ) → decimal_number (without_front is_zero ds) ≡ decimal_number ds
same-number [] = refl
same-number (d ∷ ds) = number-by d ds (is_zero d) refl (same-number ds)

-- so zeros in front change nothing
pub same-reading : (ds : List ℕ) → digits_number (without_front is_zero ds) ≡ digits_number ds
same-reading ds =
    ap (λ t. if t then Some (decimal_number (without_front is_zero ds)) else None) (same-digits ds)
    ∙ ap (λ n. if list_all is_decimal_digit ds then Some n else None) (same-number ds)

-- more than ten digits, the first of which isn't 0
many : (d : ℕ) (ds : List ℕ) → is_zero d ≡ false → is_decimal_digit d ≡ true → 10 ≤ length ds → 4294967296 ≤ decimal_number (d ∷ ds)
unfolding number_in
many d ds e is long =
    let some : 1 ≤ d - 48 = grind (arith, nat_tests) in
    let digits : 10 ≤ length (map (λ digit. digit - 48) ds) = omega (arith, long, length-map ds (λ digit. digit - 48)) in
    let positive : 0 < 10 = omega arith in
    let power : 10 ^ 10 ≤ 10 ^ length (map (λ digit. digit - 48) ds) = pow-le-pow_right positive digits in
    let large : 1 * 10 ^ length (map (λ digit. digit - 48) ds) ≤ (d - 48) * 10 ^ length (map (λ digit. digit - 48) ds) = mul-le-mul_right (10 ^ length (map (λ digit. digit - 48) ds)) some in
    omega (arith, power, large, one-mul (10 ^ length (map (λ digit. digit - 48) ds)))

far : (n : ℕ) → 4294967296 ≤ n → in_reach n ≡ None
far n h =
    let no : nat_lt n 4294967296 ≡ false = grind (arith, nat_tests) in
    ap (λ t. if t then Some n else None) no

far-by : (ds : List ℕ) (t : Bool) → list_all is_decimal_digit ds ≡ t → (t ≡ true → 4294967296 ≤ decimal_number ds) → option_and_then in_reach (digits_number ds) ≡ None
far-by ds true e large = rw e (far (decimal_number ds) (large refl))
far-by ds false e large = rw e refl

many-far : (d : ℕ) (ds : List ℕ) → is_zero d ≡ false → 10 ≤ length ds → option_and_then in_reach (digits_number (d ∷ ds)) ≡ None
many-far d ds e long =
    far-by (d ∷ ds) (list_all is_decimal_digit (d ∷ ds)) refl
    (λ h. many d ds e (both (is_decimal_digit d) (list_all is_decimal_digit ds) h).0 long)

long-by : (d : ℕ) (ds : List ℕ) (t : Bool) → is_zero d ≡ t → (10 < length (without_front is_zero ds) → option_and_then in_reach (digits_number (without_front is_zero ds)) ≡ None) → 10 < length (without_front is_zero (d ∷ ds)) → option_and_then in_reach (digits_number (without_front is_zero (d ∷ ds))) ≡ None
long-by d ds true e h long = subst (λ z. option_and_then in_reach (digits_number z) ≡ None) (sym (without-zero d ds e)) (h (omega (arith, long, ap length (without-zero d ds e))))
long-by d ds false e h long = subst (λ z. option_and_then in_reach (digits_number z) ≡ None) (sym (without-other d ds e)) (many-far d ds e (omega (arith, long, ap length (without-other d ds e))))

long-front : (ds : List ℕ) → 10 < length (without_front is_zero ds) → option_and_then in_reach (digits_number (without_front is_zero ds)) ≡ None
long-front [] long = absurd (omega (arith, long))
long-front (d ∷ ds) long = long-by d ds (is_zero d) refl (long-front ds) long

-- whatever more than ten codes behind the zeros are, they write no number in reach
pub many-codes : (ds : List ℕ) → 10 < length (without_front is_zero ds) → option_and_then in_reach (digits_number ds) ≡ None
many-codes ds long = ap (option_and_then in_reach) (sym (same-reading ds)) ∙ long-front ds long

-- what was read behind the zeros, where its number is in reach
pub near-read : (ds written : List ℕ) (number : ℕ) → written ≡ without_front is_zero ds → Some number ≡ option_map capped (digits_number written) → number < 4294967296 → Some number ≡ option_and_then in_reach (digits_number ds)
near-read ds written number e h small = near-by (digits_number ds) number (h ∙ ap (option_map capped) (ap digits_number e ∙ same-reading ds)) small
  where
    near-by : (found : Option ℕ) (number : ℕ) → Some number ≡ option_map capped found → number < 4294967296 → Some number ≡ option_and_then in_reach found
    near-by None number h small = absurd (cc h)
    near-by (Some n) number h small =
        let read : number ≡ capped n = cc h in
        let same : number ≡ n = omega (arith, read) in
        let yes : nat_lt n 4294967296 ≡ true = grind (arith, nat_tests) in
        rw yes (ap Some same)

-- where it is past
pub past-read : (ds written : List ℕ) (number : ℕ) → written ≡ without_front is_zero ds → Some number ≡ option_map capped (digits_number written) → 4294967296 ≤ number → None ≡ option_and_then in_reach (digits_number ds)
past-read ds written number e h large = past-by (digits_number ds) number (h ∙ ap (option_map capped) (ap digits_number e ∙ same-reading ds)) large
  where
    past-by : (found : Option ℕ) (number : ℕ) → Some number ≡ option_map capped found → 4294967296 ≤ number → None ≡ option_and_then in_reach found
    past-by None number h large = refl
    past-by (Some n) number h large =
        let read : number ≡ capped n = cc h in
        let past : 4294967296 ≤ n = omega (arith, read) in
        sym (far n past)

-- and where there is another code
pub other-read_behind : (ds written : List ℕ) → written ≡ without_front is_zero ds → None ≡ option_map capped (digits_number written) → None ≡ option_and_then in_reach (digits_number ds)
other-read_behind ds written e h = other-by (digits_number ds) (h ∙ ap (option_map capped) (ap digits_number e ∙ same-reading ds))
  where
    other-by : (found : Option ℕ) → None ≡ option_map capped found → None ≡ option_and_then in_reach found
    other-by None h = refl
    other-by (Some n) h = absurd (cc h)
