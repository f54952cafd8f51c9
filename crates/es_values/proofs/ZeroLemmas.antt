-- Zeros in front of digits change no number, and behind them only so many digits are within the range.
use Rattle.std.proofs.Common.{◌≡◌, ℕ, zero, suc, ◌+◌, ◌*◌, ◌^◌, ◌-◌, ◌<◌, ◌≤◌, Bool, true, false, cond, List, [], ◌∷◌, length, refl, sym, ◌∙◌, ap, subst, arith}
use Rattle.std.specs.Prelude.{◌&&◌, nat_le, nat_lt, map, min, drop, if◌then◌else◌, pos, negsuc}
use Rattle.std.specs.List.{list_all, prefix_len}
use Rattle.std.proofs.lemmas.Bool.{eqb-true}
use Rattle.std.proofs.lemmas.Bool.Decides.{nat_tests}
use Rattle.std.proofs.lemmas.List.{length-map}
use Rattle.std.proofs.Math.Nat.{mul-le-mul_right, one-mul, zero-mul, pow-le-pow_left, pow-le-pow_right}
use Rattle.bml_bytes.specs.Numbers.{number_in}
use Rattle.es_values.specs.declared.numbers.Num.TheVariants.{NotANumber, Whole}
use Rattle.es_values.specs.Numerals.{are_digits, digit_value, is_digit_in, number_in_range, number_written, signed, signed_numeral}
use Rattle.es_values.specs.devices.Runs.{is_zero, without_front}
use Rattle.es_values.proofs.RunLemmas.{both}

-- a front that begins with a zero, and one that doesn't
without-zero : (d : ℕ) (ds : List ℕ) → is_zero d ≡ true → without_front is_zero (d ∷ ds) ≡ without_front is_zero ds
without-zero d ds h =
    let on : 1 + prefix_len is_zero ds ≡ suc (prefix_len is_zero ds) = omega arith in
    ap (λ t. drop (cond t (1 + prefix_len is_zero ds) 0) (d ∷ ds)) h ∙ ap (λ k. drop k (d ∷ ds)) on

without-other : (d : ℕ) (ds : List ℕ) → is_zero d ≡ false → without_front is_zero (d ∷ ds) ≡ d ∷ ds
without-other d ds h = ap (λ t. drop (cond t (1 + prefix_len is_zero ds) 0) (d ∷ ds)) h

zero-value : (d : ℕ) → is_zero d ≡ true → digit_value d ≡ 0
unfolding digit_value
zero-value d h = ap digit_value (eqb-true d 48 h)

value-by : (d : ℕ) (a b c : Bool) → (nat_le 48 d && nat_le d 57) ≡ a → (nat_le 65 d && nat_le d 90) ≡ b → (nat_le 97 d && nat_le d 122) ≡ c → is_zero d ≡ false → 0 < (if a then d - 48 else (if b then d - 55 else (if c then d - 87 else 36)))
value-by d true b c e f g h = let low : nat_le 48 d ≡ true = (both (nat_le 48 d) (nat_le d 57) e).0 in grind (arith, nat_tests)
value-by d false true c e f g h = let low : nat_le 65 d ≡ true = (both (nat_le 65 d) (nat_le d 90) f).0 in grind (arith, nat_tests)
value-by d false false true e f g h = let low : nat_le 97 d ≡ true = (both (nat_le 97 d) (nat_le d 122) g).0 in grind (arith, nat_tests)
value-by d false false false e f g h = omega arith

some-value : (d : ℕ) → is_zero d ≡ false → 0 < digit_value d
unfolding digit_value
some-value d h = value-by d (nat_le 48 d && nat_le d 57) (nat_le 65 d && nat_le d 90) (nat_le 97 d && nat_le d 122) refl refl refl h

zero-digit : (base d : ℕ) → 2 ≤ base → is_zero d ≡ true → is_digit_in base d ≡ true
zero-digit base d b h = ap (λ v. nat_lt v base) (zero-value d h) ∙ grind (arith, nat_tests)

all-by : (base d : ℕ) (ds : List ℕ) (t : Bool) → is_zero d ≡ t → 2 ≤ base → list_all (is_digit_in base) (without_front is_zero ds) ≡ list_all (is_digit_in base) ds → list_all (is_digit_in base) (without_front is_zero (d ∷ ds)) ≡ list_all (is_digit_in base) (d ∷ ds)
all-by base d ds true e b h =
    ap (list_all (is_digit_in base)) (without-zero d ds e) ∙ (h ∙ sym (ap (λ t. t && list_all (is_digit_in base) ds) (zero-digit base d b e)))
all-by base d ds false e b h = ap (list_all (is_digit_in base)) (without-other d ds e)

-- the rest are digits where all are
pub same-digits : (base : ℕ) (ds : List ℕ) → 2 ≤ base → list_all (is_digit_in base) (without_front is_zero ds) ≡ list_all (is_digit_in base) ds
same-digits base [] b = refl
same-digits base (d ∷ ds) b = all-by base d ds (is_zero d) refl b (same-digits base ds b)

number-by : (base d : ℕ) (ds : List ℕ) (t : Bool) → is_zero d ≡ t → number_written base (without_front is_zero ds) ≡ number_written base ds → number_written base (without_front is_zero (d ∷ ds)) ≡ number_written base (d ∷ ds)
unfolding number_in
number-by base d ds true e h =
    let none : digit_value d * base ^ length (map digit_value ds) ≡ 0 = ap (λ v. v * base ^ length (map digit_value ds)) (zero-value d e) ∙ zero-mul (base ^ length (map digit_value ds)) in
    let same : number_written base ds ≡ digit_value d * base ^ length (map digit_value ds) + number_written base ds = omega (arith, none) in
    ap (number_written base) (without-zero d ds e) ∙ (h ∙ same)
number-by base d ds false e h = ap (number_written base) (without-other d ds e)

-- they write the same number
pub same-number : (base : ℕ) (ds : List ℕ) → number_written base (without_front is_zero ds) ≡ number_written base ds
same-number base [] = refl
same-number base (d ∷ ds) = number-by base d ds (is_zero d) refl (same-number base ds)

-- more than 32 digits, the first of which isn't 0
many : (base d : ℕ) (ds : List ℕ) → 2 ≤ base → is_zero d ≡ false → 32 ≤ length ds → 4294967296 ≤ number_written base (d ∷ ds)
unfolding number_in
many base d ds b e long =
    let some : 0 < base = omega (arith, b) in
    let digits : 32 ≤ length (map digit_value ds) = omega (arith, long, length-map ds digit_value) in
    let two : 4294967296 ≤ base ^ 32 = pow-le-pow_left b 32 in
    let power : base ^ 32 ≤ base ^ length (map digit_value ds) = pow-le-pow_right some digits in
    let large : 1 * base ^ length (map digit_value ds) ≤ digit_value d * base ^ length (map digit_value ds) = mul-le-mul_right (base ^ length (map digit_value ds)) (some-value d e) in
    omega (arith, two, power, large, one-mul (base ^ length (map digit_value ds)))

long-by : (base d : ℕ) (ds : List ℕ) (t : Bool) → is_zero d ≡ t → 2 ≤ base → (32 < length (without_front is_zero ds) → 4294967296 ≤ number_written base (without_front is_zero ds)) → 32 < length (without_front is_zero (d ∷ ds)) → 4294967296 ≤ number_written base (without_front is_zero (d ∷ ds))
long-by base d ds true e b h long = subst (λ z. 4294967296 ≤ number_written base z) (sym (without-zero d ds e)) (h (omega (arith, long, ap length (without-zero d ds e))))
long-by base d ds false e b h long = subst (λ z. 4294967296 ≤ number_written base z) (sym (without-other d ds e)) (many base d ds b e (omega (arith, long, ap length (without-other d ds e))))

long-front : (base : ℕ) (ds : List ℕ) → 2 ≤ base → 32 < length (without_front is_zero ds) → 4294967296 ≤ number_written base (without_front is_zero ds)
long-front base [] b long = absurd (omega (arith, long))
long-front base (d ∷ ds) b long = long-by base d ds (is_zero d) refl b (long-front base ds b) long

-- ---- what a numeral means

out-of-range : (negative : Bool) (n : ℕ) → 4294967296 ≤ n → number_in_range (signed negative n) ≡ NotANumber
out-of-range false n h =
    let far : nat_le n 2147483647 ≡ false = grind (arith, nat_tests) in
    ap (λ t. if t then Whole (pos n) else NotANumber) far
out-of-range true zero h = absurd (omega (arith, h))
out-of-range true (suc n) h =
    let far : nat_le n 2147483647 ≡ false = grind (arith, nat_tests) in
    ap (λ t. if t then Whole (negsuc n) else NotANumber) far

none-by : (negative : Bool) (base : ℕ) (ds : List ℕ) → are_digits base ds ≡ false → signed_numeral negative base ds ≡ NotANumber
unfolding signed_numeral
none-by negative base ds e = ap (λ t. if t then number_in_range (signed negative (number_written base ds)) else NotANumber) e

and-false : (test : Bool) → (test && false) ≡ false
and-false true = refl
and-false false = refl

-- no digits are no number
pub no-digits : (negative : Bool) (base : ℕ) (ds : List ℕ) → length ds ≡ 0 → signed_numeral negative base ds ≡ NotANumber
no-digits negative base [] e = none-by negative base [] refl
no-digits negative base (d ∷ ds) e = absurd (omega (arith, e))

-- nor is what isn't all digits
pub other-codes : (negative : Bool) (base : ℕ) (ds : List ℕ) → 2 ≤ base → list_all (is_digit_in base) (without_front is_zero ds) ≡ false → signed_numeral negative base ds ≡ NotANumber
other-codes negative base ds b e =
    none-by negative base ds (ap (λ t. nat_lt 0 (length ds) && t) (sym (same-digits base ds b) ∙ e) ∙ and-false (nat_lt 0 (length ds)))

large-by : (negative : Bool) (base : ℕ) (ds : List ℕ) (t : Bool) → are_digits base ds ≡ t → 4294967296 ≤ number_written base ds → signed_numeral negative base ds ≡ NotANumber
unfolding signed_numeral
large-by negative base ds true e h = ap (λ t. if t then number_in_range (signed negative (number_written base ds)) else NotANumber) e ∙ out-of-range negative (number_written base ds) h
large-by negative base ds false e h = none-by negative base ds e

-- whatever more than 32 codes behind the zeros are, they mean no number
pub many-codes : (negative : Bool) (base : ℕ) (ds : List ℕ) → 2 ≤ base → 32 < length (without_front is_zero ds) → signed_numeral negative base ds ≡ NotANumber
many-codes negative base ds b long =
    let large : 4294967296 ≤ number_written base ds = omega (arith, long-front base ds b long, same-number base ds) in
    large-by negative base ds (are_digits base ds) refl large

capped-by : (negative : Bool) (n : ℕ) (t : Bool) → nat_le n 4294967296 ≡ t → number_in_range (signed negative (min 4294967296 n)) ≡ number_in_range (signed negative n)
capped-by negative n true e =
    let small : min 4294967296 n ≡ n = grind (arith, nat_tests) in
    ap (λ k. number_in_range (signed negative k)) small
capped-by negative n false e =
    let far : 4294967296 ≤ min 4294967296 n = grind (arith, nat_tests) in
    let large : 4294967296 ≤ n = grind (arith, nat_tests) in
    out-of-range negative (min 4294967296 n) far ∙ sym (out-of-range negative n large)

-- digits mean the number that they write behind the zeros
pub all-codes : (negative : Bool) (base k : ℕ) (ds : List ℕ) → 2 ≤ base → 0 < length ds → list_all (is_digit_in base) (without_front is_zero ds) ≡ true → k ≡ min 4294967296 (number_written base (without_front is_zero ds)) → number_in_range (signed negative k) ≡ signed_numeral negative base ds
unfolding signed_numeral
all-codes negative base k ds b some all e =
    let there : nat_lt 0 (length ds) ≡ true = grind (arith, nat_tests) in
    let are : are_digits base ds ≡ true = ap (λ t. nat_lt 0 (length ds) && t) (sym (same-digits base ds b) ∙ all) ∙ ap (λ t. t && true) there in
    ap (λ n. number_in_range (signed negative n)) e
    ∙ (capped-by negative (number_written base (without_front is_zero ds)) (nat_le (number_written base (without_front is_zero ds)) 4294967296) refl
    ∙ (ap (λ n. number_in_range (signed negative n)) (same-number base ds)
    ∙ sym (ap (λ t. if t then number_in_range (signed negative (number_written base ds)) else NotANumber) are)))
