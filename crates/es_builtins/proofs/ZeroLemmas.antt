-- Zeros in front of digits change no number, and of the digits behind them only so many are within the range.
use Rattle.std.proofs.Common.{◌≡◌, ℕ, zero, suc, ◌+◌, ◌*◌, ◌^◌, ◌-◌, ◌<◌, ◌≤◌, Bool, true, false, cond, nat_eq, List, [], ◌∷◌, ◌++◌, length, refl, sym, ◌∙◌, ap, subst, arith}
use Rattle.std.specs.Prelude.{◌&&◌, nat_le, nat_lt, map, min, replicate, take, drop, if◌then◌else◌, pos, negsuc}
use Rattle.std.specs.List.{prefix_len}
use Rattle.std.specs.Cmp.Lexicographic.{pointwise, same_text}
use Rattle.std.proofs.lemmas.Bool.{eqb-true}
use Rattle.std.proofs.lemmas.Bool.Decides.{nat_tests}
use Rattle.std.proofs.lemmas.List.{length-map, length-take-le, take-append-drop, take-take}
use Rattle.std.proofs.lemmas.List.Sums.{prefix_len-le-length}
use Rattle.std.proofs.Math.Nat.{mul-le-mul_right, one-mul, zero-mul, pow-le-pow_left, pow-le-pow_right}
use Rattle.bml_bytes.specs.Numbers.{number_in}
use Rattle.es_values.specs.declared.numbers.Num.TheVariants.{NotANumber, Whole}
use Rattle.es_values.specs.Numerals.{digit_value, is_digit_in, number_in_range, number_written, signed}
use Rattle.es_values.specs.devices.Runs.{is_zero, without_front}
use Rattle.es_builtins.specs.Numerals.{digits_at_front, number_at_front}
use Rattle.es_builtins.proofs.DigitFrontLemmas.{both, front-digit}

-- a front that begins with a zero, and one that doesn't
without-zero : (d : ℕ) (ds : List ℕ) → is_zero d ≡ true → without_front is_zero (d ∷ ds) ≡ without_front is_zero ds
without-zero d ds h =
    let on : 1 + prefix_len is_zero ds ≡ suc (prefix_len is_zero ds) = omega arith in
    ap (λ t. drop (cond t (1 + prefix_len is_zero ds) 0) (d ∷ ds)) h ∙ ap (λ k. drop k (d ∷ ds)) on

without-other : (d : ℕ) (ds : List ℕ) → is_zero d ≡ false → without_front is_zero (d ∷ ds) ≡ d ∷ ds
without-other d ds h = ap (λ t. drop (cond t (1 + prefix_len is_zero ds) 0) (d ∷ ds)) h

-- what stands behind the zeros is nothing, or begins with another code
behind-zeros : (P : List ℕ → Type 0) (text : List ℕ) → P [] → ((d : ℕ) (ds : List ℕ) → is_zero d ≡ false → P (d ∷ ds)) → P (without_front is_zero text)
behind-zeros P [] none some = none
behind-zeros P (d ∷ ds) none some = by (is_zero d) refl (behind-zeros P ds none some)
  where
    by : (t : Bool) → is_zero d ≡ t → P (without_front is_zero ds) → P (without_front is_zero (d ∷ ds))
    by true e step = subst P (sym (without-zero d ds e)) step
    by false e step = subst P (sym (without-other d ds e)) (some d ds e)

zeros-append : (n : ℕ) (rest : List ℕ) → without_front is_zero (replicate n 48 ++ rest) ≡ without_front is_zero rest
zeros-append zero rest = refl
zeros-append (suc n) rest = without-zero 48 (replicate n 48 ++ rest) refl ∙ zeros-append n rest

-- a block of zeros is passed
pub zeros-copy : (n : ℕ) (text block more : List ℕ) → block ≡ replicate n 48 → pointwise nat_eq (take (length block) text) block ≡ true → more ≡ drop (length block) text → without_front is_zero more ≡ without_front is_zero text
zeros-copy n text block more zeros e f =
    let taken : take (length block) text ≡ block = same_text (take (length block) text) block (sym e) in
    sym (zeros-append n more)
    ∙ ap (without_front is_zero) (ap (λ z. z ++ more) (sym (taken ∙ zeros)) ∙ (ap (λ z. take (length block) text ++ z) f ∙ take-append-drop (length block) text))

zero-value : (d : ℕ) → is_zero d ≡ true → digit_value d ≡ 0
unfolding digit_value
zero-value d h = ap digit_value (eqb-true d 48 h)

value-by : (d : ℕ) (a b c : Bool) → (nat_le 48 d && nat_le d 57) ≡ a → (nat_le 65 d && nat_le d 90) ≡ b → (nat_le 97 d && nat_le d 122) ≡ c → is_zero d ≡ false → 0 < (if a then d - 48 else (if b then d - 55 else (if c then d - 87 else 36)))
value-by d true b c e f g h = let low : nat_le 48 d ≡ true = (both (nat_le 48 d) (nat_le d 57) e).0 in grind (arith, nat_tests)
value-by d false true c e f g h = let low : nat_le 65 d ≡ true = (both (nat_le 65 d) (nat_le d 90) f).0 in grind (arith, nat_tests)
value-by d false false true e f g h = let low : nat_le 97 d ≡ true = (both (nat_le 97 d) (nat_le d 122) g).0 in grind (arith, nat_tests)
value-by d false false false e f g h = omega arith

some-value : (d : ℕ) → is_zero d ≡ false → 0 < digit_value d
unfolding digit_value
some-value d h = value-by d (nat_le 48 d && nat_le d 57) (nat_le 65 d && nat_le d 90) (nat_le 97 d && nat_le d 122) refl refl refl h

zero-digit : (base d : ℕ) → 2 ≤ base → is_zero d ≡ true → is_digit_in base d ≡ true
zero-digit base d b h = ap (λ v. nat_lt v base) (zero-value d h) ∙ grind (arith, nat_tests)

-- ---- digits behind zeros write the same number

abbrev front_number : ℕ → List ℕ → ℕ
front_number base text = number_written base (digits_at_front base text)

zero-number : (base d : ℕ) (ds : List ℕ) → is_zero d ≡ true → number_written base (d ∷ ds) ≡ number_written base ds
unfolding number_in
zero-number base d ds e =
    let none : digit_value d * base ^ length (map digit_value ds) ≡ 0 = ap (λ v. v * base ^ length (map digit_value ds)) (zero-value d e) ∙ zero-mul (base ^ length (map digit_value ds)) in
    omega (arith, none)

same-number : (base : ℕ) (text : List ℕ) → 2 ≤ base → front_number base (without_front is_zero text) ≡ front_number base text
same-number base [] b = refl
same-number base (d ∷ ds) b = by (is_zero d) refl (same-number base ds b)
  where
    by : (t : Bool) → is_zero d ≡ t → front_number base (without_front is_zero ds) ≡ front_number base ds → front_number base (without_front is_zero (d ∷ ds)) ≡ front_number base (d ∷ ds)
    by true e step =
        ap (front_number base) (without-zero d ds e)
        ∙ (step
        ∙ (sym (zero-number base d (digits_at_front base ds) e)
        ∙ ap (number_written base) (sym (front-digit base d ds (zero-digit base d b e)))))
    by false e step = ap (front_number base) (without-other d ds e)

-- ---- more digits than are within the range

-- 33 digits, the first of which isn't 0
many : (base d : ℕ) (ds : List ℕ) → 2 ≤ base → is_zero d ≡ false → 32 ≤ length ds → 4294967296 ≤ number_written base (d ∷ ds)
unfolding number_in
many base d ds b e long =
    let some : 0 < base = omega (arith, b) in
    let digits : 32 ≤ length (map digit_value ds) = omega (arith, long, length-map ds digit_value) in
    let two : 4294967296 ≤ base ^ 32 = pow-le-pow_left b 32 in
    let power : base ^ 32 ≤ base ^ length (map digit_value ds) = pow-le-pow_right some digits in
    let large : 1 * base ^ length (map digit_value ds) ≤ digit_value d * base ^ length (map digit_value ds) = mul-le-mul_right (base ^ length (map digit_value ds)) (some-value d e) in
    omega (arith, two, power, large, one-mul (base ^ length (map digit_value ds)))

prefix-take : (p : ℕ → Bool) (n : ℕ) (xs : List ℕ) → prefix_len p (take n xs) ≡ min n (prefix_len p xs)
prefix-take p zero xs = omega arith
prefix-take p (suc n) [] = omega arith
prefix-take p (suc n) (x ∷ xs) = by (p x) (prefix-take p n xs)
  where
    by : (t : Bool) → prefix_len p (take n xs) ≡ min n (prefix_len p xs) → cond t (1 + prefix_len p (take n xs)) 0 ≡ min (suc n) (cond t (1 + prefix_len p xs) 0)
    by true step = omega (arith, step)
    by false step = omega arith

-- the digits of a first part
digits-take : (base n : ℕ) (text : List ℕ) → digits_at_front base (take n text) ≡ take (min n (prefix_len (is_digit_in base) text)) text
digits-take base n text =
    ap (λ k. take k (take n text)) (prefix-take (is_digit_in base) n text)
    ∙ take-take (min n (prefix_len (is_digit_in base) text)) n text (omega arith)

-- up to the greatest number that matters, 33 digits say it
enough : (base d : ℕ) (ds : List ℕ) → 2 ≤ base → is_zero d ≡ false → min 4294967296 (front_number base (take 33 (d ∷ ds))) ≡ min 4294967296 (front_number base (d ∷ ds))
enough base d ds b e = by (nat_le (prefix_len (is_digit_in base) (d ∷ ds)) 33) refl
  where
    count : ℕ
    count = prefix_len (is_digit_in base) (d ∷ ds)

    far : (k : ℕ) → 33 ≤ k → k ≤ length (d ∷ ds) → 4294967296 ≤ number_written base (take k (d ∷ ds))
    far zero low high = absurd (omega (arith, low))
    far (suc k) low high = many base d (take k ds) b e (omega (arith, length-take-le k ds (omega (arith, high))))

    by : (t : Bool) → nat_le (prefix_len (is_digit_in base) (d ∷ ds)) 33 ≡ t → min 4294967296 (front_number base (take 33 (d ∷ ds))) ≡ min 4294967296 (front_number base (d ∷ ds))
    by true few =
        let all : min 33 (prefix_len (is_digit_in base) (d ∷ ds)) ≡ prefix_len (is_digit_in base) (d ∷ ds) = grind (arith, nat_tests) in
        ap (λ l. min 4294967296 (number_written base l)) (digits-take base 33 (d ∷ ds) ∙ ap (λ k. take k (d ∷ ds)) all)
    by false more =
        let some : 33 ≤ prefix_len (is_digit_in base) (d ∷ ds) = grind (arith, nat_tests) in
        let cut : min 33 (prefix_len (is_digit_in base) (d ∷ ds)) ≡ 33 = omega (arith, some) in
        let within = prefix_len-le-length (is_digit_in base) (d ∷ ds) in
        let first : front_number base (take 33 (d ∷ ds)) ≡ number_written base (take 33 (d ∷ ds)) = ap (number_written base) (digits-take base 33 (d ∷ ds) ∙ ap (λ k. take k (d ∷ ds)) cut) in
        omega (arith, first, far 33 (omega arith) (omega (arith, some, within)), far (prefix_len (is_digit_in base) (d ∷ ds)) some within)

-- ---- the number at a front

out-of-range : (negative : Bool) (n : ℕ) → 4294967296 ≤ n → number_in_range (signed negative n) ≡ NotANumber
out-of-range false n h =
    let far : nat_le n 2147483647 ≡ false = grind (arith, nat_tests) in
    ap (λ t. if t then Whole (pos n) else NotANumber) far
out-of-range true zero h = absurd (omega (arith, h))
out-of-range true (suc n) h =
    let far : nat_le n 2147483647 ≡ false = grind (arith, nat_tests) in
    ap (λ t. if t then Whole (negsuc n) else NotANumber) far

capped : (negative : Bool) (n : ℕ) → number_in_range (signed negative (min 4294967296 n)) ≡ number_in_range (signed negative n)
capped negative n = by (nat_le n 4294967296) refl
  where
    by : (t : Bool) → nat_le n 4294967296 ≡ t → number_in_range (signed negative (min 4294967296 n)) ≡ number_in_range (signed negative n)
    by true e =
        let small : min 4294967296 n ≡ n = grind (arith, nat_tests) in
        ap (λ k. number_in_range (signed negative k)) small
    by false e =
        let far : 4294967296 ≤ min 4294967296 n = grind (arith, nat_tests) in
        let large : 4294967296 ≤ n = grind (arith, nat_tests) in
        out-of-range negative (min 4294967296 n) far ∙ sym (out-of-range negative n large)

-- without a digit there is no number
pub no-front : (negative : Bool) (base : ℕ) (text : List ℕ) → nat_lt 0 (length (digits_at_front base text)) ≡ false → number_at_front negative base text ≡ NotANumber
no-front negative base text e = ap (λ t. if t then number_in_range (signed negative (front_number base text)) else NotANumber) e

-- and else it is that of 33 digits behind the zeros
pub some-front : (negative : Bool) (base k : ℕ) (text : List ℕ) → 2 ≤ base → nat_lt 0 (length (digits_at_front base text)) ≡ true → k ≡ min 4294967296 (number_written base (digits_at_front base (take 33 (without_front is_zero text)))) → number_in_range (signed negative k) ≡ number_at_front negative base text
some-front negative base k text b there e =
    let cut : min 4294967296 (front_number base (take 33 (without_front is_zero text))) ≡ min 4294967296 (front_number base (without_front is_zero text)) =
    behind-zeros (λ l. min 4294967296 (front_number base (take 33 l)) ≡ min 4294967296 (front_number base l)) text refl (λ d ds other. enough base d ds b other) in
    ap (λ n. number_in_range (signed negative n)) (e ∙ (cut ∙ ap (min 4294967296) (same-number base text b)))
    ∙ (capped negative (front_number base text)
    ∙ sym (ap (λ t. if t then number_in_range (signed negative (front_number base text)) else NotANumber) there))
