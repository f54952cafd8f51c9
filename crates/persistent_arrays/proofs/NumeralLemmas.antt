-- A number of one or two decimal digits is read as it is printed.
use Rattle.std.proofs.Common.{◌≡◌, ℕ, zero, suc, ◌+◌, ◌-◌, ◌*◌, ◌/◌, ◌%◌, ◌<◌, ◌≤◌, nat_eq, nat_le, Bool, true, false, cond, List, [], ◌∷◌, ◌++◌, Option, Some, None, ◌⊎◌, inl, inr, refl, sym, ap, subst, ◌∙◌, arith}
use Rattle.std.specs.Prelude.{not}
use Rattle.std.proofs.lemmas.Bool.{eqb-true, eqb-false, ne_eqb, and_parts, and_from, leb-true, le-leb, lt-ltb, le-ltb, cases_lt}
use Rattle.std.proofs.lemmas.Option.{same_Some}
use Rattle.bml_bytes.specs.Numerals.{decimal_digits, decimal_within, is_decimal_digit}
use Rattle.persistent_arrays.specs.devices.Spelling.{numeral_at, numeral_behind}

-- the codes begin with no digit
abbrev pub ends_number : List ℕ → Bool
ends_number [] = true
ends_number (code ∷ codes) = not (is_decimal_digit code)

-- which of two or three values a test takes
taken : {X : Type 0} (test : Bool) (x y w : X) → test ≡ true → x ≡ w → cond test x y ≡ w
taken true x y w e h = h
taken false x y w e h = absurd cc

left : {X : Type 0} (test : Bool) (x y w : X) → test ≡ false → y ≡ w → cond test x y ≡ w
left false x y w e h = h
left true x y w e h = absurd cc

digit_value : (code : ℕ) → is_decimal_digit code ≡ true → (48 ≤ code) × (code ≤ 57)
digit_value code h = let parts = and_parts (nat_le 48 code) (nat_le code 57) h in (leb-true 48 code parts.0, leb-true code 57 parts.1)

is_digit : (value : ℕ) → value < 10 → is_decimal_digit (48 + value) ≡ true
is_digit value h = and_from (nat_le 48 (48 + value)) (nat_le (48 + value) 57) (le-leb 48 (48 + value) (omega arith)) (le-leb (48 + value) 57 (omega arith))

within_one : (more number : ℕ) → number < 10 → decimal_within more number ≡ (48 + number) ∷ []
unfolding decimal_within
within_one zero number h =
    let same : number % 10 ≡ number = omega arith in
    rw (same, lt-ltb number 10 h) refl
within_one (suc more) number h = rw (lt-ltb number 10 h) refl

pub digits-one : (number : ℕ) → number < 10 → decimal_digits number ≡ (48 + number) ∷ []
digits-one number h = within_one number number h

within_two : (more number : ℕ) → 10 ≤ number → number < 100 → decimal_within (suc more) number ≡ (48 + number / 10) ∷ (48 + number % 10) ∷ []
unfolding decimal_within
within_two more number large h =
    let tens : number / 10 < 10 = omega arith in
    let ones : number % 10 < 10 = omega arith in
    rw (le-ltb number 10 large, within_one more (number / 10) tens, lt-ltb (number % 10) 10 ones) refl

pub digits-two : (number : ℕ) → 10 ≤ number → number < 100 → decimal_digits number ≡ (48 + number / 10) ∷ (48 + number % 10) ∷ []
digits-two zero large h = absurd (omega arith)
digits-two (suc less) large h = within_two less (suc less) large h

printed-two : (first digit : ℕ) → 0 < first → first < 10 → digit < 10 → decimal_digits (first * 10 + digit) ≡ (48 + first) ∷ (48 + digit) ∷ []
printed-two first digit some h g =
    let tens : (first * 10 + digit) / 10 ≡ first = omega arith in
    let ones : (first * 10 + digit) % 10 ≡ digit = omega arith in
    digits-two (first * 10 + digit) (omega arith) (omega arith)
    ∙ ap (λ (t : ℕ). (48 + t) ∷ (48 + (first * 10 + digit) % 10) ∷ []) tens
    ∙ ap (λ (o : ℕ). (48 + first) ∷ (48 + o) ∷ []) ones

is_false : (test : Bool) → not test ≡ true → test ≡ false
is_false true e = absurd cc
is_false false e = refl

behind-again : (first : ℕ) (codes : List ℕ) → ends_number codes ≡ true → numeral_behind first codes ≡ (first, codes)
unfolding numeral_behind
behind-again first [] e = refl
behind-again first (code ∷ codes) e =
    left {X = ℕ × List ℕ} (is_decimal_digit code) (first * 10 + (code - 48), codes) (first, code ∷ codes) (first, code ∷ codes) (is_false (is_decimal_digit code) e) refl

behind-two : (first ones : ℕ) (codes : List ℕ) → ones < 10 → numeral_behind first ((48 + ones) ∷ codes) ≡ (first * 10 + ones, codes)
unfolding numeral_behind
behind-two first ones codes h =
    let value : 48 + ones - 48 ≡ ones = omega arith in
    taken {X = ℕ × List ℕ} (is_decimal_digit (48 + ones)) (first * 10 + (48 + ones - 48), codes) (first, (48 + ones) ∷ codes) (first * 10 + ones, codes) (is_digit ones h) (ap (λ (v : ℕ). (first * 10 + v, codes)) value)

-- what was printed is read again
above-zero : (first : ℕ) (codes : List ℕ) (read : ℕ × List ℕ) → 0 < first → first < 10 → numeral_behind first codes ≡ read → numeral_at ((48 + first) ∷ codes) ≡ Some read
unfolding numeral_at
above-zero first codes read some h e =
    let value : 48 + first - 48 ≡ first = omega arith in
    taken {X = Option (ℕ × List ℕ)} (is_decimal_digit (48 + first)) (cond (nat_eq (48 + first - 48) 0) (Some (0, codes)) (Some (numeral_behind (48 + first - 48) codes))) None (Some read) (is_digit first h)
    (left {X = Option (ℕ × List ℕ)} (nat_eq (48 + first - 48) 0) (Some (0, codes)) (Some (numeral_behind (48 + first - 48) codes)) (Some read) (ne_eqb (48 + first - 48) 0 (λ z. absurd (omega arith)))
    (ap (λ (v : ℕ). Some (numeral_behind v codes)) value ∙ ap (λ (r : ℕ × List ℕ). Some r) e))

at-zero : (codes : List ℕ) → numeral_at (48 ∷ codes) ≡ Some (0, codes)
unfolding numeral_at
at-zero codes = refl

again-one : (number : ℕ) (codes : List ℕ) → number < 10 → ends_number codes ≡ true → numeral_at ((48 + number) ∷ codes) ≡ Some (number, codes)
again-one zero codes h e = at-zero codes
again-one (suc less) codes h e = above-zero (suc less) codes (suc less, codes) (omega arith) h (behind-again (suc less) codes e)

pub numeral-again : (number : ℕ) (codes : List ℕ) → number < 100 → ends_number codes ≡ true → numeral_at (decimal_digits number ++ codes) ≡ Some (number, codes)
numeral-again number codes h e = by (cases_lt number 10)
  where
    by : (number < 10) ⊎ (10 ≤ number) → numeral_at (decimal_digits number ++ codes) ≡ Some (number, codes)
    by (inl below) = ap (λ (digits : List ℕ). numeral_at (digits ++ codes)) (digits-one number below) ∙ again-one number codes below e
    by (inr large) =
        let whole : number / 10 * 10 + number % 10 ≡ number = omega arith in
        let ones : number % 10 < 10 = omega arith in
        ap (λ (digits : List ℕ). numeral_at (digits ++ codes)) (digits-two number large h)
        ∙ above-zero (number / 10) ((48 + number % 10) ∷ codes) (number / 10 * 10 + number % 10, codes) (omega arith) (omega arith) (behind-two (number / 10) (number % 10) codes ones)
        ∙ ap (λ (n : ℕ). Some (n, codes)) whole

-- what is read was printed
pub record IsPrinted (codes : List ℕ) (number : ℕ) (behind : List ℕ) : Type 0 where
  pub written : codes ≡ decimal_digits number ++ behind
  pub small : number < 100

printed-alone : (first : ℕ) (codes : List ℕ) → first < 10 → IsPrinted ((48 + first) ∷ codes) first codes
printed-alone first codes h = record { written = ap (λ (digits : List ℕ). digits ++ codes) (sym (digits-one first h)); small = omega arith }

parts-behind : (first : ℕ) (codes : List ℕ) → 0 < first → first < 10 → IsPrinted ((48 + first) ∷ codes) (numeral_behind first codes).0 (numeral_behind first codes).1
unfolding numeral_behind
parts-behind first [] some h = printed-alone first [] h
parts-behind first (code ∷ codes) some h = by (is_decimal_digit code) refl
  where
    by : (test : Bool) → is_decimal_digit code ≡ test → IsPrinted ((48 + first) ∷ code ∷ codes) (cond {A = ℕ × List ℕ} test (first * 10 + (code - 48), codes) (first, code ∷ codes)).0 (cond {A = ℕ × List ℕ} test (first * 10 + (code - 48), codes) (first, code ∷ codes)).1
    by true e =
        let value = digit_value code e in
        let same : 48 + (code - 48) ≡ code = omega arith in
        let digits : decimal_digits (first * 10 + (code - 48)) ≡ (48 + first) ∷ code ∷ [] = printed-two first (code - 48) some h (omega arith) ∙ ap (λ (c : ℕ). (48 + first) ∷ c ∷ []) same in
        record { written = ap (λ (d : List ℕ). d ++ codes) (sym digits); small = omega arith }
    by false e = printed-alone first (code ∷ codes) h

pub numeral-parts : (codes : List ℕ) (read : ℕ × List ℕ) → numeral_at codes ≡ Some read → IsPrinted codes read.0 read.1
unfolding numeral_at
numeral-parts [] read e = absurd cc
numeral-parts (first ∷ codes) read e = by (is_decimal_digit first) (nat_eq (first - 48) 0) refl refl e
  where
    by : (digit none : Bool) → is_decimal_digit first ≡ digit → nat_eq (first - 48) 0 ≡ none → cond digit (cond none (Some (0, codes)) (Some (numeral_behind (first - 48) codes))) None ≡ Some read → IsPrinted (first ∷ codes) read.0 read.1
    by false none d n e = absurd cc
    by true true d n e =
        let value = digit_value first d in
        let nothing = eqb-true (first - 48) 0 n in
        let same : 48 ≡ first = omega arith in
        subst (λ (r : ℕ × List ℕ). IsPrinted (first ∷ codes) r.0 r.1) (same_Some {A = ℕ × List ℕ} (0, codes) read e) (subst (λ (f : ℕ). IsPrinted (f ∷ codes) 0 codes) same (printed-alone 0 codes (omega arith)))
    by true false d n e =
        let value = digit_value first d in
        let some = eqb-false (first - 48) 0 n in
        let same : 48 + (first - 48) ≡ first = omega arith in
        let above : 0 < first - 48 = positive (first - 48) some in
        let one = parts-behind (first - 48) codes above (omega arith) in
        subst (λ (r : ℕ × List ℕ). IsPrinted (first ∷ codes) r.0 r.1) (same_Some (numeral_behind (first - 48) codes) read e) (subst (λ (f : ℕ). IsPrinted (f ∷ codes) (numeral_behind (first - 48) codes).0 (numeral_behind (first - 48) codes).1) same one)
      where
        positive : (n : ℕ) → (n ≡ 0 → ⊥) → 0 < n
        positive zero h = absurd (h refl)
        positive (suc n) h = omega arith
