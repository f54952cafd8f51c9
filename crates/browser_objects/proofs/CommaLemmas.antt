-- A text with a comma in it is no number, and an array of two elements or more has such a text.
use Rattle.std.proofs.Common.{◌≡◌, ℕ, zero, suc, ◌+◌, ◌-◌, ◌<◌, ◌≤◌, nat_lt, nat_eq, Bool, true, false, cond, List, [], ◌∷◌, ◌++◌, length, take, drop, reverse, Option, Some, refl, sym, ap, subst, ◌∙◌, arith, length-append}
use Rattle.std.specs.Prelude.{◌&&◌, ◌==◌, codes}
use Rattle.std.specs.List.{list_all, prefix_len, suffix_len, starts_with}
use Rattle.std.specs.Option.{option_map_or}
use Rattle.std.proofs.lemmas.List.{append_assoc, length-reverse, reverse-append}
use Rattle.es_values.specs.declared.numbers.Num.{Num}
use Rattle.es_values.specs.declared.numbers.Num.TheVariants.{NotANumber}
use Rattle.es_values.specs.declared.values.Value.{Value}
use Rattle.es_values.specs.declared.values.Value.TheVariants.{Object}
use Rattle.es_values.specs.Conversions.{joined, number_of, text_at}
use Rattle.es_values.specs.Heaps.{object_at}
use Rattle.es_values.specs.Numerals.{digit_value, is_digit_in, is_white, number_of_text, numeral, signed_numeral, trimmed, without_white_end, without_white_front}
use Rattle.es_values.specs.Objects.{ObjectState}

-- the text has a comma in it
abbrev HasComma : List ℕ → Type 0
HasComma text = (front : List ℕ) × (back : List ℕ) × (text ≡ front ++ (44 ∷ back))

-- ---- a comma is no digit

and-false : (test : Bool) → (test && false) ≡ false
and-false true = refl
and-false false = refl

comma-stops : (test : ℕ → Bool) (front back : List ℕ) → test 44 ≡ false → list_all test (front ++ (44 ∷ back)) ≡ false
comma-stops test [] back h = rw h refl
comma-stops test (code ∷ front) back h = rw (comma-stops test front back h) (and-false (test code))

no-digit : (base : ℕ) → nat_lt 36 base ≡ false → is_digit_in base 44 ≡ false
unfolding digit_value
no-digit base h = h

no-signed : (negative : Bool) (base : ℕ) (front back : List ℕ) → nat_lt 36 base ≡ false → signed_numeral negative base (front ++ (44 ∷ back)) ≡ NotANumber
unfolding signed_numeral
no-signed negative base front back h =
    rw (comma-stops (is_digit_in base) front back (no-digit base h), and-false (nat_lt 0 (length (front ++ (44 ∷ back))))) refl

-- ---- no numeral has a comma

any-none : (a b c : Bool) (plus minus hex plain : Num) → plus ≡ NotANumber → minus ≡ NotANumber → (c ≡ true → hex ≡ NotANumber) → plain ≡ NotANumber
    → cond a plus (cond b minus (cond c hex plain)) ≡ NotANumber
any-none true b c plus minus hex plain p m h d = p
any-none false true c plus minus hex plain p m h d = m
any-none false false true plus minus hex plain p m h d = h refl
any-none false false false plus minus hex plain p m h d = d

no-hex : (first : ℕ) (front back : List ℕ) → starts_with nat_eq (first ∷ (front ++ (44 ∷ back))) (codes "0x") ≡ true
    → signed_numeral false 16 (drop 2 (first ∷ (front ++ (44 ∷ back)))) ≡ NotANumber
no-hex first [] back h = absurd (apart (48 == first) h)
  where
    apart : (test : Bool) → (test && false) ≡ true → ⊥
    apart true e = absurd cc
    apart false e = absurd cc
no-hex first (second ∷ front) back h = no-signed false 16 front back refl

no-numeral : (front back : List ℕ) → numeral (front ++ (44 ∷ back)) ≡ NotANumber
unfolding numeral
no-numeral [] back = no-signed false 10 [] back refl
no-numeral (first ∷ front) back =
    any-none (first == 43) (first == 45) (starts_with nat_eq (first ∷ (front ++ (44 ∷ back))) (codes "0x"))
    (signed_numeral false 10 (front ++ (44 ∷ back))) (signed_numeral true 10 (front ++ (44 ∷ back)))
    (signed_numeral false 16 (drop 2 (first ∷ (front ++ (44 ∷ back))))) (signed_numeral false 10 (first ∷ (front ++ (44 ∷ back))))
    (no-signed false 10 front back refl) (no-signed true 10 front back refl) (no-hex first front back) (no-signed false 10 (first ∷ front) back refl)

-- ---- a comma is no white

comma-black : is_white 44 ≡ false
unfolding is_white
comma-black = refl

front-kept : (front back : List ℕ) → HasComma (without_white_front (front ++ (44 ∷ back)))
front-kept [] back = ([], back, ap (λ (white : Bool). drop (cond white (1 + prefix_len is_white back) 0) (44 ∷ back)) comma-black)
front-kept (code ∷ front) back = step (is_white code) (front-kept front back)
  where
    step : (white : Bool) → HasComma (without_white_front (front ++ (44 ∷ back)))
        → HasComma (drop (cond white (1 + prefix_len is_white (front ++ (44 ∷ back))) 0) (code ∷ (front ++ (44 ∷ back))))
    step true rest =
        let on : 1 + prefix_len is_white (front ++ (44 ∷ back)) ≡ suc (prefix_len is_white (front ++ (44 ∷ back))) = omega arith in
        (rest.0, rest.1, ap (λ (n : ℕ). drop n (code ∷ (front ++ (44 ∷ back)))) on ∙ rest.2)
    step false rest = (code ∷ front, back, refl)

stops-there : (front back : List ℕ) → prefix_len is_white (front ++ (44 ∷ back)) ≤ length front
stops-there [] back = rw comma-black (omega arith)
stops-there (code ∷ front) back = step (is_white code) (stops-there front back)
  where
    step : (white : Bool) → prefix_len is_white (front ++ (44 ∷ back)) ≤ length front
        → cond white (1 + prefix_len is_white (front ++ (44 ∷ back))) 0 ≤ length (code ∷ front)
    step true rest = omega arith
    step false rest = omega arith

white-behind : (front back : List ℕ) → suffix_len is_white (front ++ (44 ∷ back)) ≤ length back
white-behind front back =
    let turned : reverse (front ++ (44 ∷ back)) ≡ reverse back ++ (44 ∷ reverse front) =
    reverse-append front (44 ∷ back) ∙ ap (λ (l : List ℕ). l ++ reverse front) (reverse-append (44 ∷ []) back) ∙ append_assoc (reverse back) (44 ∷ []) (reverse front) in
    let within = stops-there (reverse back) (reverse front) in
    let same = ap (prefix_len is_white) turned in
    omega (arith, length-reverse back)

taken : (count : ℕ) (front back : List ℕ) → length front < count → HasComma (take count (front ++ (44 ∷ back)))
taken zero front back h = absurd (omega arith)
taken (suc count) [] back h = ([], take count back, refl)
taken (suc count) (code ∷ front) back h =
    let rest = taken count front back (omega arith) in
    (code ∷ rest.0, rest.1, ap (λ (l : List ℕ). code ∷ l) rest.2)

end-kept : (front back : List ℕ) → HasComma (without_white_end (front ++ (44 ∷ back)))
end-kept front back =
    let size = length-append front (44 ∷ back) in
    let behind = white-behind front back in
    taken (length (front ++ (44 ∷ back)) - suffix_len is_white (front ++ (44 ∷ back))) front back (omega arith)

trimmed-comma : (front back : List ℕ) → HasComma (trimmed (front ++ (44 ∷ back)))
trimmed-comma front back =
    let kept = front-kept front back in
    subst (λ (l : List ℕ). HasComma (without_white_end l)) (sym kept.2) (end-kept kept.0 kept.1)

no-number : (front back : List ℕ) → number_of_text (front ++ (44 ∷ back)) ≡ NotANumber
no-number front back =
    let kept = trimmed-comma front back in
    ap numeral kept.2 ∙ no-numeral kept.0 kept.1

-- ---- arrays

joined-none : (properties : List (List ℕ × Value)) (count : ℕ) → 2 ≤ count → number_of_text (joined properties (codes ",") count) ≡ NotANumber
unfolding joined
joined-none properties zero h = absurd (omega arith)
joined-none properties (suc zero) h = absurd (omega arith)
joined-none properties (suc (suc place)) h = no-number (joined properties (codes ",") (suc place)) (text_at properties (suc place))

pub array-none : (heap : List ObjectState) (object count : ℕ) → (object_at heap object).array_length ≡ Some count → 2 ≤ count
    → number_of heap (Object object) ≡ NotANumber
array-none heap object count e h =
    ap (λ (found : Option ℕ). number_of_text (option_map_or (λ count. joined (object_at heap object).properties (codes ",") count) found (codes "[object Object]"))) e
    ∙ joined-none (object_at heap object).properties count h
