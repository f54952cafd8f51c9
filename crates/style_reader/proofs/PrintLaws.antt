-- Printed values, read back.
use Rattle.std.proofs.Common.{◌≡◌, ℕ, zero, suc, ◌+◌, ◌-◌, ◌<◌, ◌≤◌, Bool, true, false, List, [], ◌∷◌, ◌++◌, length, take, Option, Some, ℤ, pos, negsuc, refl, sym, ◌∙◌, ap, append-nil, length-append, arith}
use Rattle.std.proofs.lemmas.Bool.Decides.{nat_tests}
use Rattle.std.proofs.lemmas.List.{drop_at, take_all, take_at, reverse-append}
use Rattle.std.proofs.lemmas.List.Folds.{list_all-append}
use Rattle.std.proofs.lemmas.List.Sums.{AllPass-from_list_all, list_all-from_AllPass}
use Rattle.std.specs.Prelude.{◌&&◌, nat_eq, nat_le, nat_lt, not, int_le, option_and_then, codes, reverse}
use Rattle.std.specs.Char.{to_ascii_lowercase}
use Rattle.std.specs.List.{All, AllPass, join_with_byte, list_all, prefix_len}
use Rattle.bml_bytes.specs.Codes.{codes as codes_of}
use Rattle.bml_bytes.specs.Numbers.{number_in}
use Rattle.bml_bytes.specs.Numerals.{decimal_digits, decimal_number, is_decimal_digit, signed_decimal_digits}
use Rattle.bml_bytes.specs.Words.{is_same}
use Rattle.style_reader.specs.Characters.{begins_with, is_white, is_word, trimmed}
use Rattle.style_reader.specs.Properties.{Values, values_of}
use Rattle.style_reader.specs.Properties.Values.{Pixels, Numbers, NumbersOrNone, VisibleOrHidden, KeyGroups}
use Rattle.style_reader.specs.Values.{fits, group_words, is_among, is_between, numeral, pixel_count, printed, signed, unit_behind, value_among, value_of, whole_between}
use Rattle.style_reader.specs.declared.properties.Property.{Property}
use Rattle.style_reader.specs.declared.properties.StyleValue.{StyleValue}
use Rattle.style_reader.specs.declared.properties.StyleValue.TheVariants.{Whole, NoValue, Visible, Hidden, Keys}

-- what the laws of numerals and codes say
pub record Known : Type 0 where
  pub digits : (number : ℕ) → AllPass is_decimal_digit (decimal_digits number)
  pub number : (number : ℕ) → decimal_number (decimal_digits number) ≡ number
  pub one : (number : ℕ) → number < 10 → decimal_digits number ≡ (48 + number) ∷ []
  pub ascii : (bytes : List ℕ) → All (λ byte. byte < 128) bytes → codes_of bytes ≡ bytes

-- ---- texts of ASCII without white

abbrev pub is_plain : ℕ → Bool
is_plain code = nat_lt 32 code && nat_lt code 128

plain-black : (code : ℕ) → is_plain code ≡ true → is_white code ≡ false
unfolding is_white
plain-black code e = grind (arith, nat_tests)

and-true : (a b : Bool) → (a && b) ≡ true → (a ≡ true) × (b ≡ true)
and-true true b e = (refl, e)
and-true false b e = absurd (cc e)

no-front : (text : List ℕ) → list_all is_plain text ≡ true → prefix_len is_white text ≡ 0
no-front [] e = refl
no-front (code ∷ text) e = let parts = and-true (is_plain code) (list_all is_plain text) e in rw (plain-black code parts.0) refl

both : (a b : Bool) → a ≡ true → b ≡ true → (a && b) ≡ true
both a b e f = rw (e, f) refl

reversed : (text : List ℕ) → list_all is_plain text ≡ true → list_all is_plain (reverse text) ≡ true
reversed [] e = refl
reversed (code ∷ text) e =
    let parts = and-true (is_plain code) (list_all is_plain text) e in
    ap (list_all is_plain) (reverse-append (code ∷ []) text) ∙ list_all-append is_plain (reverse text) (code ∷ []) ∙ both (list_all is_plain (reverse text)) (is_plain code && true) (reversed text parts.1) (both (is_plain code) true parts.0 refl)

all-taken : (text : List ℕ) → take (length text - 0) text ≡ text
all-taken text = take_all (length text - 0) text (omega arith)

pub trimmed-plain : (text : List ℕ) → list_all is_plain text ≡ true → trimmed text ≡ text
trimmed-plain text e = rw (no-front text e, no-front (reverse text) (reversed text e)) (all-taken text)

plain-ascii : (text : List ℕ) → list_all is_plain text ≡ true → list_all (λ code. nat_lt code 128) text ≡ true
plain-ascii [] e = refl
plain-ascii (code ∷ text) e =
    let parts = and-true (is_plain code) (list_all is_plain text) e in
    both (nat_lt code 128) (list_all (λ c. nat_lt c 128) text) (and-true (nat_lt 32 code) (nat_lt code 128) parts.0).1 (plain-ascii text parts.1)

pub codes-ascii : Known → (text : List ℕ) → list_all (λ code. nat_lt code 128) text ≡ true → codes_of text ≡ text
codes-ascii known text e = known.ascii text (λ k d below. let small = AllPass-from_list_all (λ (code : ℕ). nat_lt code 128) text e k d below in grind (arith, nat_tests))

-- ---- digits

record IsDecimal (digits : List ℕ) (number : ℕ) : Type 0 where
  digits_only : list_all is_decimal_digit digits ≡ true
  number_is : decimal_number digits ≡ number
  some : 1 ≤ length digits

some-digits : Known → (number : ℕ) → 1 ≤ length (decimal_digits number)
unfolding number_in
some-digits known number = by (decimal_digits number) refl
  where
    by : (digits : List ℕ) → decimal_digits number ≡ digits → 1 ≤ length digits
    by [] e =
        let none : decimal_number [] ≡ number = ap decimal_number (sym e) ∙ known.number number in
        let zero_is : 0 ≡ number = none in
        let small : number < 10 = omega arith in
        absurd (cc (sym e ∙ known.one number small))
    by (digit ∷ digits) e = omega arith

decimal : Known → (number : ℕ) → IsDecimal (decimal_digits number) number
decimal known number = record {
  digits_only = list_all-from_AllPass is_decimal_digit (decimal_digits number) (known.digits number);
  number_is = known.number number;
  some = some-digits known number;
}

digit-plain : (code : ℕ) → is_decimal_digit code ≡ true → is_plain code ≡ true
digit-plain code e = grind (arith, nat_tests)

digits-plain : (digits : List ℕ) → list_all is_decimal_digit digits ≡ true → list_all is_plain digits ≡ true
digits-plain [] e = refl
digits-plain (code ∷ digits) e =
    let parts = and-true (is_decimal_digit code) (list_all is_decimal_digit digits) e in
    both (is_plain code) (list_all is_plain digits) (digit-plain code parts.0) (digits-plain digits parts.1)

-- ---- numbers

numeral-digits : (digits : List ℕ) (number : ℕ) → IsDecimal digits number → numeral digits ≡ Some number
numeral-digits digits number is = let some : nat_le 1 (length digits) ≡ true = grind (arith, nat_tests, is.some) in rw (some, is.digits_only) (ap Some is.number_is)

not-zero : (text : List ℕ) → 2 ≤ length text → is_same text (codes "0") ≡ false
not-zero [] h = absurd (omega arith)
not-zero (code ∷ []) h = absurd (omega arith)
not-zero (code ∷ next ∷ text) h = by (nat_eq code 48)
  where
    by : (b : Bool) → (b && false) ≡ false
    by true = refl
    by false = refl

pixels-digits : (digits : List ℕ) (number : ℕ) → IsDecimal digits number → pixel_count (digits ++ codes "px") ≡ Some number
pixels-digits digits number is =
    let long = length-append digits (codes "px") in
    let cut : length digits ≡ length (digits ++ codes "px") - 2 = omega arith in
    rw (not-zero (digits ++ codes "px") (omega (arith, is.some)), drop_at digits (codes "px") (length (digits ++ codes "px") - 2) cut, take_at digits (codes "px") (length (digits ++ codes "px") - 2) cut) (numeral-digits digits number is)

no-minus : (digits more : List ℕ) → list_all is_decimal_digit digits ≡ true → 1 ≤ length digits → begins_with (codes "-") (digits ++ more) ≡ false
no-minus [] more e h = absurd (omega arith)
no-minus (code ∷ digits) more e h =
    let parts = and-true (is_decimal_digit code) (list_all is_decimal_digit digits) e in
    let other : nat_eq 45 code ≡ false = digit-other code parts.0 in
    rw other refl
  where
    digit-other : (code : ℕ) → is_decimal_digit code ≡ true → nat_eq 45 code ≡ false
    digit-other code e = grind (arith, nat_tests)

and-false : (a b : Bool) → b ≡ false → (a && b) ≡ false
and-false true b e = e
and-false false b e = refl

signed-positive : (count : List ℕ → Option ℕ) (least : ℤ) (digits more : List ℕ) (number : ℕ) → IsDecimal digits number → count (digits ++ more) ≡ Some number → signed count least (digits ++ more) ≡ Some (pos number)
signed-positive count least digits more number is e =
    rw (and-false (not (int_le (pos 0) least)) (begins_with (codes "-") (digits ++ more)) (no-minus digits more is.digits_only is.some), e) refl

signed-negative : (count : List ℕ → Option ℕ) (least : ℤ) (text : List ℕ) (number : ℕ) → int_le least (negsuc number) ≡ true → count text ≡ Some (suc number) → signed count least (45 ∷ text) ≡ Some (negsuc number)
signed-negative count (pos least) text number below e = absurd (cc below)
signed-negative count (negsuc least) text number below e = rw e refl

-- a number that is printed with a unit behind it reads as itself
signed-printed : Known → (count : List ℕ → Option ℕ) (unit : List ℕ) → ((digits : List ℕ) (number : ℕ) → IsDecimal digits number → count (digits ++ unit) ≡ Some number) → (least number : ℤ) → int_le least number ≡ true → signed count least (signed_decimal_digits number ++ unit) ≡ Some number
signed-printed known count unit reads least (pos number) below = signed-positive count least (decimal_digits number) unit number (decimal known number) (reads (decimal_digits number) number (decimal known number))
signed-printed known count unit reads least (negsuc number) below = signed-negative count least (decimal_digits (suc number) ++ unit) number below (reads (decimal_digits (suc number)) (suc number) (decimal known (suc number)))

numeral-alone : (digits : List ℕ) (number : ℕ) → IsDecimal digits number → numeral (digits ++ []) ≡ Some number
numeral-alone digits number is = ap numeral (append-nil digits) ∙ numeral-digits digits number is

between : (least most number : ℤ) (found : Option ℤ) → is_between least most number ≡ true → found ≡ Some number → option_and_then (whole_between least most) found ≡ Some (Whole number)
between least most number found e is = rw (is, e) refl

least-below : (least most number : ℤ) → is_between least most number ≡ true → int_le least number ≡ true
least-below least most number e = (and-true (int_le least number) (int_le number most) e).0

-- no number is `none`
digits-none : (digits more : List ℕ) → list_all is_decimal_digit digits ≡ true → 1 ≤ length digits → is_word (codes "none") (digits ++ more) ≡ false
digits-none [] more e h = absurd (omega arith)
digits-none (code ∷ digits) more e h =
    let parts = and-true (is_decimal_digit code) (list_all is_decimal_digit digits) e in
    let other : nat_eq (to_ascii_lowercase code) 110 ≡ false = digit-other code parts.0 in
    rw other refl
  where
    digit-other : (code : ℕ) → is_decimal_digit code ≡ true → nat_eq (to_ascii_lowercase code) 110 ≡ false
    digit-other code e = grind (arith, nat_tests)

not-none : Known → (number : ℤ) (unit : List ℕ) → is_word (codes "none") (signed_decimal_digits number ++ unit) ≡ false
not-none known (pos number) unit = let is = decimal known number in digits-none (decimal_digits number) unit is.digits_only is.some
not-none known (negsuc number) unit = refl

-- ---- values

whole-back : Known → (values : Values) (number : ℤ) → is_among values (Whole number) ≡ true → value_among values (signed_decimal_digits number ++ unit_behind values) ≡ Some (Whole number)
whole-back known (Pixels least most) number e =
    between least most number (signed pixel_count least (signed_decimal_digits number ++ codes "px")) e (signed-printed known pixel_count (codes "px") pixels-digits least number (least-below least most number e))
whole-back known (Numbers least most) number e =
    between least most number (signed numeral least (signed_decimal_digits number ++ [])) e (signed-printed known numeral [] numeral-alone least number (least-below least most number e))
whole-back known (NumbersOrNone least most) number e =
    rw (not-none known number []) (between least most number (signed numeral least (signed_decimal_digits number ++ [])) e (signed-printed known numeral [] numeral-alone least number (least-below least most number e)))
whole-back known VisibleOrHidden number e = absurd (cc e)
whole-back known KeyGroups number e = absurd (cc e)

none-back : (values : Values) → is_among values NoValue ≡ true → value_among values (codes "none") ≡ Some NoValue
none-back (Pixels least most) e = absurd (cc e)
none-back (Numbers least most) e = absurd (cc e)
none-back (NumbersOrNone least most) e = refl
none-back VisibleOrHidden e = absurd (cc e)
none-back KeyGroups e = refl

visible-back : (values : Values) → is_among values Visible ≡ true → value_among values (codes "visible") ≡ Some Visible
visible-back (Pixels least most) e = absurd (cc e)
visible-back (Numbers least most) e = absurd (cc e)
visible-back (NumbersOrNone least most) e = absurd (cc e)
visible-back VisibleOrHidden e = refl
visible-back KeyGroups e = absurd (cc e)

hidden-back : (values : Values) → is_among values Hidden ≡ true → value_among values (codes "hidden") ≡ Some Hidden
hidden-back (Pixels least most) e = absurd (cc e)
hidden-back (Numbers least most) e = absurd (cc e)
hidden-back (NumbersOrNone least most) e = absurd (cc e)
hidden-back VisibleOrHidden e = refl
hidden-back KeyGroups e = absurd (cc e)

-- a text of ASCII that is trimmed reads as the codes that it is
record ReadsBack (values : Values) (text : List ℕ) (value : StyleValue) : Type 0 where
  ascii : list_all (λ code. nat_lt code 128) text ≡ true
  reads : value_among values (trimmed text) ≡ Some value

back-plain : (values : Values) (text : List ℕ) (value : StyleValue) → list_all is_plain text ≡ true → value_among values text ≡ Some value → ReadsBack values text value
back-plain values text value plain e = record { ascii = plain-ascii text plain; reads = ap (value_among values) (trimmed-plain text plain) ∙ e }

keys-back : (groups : ℕ) → is_among KeyGroups (Keys groups) ≡ true → ReadsBack KeyGroups (join_with_byte 32 (group_words groups)) (Keys groups)
unfolding is_white
keys-back zero e = absurd (cc e)
keys-back (suc zero) e = record { ascii = refl; reads = refl }
keys-back (suc (suc zero)) e = record { ascii = refl; reads = refl }
keys-back (suc (suc (suc zero))) e = record { ascii = refl; reads = refl }
keys-back (suc (suc (suc (suc zero)))) e = record { ascii = refl; reads = refl }
keys-back (suc (suc (suc (suc (suc zero))))) e = record { ascii = refl; reads = refl }
keys-back (suc (suc (suc (suc (suc (suc zero)))))) e = record { ascii = refl; reads = refl }
keys-back (suc (suc (suc (suc (suc (suc (suc zero))))))) e = record { ascii = refl; reads = refl }
keys-back (suc (suc (suc (suc (suc (suc (suc (suc groups)))))))) e = absurd (too_many e)
  where
    too_many : (nat_le 1 (suc (suc (suc (suc (suc (suc (suc (suc groups)))))))) && nat_le (suc (suc (suc (suc (suc (suc (suc (suc groups)))))))) 7) ≡ true → ⊥
    too_many h = grind (arith, nat_tests)

groups-back : (values : Values) (groups : ℕ) → is_among values (Keys groups) ≡ true → ReadsBack values (join_with_byte 32 (group_words groups)) (Keys groups)
groups-back (Pixels least most) groups e = absurd (cc e)
groups-back (Numbers least most) groups e = absurd (cc e)
groups-back (NumbersOrNone least most) groups e = absurd (cc e)
groups-back VisibleOrHidden groups e = absurd (cc e)
groups-back KeyGroups groups e = keys-back groups e

unit-plain : (values : Values) → list_all is_plain (unit_behind values) ≡ true
unit-plain (Pixels least most) = refl
unit-plain (Numbers least most) = refl
unit-plain (NumbersOrNone least most) = refl
unit-plain VisibleOrHidden = refl
unit-plain KeyGroups = refl

sign-plain : Known → (number : ℤ) → list_all is_plain (signed_decimal_digits number) ≡ true
sign-plain known (pos number) = digits-plain (decimal_digits number) (decimal known number).digits_only
sign-plain known (negsuc number) = digits-plain (decimal_digits (suc number)) (decimal known (suc number)).digits_only

number-plain : Known → (values : Values) (number : ℤ) → list_all is_plain (signed_decimal_digits number ++ unit_behind values) ≡ true
number-plain known values number =
    list_all-append is_plain (signed_decimal_digits number) (unit_behind values) ∙ both (list_all is_plain (signed_decimal_digits number)) (list_all is_plain (unit_behind values)) (sign-plain known number) (unit-plain values)

back : Known → (property : Property) (value : StyleValue) → is_among (values_of property) value ≡ true → ReadsBack (values_of property) (printed property value) value
unfolding printed
back known property (Whole number) e =
    back-plain (values_of property) (signed_decimal_digits number ++ unit_behind (values_of property)) (Whole number) (number-plain known (values_of property) number) (whole-back known (values_of property) number e)
back known property NoValue e = back-plain (values_of property) (codes "none") NoValue refl (none-back (values_of property) e)
back known property Visible e = back-plain (values_of property) (codes "visible") Visible refl (visible-back (values_of property) e)
back known property Hidden e = back-plain (values_of property) (codes "hidden") Hidden refl (hidden-back (values_of property) e)
back known property (Keys groups) e = groups-back (values_of property) groups e

-- what is printed of a value reads as that value
pub read-back : Known → (property : Property) (value : StyleValue) → fits property value ≡ true → value_of property (codes_of (printed property value)) ≡ Some value
unfolding value_of fits
read-back known property value e =
    let found = back known property value e in
    rw (codes-ascii known (printed property value) found.ascii) found.reads
