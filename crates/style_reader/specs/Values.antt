-- The values of properties as they are written (after CSS level 1, 6, in this project's own
-- profile): what a text is the value of, and how a value is printed. Letters go without ASCII case,
-- and white may stand at both ends.
use Rattle.std.specs.Prelude.{ℕ, ◌+◌, ◌-◌, ◌/◌, ◌%◌, ◌==◌, nat_le, nat_lt, Bool, false, true, not, ◌&&◌, if◌then◌else◌, ℤ, pos, neg_ℤ, int_le, List, [], ◌∷◌, ◌++◌, length, take, drop, filter, Option, Some, None, option_map, option_and_then, codes}
use Rattle.std.specs.List.{list_all, list_any, join_with_byte, slice_split}
use Rattle.bml_bytes.specs.Numerals.{is_decimal_digit, decimal_number, signed_decimal_digits}
use Rattle.bml_bytes.specs.Words.{is_same}
use Rattle.style_reader.specs.Characters.{begins_with, is_white, is_word, trimmed}
use Rattle.style_reader.specs.Properties.{Values, values_of}
use Rattle.style_reader.specs.Properties.Values.{Pixels, Numbers, NumbersOrNone, VisibleOrHidden, KeyGroups}
use Rattle.style_reader.specs.declared.properties.Property.{Property}
use Rattle.style_reader.specs.declared.properties.StyleValue.{StyleValue}
use Rattle.style_reader.specs.declared.properties.StyleValue.TheVariants.{Whole, NoValue, Visible, Hidden, Keys}

-- ---- numbers

-- the number of some digits, at least one, with zeros in front where one likes
abbrev pub numeral : List ℕ → Option ℕ
numeral digits =
    if nat_le 1 (length digits) && list_all is_decimal_digit digits
    then Some (decimal_number digits) else None

-- the last two codes, and what stands before them
abbrev pub unit_of : List ℕ → List ℕ
unit_of text = drop (length text - 2) text

abbrev pub without_unit : List ℕ → List ℕ
without_unit text = take (length text - 2) text

-- a number of pixels: digits and `px`, or `0` alone
abbrev pub pixel_count : List ℕ → Option ℕ
pixel_count text =
    if is_same text (codes "0") then Some 0
    else if is_word (codes "px") (unit_of text) then numeral (without_unit text)
    else None

-- a number with a minus sign before it, where the least one is below zero, or without
abbrev pub signed : (List ℕ → Option ℕ) → ℤ → List ℕ → Option ℤ
signed number least text =
    if not (int_le (pos 0) least) && begins_with (codes "-") text
    then option_map (λ n. neg_ℤ (pos n)) (number (drop 1 text))
    else option_map pos (number text)

-- from the least to the most
abbrev pub is_between : ℤ → ℤ → ℤ → Bool
is_between least most number = int_le least number && int_le number most

abbrev pub whole_between : ℤ → ℤ → ℤ → Option StyleValue
whole_between least most number = if is_between least most number then Some (Whole number) else None

-- ---- groups of keys

-- what stands between white
abbrev pub words_of : List ℕ → List (List ℕ)
words_of text = filter (λ word. nat_lt 0 (length word)) (slice_split is_white text)

abbrev pub is_key_word : List ℕ → Bool
is_key_word word =
    if is_word (codes "basic") word then true
    else if is_word (codes "data-button") word then true
    else is_word (codes "numeric-tuning") word

-- this number where the word is among those, and else nothing
abbrev pub group_among : List (List ℕ) → List ℕ → ℕ → ℕ
group_among words word group = if list_any (is_word word) words then group else 0

-- the groups that words name, in any order and as often as one likes, at least one
abbrev pub key_groups : List (List ℕ) → Option StyleValue
key_groups words =
    if nat_le 1 (length words) && list_all is_key_word words
    then Some (Keys (group_among words (codes "basic") 1
    + (group_among words (codes "data-button") 2 + group_among words (codes "numeric-tuning") 4)))
    else None

-- ---- values

-- the value that a text without white at its ends is
abbrev pub value_among : Values → List ℕ → Option StyleValue
value_among (Pixels least most) text =
    option_and_then (whole_between least most) (signed pixel_count least text)
value_among (Numbers least most) text =
    option_and_then (whole_between least most) (signed numeral least text)
value_among (NumbersOrNone least most) text =
    if is_word (codes "none") text then Some NoValue
    else option_and_then (whole_between least most) (signed numeral least text)
value_among VisibleOrHidden text =
    if is_word (codes "visible") text then Some Visible
    else if is_word (codes "hidden") text then Some Hidden
    else None
value_among KeyGroups text =
    if is_word (codes "none") text then Some NoValue else key_groups (words_of text)

-- the value that a text gives a property, and none where it is no value of it
unfoldable pub value_of : Property → List ℕ → Option StyleValue
value_of property text = value_among (values_of property) (trimmed text)

-- ---- which values there are

abbrev pub is_among : Values → StyleValue → Bool
is_among (Pixels least most) (Whole number) = is_between least most number
is_among (Numbers least most) (Whole number) = is_between least most number
is_among (NumbersOrNone least most) (Whole number) = is_between least most number
is_among (NumbersOrNone least most) NoValue = true
is_among VisibleOrHidden Visible = true
is_among VisibleOrHidden Hidden = true
is_among KeyGroups (Keys groups) = nat_le 1 groups && nat_le groups 7
is_among KeyGroups NoValue = true
is_among values value = false

-- the value is one of the property's
unfoldable pub fits : Property → StyleValue → Bool
fits property value = is_among (values_of property) value

-- ---- how values are printed: `10px`, `3`, `none`, `visible`, `basic data-button`

-- the words of the groups, in the order of their numbers
abbrev pub word_if : Bool → List ℕ → List (List ℕ)
word_if true word = word ∷ []
word_if false word = []

abbrev pub has_group : ℕ → ℕ → Bool
has_group groups group = groups / group % 2 == 1

abbrev pub group_words : ℕ → List (List ℕ)
group_words groups =
    word_if (has_group groups 1) (codes "basic")
    ++ (word_if (has_group groups 2) (codes "data-button")
    ++ word_if (has_group groups 4) (codes "numeric-tuning"))

abbrev pub unit_behind : Values → List ℕ
unit_behind (Pixels least most) = codes "px"
unit_behind values = []

unfoldable pub printed : Property → StyleValue → List ℕ
printed property (Whole number) = signed_decimal_digits number ++ unit_behind (values_of property)
printed property NoValue = codes "none"
printed property Visible = codes "visible"
printed property Hidden = codes "hidden"
printed property (Keys groups) = join_with_byte 32 (group_words groups)
