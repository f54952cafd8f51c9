-- The keys of a remote control, with their numbers and groups (after the key codes and the
-- used-key-list of BML, ARIB STD-B24 volume 2; the choice of keys is this project's own).
use Rattle.std.specs.Prelude.{ℕ, ◌==◌, Bool, false, List, [], ◌∷◌, Option, bit_and, find}
use Rattle.std.specs.Option.{option_map_or}
use Rattle.style_reader.specs.declared.properties.StyleValue.{StyleValue}
use Rattle.style_reader.specs.declared.properties.StyleValue.TheVariants.{Whole, NoValue, Visible, Hidden, Keys}
use Rattle.focus_keys.specs.declared.keys.Key.{Key}
use Rattle.focus_keys.specs.declared.keys.Key.TheVariants.{Up, Down, Left, Right, Digit0, Digit1, Digit2, Digit3, Digit4, Digit5, Digit6, Digit7, Digit8, Digit9, Enter, Back, Data, Blue, Red, Green, Yellow}

-- the bits of the groups
abbrev pub basic : ℕ
basic = 1

abbrev pub data_button : ℕ
data_button = 2

abbrev pub numeric_tuning : ℕ
numeric_tuning = 4

-- what is said of a key: its number and its group
pub record KeyRow : Type 0 where
  pub number : ℕ
  pub group : ℕ

abbrev pub row : ℕ → ℕ → KeyRow
row number group = record { number = number; group = group }

abbrev pub row_of : Key → KeyRow
row_of Up = row 1 basic
row_of Down = row 2 basic
row_of Left = row 3 basic
row_of Right = row 4 basic
row_of Digit0 = row 5 numeric_tuning
row_of Digit1 = row 6 numeric_tuning
row_of Digit2 = row 7 numeric_tuning
row_of Digit3 = row 8 numeric_tuning
row_of Digit4 = row 9 numeric_tuning
row_of Digit5 = row 10 numeric_tuning
row_of Digit6 = row 11 numeric_tuning
row_of Digit7 = row 12 numeric_tuning
row_of Digit8 = row 13 numeric_tuning
row_of Digit9 = row 14 numeric_tuning
row_of Enter = row 18 basic
row_of Back = row 19 basic
row_of Data = row 20 data_button
row_of Blue = row 21 data_button
row_of Red = row 22 data_button
row_of Green = row 23 data_button
row_of Yellow = row 24 data_button

abbrev pub key_number : Key → ℕ
key_number key = (row_of key).number

abbrev pub key_group : Key → ℕ
key_group key = (row_of key).group

abbrev pub all_keys : List Key
all_keys =
    Up ∷ Down ∷ Left ∷ Right ∷ Digit0 ∷ Digit1 ∷ Digit2 ∷ Digit3 ∷ Digit4 ∷ Digit5 ∷ Digit6 ∷ Digit7
    ∷ Digit8 ∷ Digit9 ∷ Enter ∷ Back ∷ Data ∷ Blue ∷ Red ∷ Green ∷ Yellow ∷ []

-- the key of a number, and none of a number that is no key
unfoldable pub key_of : ℕ → Option Key
key_of number = find (λ key. key_number key == number) all_keys

-- the bits of a key's group are among those
abbrev pub has_group : ℕ → Key → Bool
has_group bits key = bit_and bits (key_group key) == key_group key

-- The number is that of a key whose group a used-key-list has. `none` has no group.
abbrev pub passes_list : StyleValue → ℕ → Bool
passes_list (Whole _) number = false
passes_list NoValue number = false
passes_list Visible number = false
passes_list Hidden number = false
passes_list (Keys bits) number = option_map_or (has_group bits) (key_of number) false
