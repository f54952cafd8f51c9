-- How scripts name the function of a timer (this project's own form of what setInterval of BML takes).
use Rattle.std.specs.Prelude.{◌≡◌, ◌⊎◌, ℕ, ◌-◌, ◌==◌, ◌||◌, ◌&&◌, nat_le, Bool, true, false, if◌then◌else◌, List, [], ◌∷◌, ◌++◌, length, take, drop, codes, Option, Some, None, option_and_then}
use Rattle.std.specs.List.{list_all}
use Rattle.std.specs.Option.{option_or}
use Rattle.bml_bytes.specs.Words.{is_same}

-- a letter of ASCII, `$` or `_`; and behind the first code also a digit (ECMA-262 second edition, 7.6; a reserved
-- word is a name here)
abbrev pub is_name_start : ℕ → Bool
is_name_start code =
    (nat_le 65 code && nat_le code 90)
    || ((nat_le 97 code && nat_le code 122) || ((code == 36) || (code == 95)))

abbrev pub is_name_part : ℕ → Bool
is_name_part code = is_name_start code || (nat_le 48 code && nat_le code 57)

abbrev pub is_name : List ℕ → Bool
is_name [] = false
is_name (first ∷ rest) = is_name_start first && list_all is_name_part rest

-- the name that stands there alone
abbrev pub name_in : List ℕ → Option (List ℕ)
name_in text = if is_name text then Some text else None

-- what stands before an ending, where the text ends so
abbrev pub before_ending : List ℕ → List ℕ → Option (List ℕ)
before_ending ending text =
    if nat_le (length ending) (length text)
    && is_same (drop (length text - length ending) text) ending
    then Some (take (length text - length ending) text) else None

-- the name that stands before an ending
abbrev pub name_before : List ℕ → List ℕ → Option (List ℕ)
name_before ending text = option_and_then name_in (before_ending ending text)

-- The name of the function that a text calls: it is the name alone, or a call of it without arguments, or such a
-- call as a statement. `law_of_function_texts` says so.
abbrev pub named_function : List ℕ → Option (List ℕ)
named_function text =
    option_or (name_in text)
    (option_or (name_before (codes "()") text) (name_before (codes "();") text))

-- the three forms of the text that calls a function of a name
pub record Calls (name text : List ℕ) : Type 0 where
  pub named : is_name name ≡ true
  pub form : (text ≡ name) ⊎ ((text ≡ name ++ codes "()") ⊎ (text ≡ name ++ codes "();"))
