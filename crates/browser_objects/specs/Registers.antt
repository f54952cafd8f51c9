-- The registers of scripts: Ureg and Greg, 64 texts each (after the browser object of BML, ARIB STD-B24 volume 2;
-- that each keeps 256 codes is this project's own).
use Rattle.std.specs.Prelude.{ℕ, nat_lt, if◌then◌else◌, List, [], replicate, take, Option, Some, None, option_and_then, slice_get, slice_set}
use Rattle.std.specs.Option.{option_map_or}
use Rattle.es_values.specs.Heaps.{index_of}

abbrev pub register_count : ℕ
register_count = 64

abbrev pub most_codes : ℕ
most_codes = 256

-- at first each is empty
abbrev pub empty_registers : List (List ℕ)
empty_registers = replicate register_count []

abbrev pub register_number : ℕ → Option ℕ
register_number number = if nat_lt number register_count then Some number else None

-- A register's name is its number in decimal, without zeros in front, as the name of an array's element is.
abbrev pub register_of : List ℕ → Option ℕ
register_of name = option_and_then register_number (index_of name)

-- the text of the register of a name, and none where the name is of none
abbrev pub register_text : List (List ℕ) → List ℕ → Option (List ℕ)
register_text registers name = option_and_then (slice_get registers) (register_of name)

-- a write keeps the first codes of the text; where the name is of no register it does nothing
abbrev pub with_register : List ℕ → List ℕ → List (List ℕ) → List (List ℕ)
with_register name text registers =
    option_map_or (λ number. slice_set registers number (take most_codes text)) (register_of name)
    registers
