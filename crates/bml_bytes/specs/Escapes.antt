-- How the bytes of a text are printed in a field of an output line, so that the field ends where a line
-- feed or, if need be, a space stands. This project's own.
use Rattle.std.specs.Prelude.{ℕ, ◌/◌, ◌%◌, ◌+◌, ◌-◌, ◌==◌, nat_lt, nat_le, Bool, ◌||◌, if◌then◌else◌, List, [], ◌∷◌, ◌++◌, codes}
use Rattle.std.specs.List.{flat_map}
use Rattle.std.specs.Str.{byte}
use Rattle.bml_bytes.specs.declared.line_fields.Escapes.{Escapes}
use Rattle.bml_bytes.specs.declared.line_fields.Escapes.TheVariants.{Controls, ControlsAndSpace}

-- the controls of ASCII, and the space where the field is to have none
abbrev pub is_unprinted : Escapes → ℕ → Bool
is_unprinted Controls byte = nat_lt byte 0x20 || (byte == 0x7F)
is_unprinted ControlsAndSpace byte = nat_le byte 0x20 || (byte == 0x7F)

-- what isn't printed as it is: these, and the percent sign
abbrev pub is_escaped : Escapes → ℕ → Bool
is_escaped escapes code = is_unprinted escapes code || (code == byte "%")

-- `0` to `9`, and then `A` to `F`
abbrev pub upper_hex_digit : ℕ → ℕ
upper_hex_digit digit = if nat_lt digit 10 then byte "0" + digit else byte "A" - 10 + digit

-- a percent sign and two hexadecimal digits, or the byte itself
abbrev pub escaped_byte : Escapes → ℕ → List ℕ
escaped_byte escapes code =
    if is_escaped escapes code then codes "%" ++ upper_hex_digit (code / 16) ∷ upper_hex_digit (code % 16) ∷ []
    else code ∷ []

-- the bytes one after another
abbrev pub escaped : Escapes → List ℕ → List ℕ
escaped escapes bytes = flat_map (escaped_byte escapes) bytes
