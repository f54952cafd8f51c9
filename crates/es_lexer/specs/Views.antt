-- A device of the proofs: what the values that the code keeps stand for.
use Rattle.std.specs.Prelude.{ℕ, ℤ, Bool, List, map}
use Rattle.std.specs.Borrow.{Bor}
use Rattle.bml_bytes.specs.Numbers.{number_in}
use Rattle.es_lexer.specs.Codes.{is_identifier_part, is_decimal_digit, is_octal_digit, is_hex_digit, digit_value}
use Rattle.es_lexer.specs.Numbers.{Base}
use Rattle.es_lexer.specs.Numbers.Base.{Decimal, Octal, Hexadecimal}
use Rattle.es_lexer.specs.Scanning.{Found, found}
use Rattle.es_lexer.specs.ScannedElements.{is_in_line}
use Rattle.es_lexer.specs.declared.codes.CodeClass.{CodeClass}
use Rattle.es_lexer.specs.declared.codes.CodeClass.TheVariants.{IdentifierPart, DecimalDigit, OctalDigit, HexDigit, InLine}
use Rattle.es_lexer.specs.declared.numbers.Base.{Base as BaseCode}
use Rattle.es_lexer.specs.declared.numbers.Base.TheVariants.{Decimal as DecimalCode, Octal as OctalCode, Hexadecimal as HexadecimalCode}
use Rattle.es_lexer.specs.declared.punctuators.Punctuator.{Punctuator}

abbrev pub found_mark : Punctuator × Bor (List ℕ) → Found Punctuator
found_mark p = found p.0 p.1.now

-- a code, or a number, and what stands behind it
abbrev pub found_number : ℕ × Bor (List ℕ) → Found ℕ
found_number p = found p.0 p.1.now

-- codes at the front of others
abbrev pub found_codes : Bor (List ℕ) × Bor (List ℕ) → Found (List ℕ)
found_codes p = found p.0.now p.1.now

abbrev pub found_text : List ℕ × Bor (List ℕ) → Found (List ℕ)
found_text p = found p.0 p.1.now

-- the test of a class of codes
abbrev pub in_class : CodeClass → ℕ → Bool
in_class IdentifierPart code = is_identifier_part code
in_class DecimalDigit code = is_decimal_digit code
in_class OctalDigit code = is_octal_digit code
in_class HexDigit code = is_hex_digit code
in_class InLine code = is_in_line code

abbrev pub base_of : BaseCode → Base
base_of DecimalCode = Decimal
base_of OctalCode = Octal
base_of HexadecimalCode = Hexadecimal

abbrev pub found_value : ℤ × Bor (List ℕ) → Found ℤ
found_value p = found p.0 p.1.now

abbrev pub hex_number : List ℕ → ℕ
hex_number digits = number_in 16 (map digit_value digits)
