-- A device of the proofs: what the values that the reader's code keeps stand for.
use Rattle.std.specs.Prelude.{ℕ, Bool, List}
use Rattle.std.specs.Borrow.{Bor}
use Rattle.bml_reader.specs.Bytes.{is_white, is_name_byte, is_text_byte, is_value_byte, is_doctype_byte, is_digit, is_hex_digit}
use Rattle.bml_reader.specs.devices.Lexing.{Found, found, Written}
use Rattle.bml_reader.specs.declared.bytes.ByteClass.{ByteClass}
use Rattle.bml_reader.specs.declared.bytes.ByteClass.TheVariants.{White, NameByte, TextByte, ValueByte, DoctypeByte, Digit, HexDigit}

-- the test of a class of bytes
abbrev pub in_class : ByteClass → ℕ → Bool
in_class White byte = is_white byte
in_class NameByte byte = is_name_byte byte
in_class TextByte byte = is_text_byte byte
in_class (ValueByte quote) byte = is_value_byte quote byte
in_class DoctypeByte byte = is_doctype_byte byte
in_class Digit byte = is_digit byte
in_class HexDigit byte = is_hex_digit byte

-- bytes at the front of others
abbrev pub found_bytes : Bor (List ℕ) × Bor (List ℕ) → Found (List ℕ)
found_bytes p = found p.0.now p.1.now

-- an attribute as it is written, at the front of other bytes
abbrev pub found_written : Bor (List ℕ) × Bor (List ℕ) × Bor (List ℕ) → Found Written
found_written p = found (record { name = p.0.now; value = p.1.now }) p.2.now

abbrev pub found_flag : Bool × Bor (List ℕ) → Found Bool
found_flag p = found p.0 p.1.now
