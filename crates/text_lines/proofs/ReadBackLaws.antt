-- What is read back of a printed line.
use Rattle.std.proofs.Common.{◌≡◌, ℕ, ◌+◌, ◌*◌, ◌/◌, ◌%◌, ◌==◌, ◌<◌, ◌≤◌, Bool, true, false, cond, List, [], ◌∷◌, ◌++◌, length, refl, ap, ◌∙◌, arith, codes}
use Rattle.std.specs.List.{join_with_byte, slice_split}
use Rattle.std.proofs.lemmas.List.Splits.{join_with_byte-slice_split, length-slice_split}
use Rattle.std.proofs.lemmas.Bool.Decides.{nat_tests}
use Rattle.std.proofs.lemmas.List.Elements.{All-head, All-tail}
use Rattle.bml_bytes.specs.Codes.{AreBytes}
use Rattle.bml_bytes.specs.Escapes.{escaped, is_escaped, upper_hex_digit}
use Rattle.bml_bytes.specs.declared.line_fields.Escapes.TheVariants.{Controls}
use Rattle.bml_bytes.specs.Numerals.{decimal_field}
use Rattle.text_lines.specs.ReadBack.{is_upper_hex, upper_hex_value, unescaped, signed_field, text_of_fields, text_with}

of_pieces : (x y width height color size : List ℕ) (pieces : List (List ℕ)) → 1 ≤ length pieces → text_of_fields (codes "text" ∷ x ∷ y ∷ width ∷ height ∷ color ∷ size ∷ pieces) ≡ text_with (signed_field x) (signed_field y) (decimal_field width) (decimal_field size) (join_with_byte 32 pieces)
of_pieces x y width height color size [] some = absurd (omega arith)
of_pieces x y width height color size (first ∷ more) some = refl

abbrev Fields_of : List ℕ → List (List ℕ)
Fields_of bytes = slice_split (λ other. other == 32) bytes

pub all_fields : (line x y width height color size bytes a b c d e : List ℕ) → Fields_of line ≡ x ∷ Fields_of a → Fields_of a ≡ y ∷ Fields_of b → Fields_of b ≡ width ∷ Fields_of c → Fields_of c ≡ height ∷ Fields_of d → Fields_of d ≡ color ∷ Fields_of e → Fields_of e ≡ size ∷ Fields_of bytes → text_of_fields (codes "text" ∷ Fields_of line) ≡ text_with (signed_field x) (signed_field y) (decimal_field width) (decimal_field size) bytes
all_fields line x y width height color size bytes a b c d e x-is y-is width-is height-is color-is size-is =
    let whole : Fields_of line ≡ x ∷ y ∷ width ∷ height ∷ color ∷ size ∷ Fields_of bytes =
    x-is ∙ ap (λ more. x ∷ more) (y-is ∙ ap (λ more. y ∷ more) (width-is ∙ ap (λ more. width ∷ more) (height-is ∙ ap (λ more. height ∷ more) (color-is ∙ ap (λ more. color ∷ more) size-is)))) in
    ap (λ fields. text_of_fields (codes "text" ∷ fields)) whole
    ∙ of_pieces x y width height color size (Fields_of bytes) (omega (arith, length-slice_split (λ (other : ℕ). other == 32) bytes))
    ∙ ap (text_with (signed_field x) (signed_field y) (decimal_field width) (decimal_field size)) (join_with_byte-slice_split 32 bytes)

-- ---- bytes

plain : (a : ℕ) (rest : List ℕ) → (a == 37) ≡ false → unescaped (a ∷ rest) ≡ a ∷ unescaped rest
unfolding unescaped
plain a [] other = refl
plain a (b ∷ []) other = refl
plain a (b ∷ c ∷ rest) other = rw other refl

digit : (d : ℕ) → d < 16 → (is_upper_hex (upper_hex_digit d) ≡ true) × (upper_hex_value (upper_hex_digit d) ≡ d)
digit d small = grind (arith, nat_tests)

hex : (a : ℕ) (rest : List ℕ) → a < 256 → unescaped (37 ∷ upper_hex_digit (a / 16) ∷ upper_hex_digit (a % 16) ∷ rest) ≡ a ∷ unescaped rest
unfolding unescaped
hex a rest small =
    let high = digit (a / 16) (omega arith) in
    let low = digit (a % 16) (omega arith) in
    let whole : a / 16 * 16 + a % 16 ≡ a = omega arith in
    rw (high.0, low.0, high.1, low.1, whole) refl

first_back : (a : ℕ) (rest : List ℕ) (b : Bool) → is_escaped Controls a ≡ b → a < 256 → unescaped (cond b (codes "%" ++ upper_hex_digit (a / 16) ∷ upper_hex_digit (a % 16) ∷ []) (a ∷ []) ++ rest) ≡ a ∷ unescaped rest
first_back a rest true e small = hex a rest small
first_back a rest false e small =
    let other : (a == 37) ≡ false = grind (arith, nat_tests) in
    plain a rest other

pub read_back : (bytes : List ℕ) → AreBytes bytes → unescaped (escaped Controls bytes) ≡ bytes
unfolding unescaped
read_back [] are = refl
read_back (a ∷ bytes) are =
    first_back a (escaped Controls bytes) (is_escaped Controls a) refl (All-head (λ (b : ℕ). b < 256) a bytes are)
    ∙ ap (λ more. a ∷ more) (read_back bytes (All-tail (λ (b : ℕ). b < 256) a bytes are))
