-- A printed line of a text, and what is read back of it.
use Rattle.std.proofs.Common.{◌≡◌, ℕ, suc, ◌==◌, ◌<◌, ◌^◌, true, false, ℤ, pos, negsuc, ◌-ℤ◌, List, [], ◌∷◌, ◌++◌, Some, option_map, refl, ap, ◌∙◌, All, arith}
use Rattle.std.specs.List.{AllPass, slice_split}
use Rattle.std.proofs.lemmas.Bool.Decides.{nat_tests}
use Rattle.std.proofs.lemmas.Int.{ints}
use Rattle.std.proofs.lemmas.List.Elements.{All-cons, All-head}
use Rattle.std.proofs.lemmas.List.Splits.{slice_split_at}
use Rattle.std.specs.Int.Signed.{mag}
use Rattle.bml_bytes.specs.Codes.{AreBytes, codes as codes_of}
use Rattle.bml_bytes.specs.Escapes.{escaped}
use Rattle.bml_bytes.specs.declared.line_fields.Escapes.TheVariants.{Controls}
use Rattle.bml_bytes.specs.Numerals.{decimal_digits, decimal_field, is_decimal_digit, signed_decimal_digits}
use Rattle.text_lines.specs.ReadBack.{signed_field, text_in, text_line, text_with}
use Rattle.text_lines.proofs.ReadBackLaws.{all_fields, read_back}

abbrev fields_in : List ℕ → List (List ℕ)
fields_in bytes = slice_split (λ other. other == 32) bytes

-- what printed numbers are
module _ (digits-pass : (number : ℕ) → AllPass is_decimal_digit (decimal_digits number)) (digits-back : (number : ℕ) → number < 2 ^ 32 → decimal_field (decimal_digits number) ≡ Some number) where
  no_space : (byte : ℕ) → is_decimal_digit byte ≡ true → (byte == 32) ≡ false
  no_space byte digit = grind (arith, nat_tests)

  no_minus : (byte : ℕ) → is_decimal_digit byte ≡ true → (byte == 45) ≡ false
  no_minus byte digit = grind (arith, nat_tests)

  abbrev HasNoSpace : List ℕ → Type 0
  HasNoSpace bytes = All (λ byte. (byte == 32) ≡ false) bytes

  digits-plain : (number : ℕ) → HasNoSpace (decimal_digits number)
  digits-plain number = λ k d within. no_space _ (digits-pass number k d within)

  signed-plain : (number : ℤ) → HasNoSpace (signed_decimal_digits number)
  signed-plain (pos number) = digits-plain number
  signed-plain (negsuc number) = All-cons (λ (byte : ℕ). (byte == 32) ≡ false) 45 (decimal_digits (suc number)) refl (digits-plain (suc number))

  plain_back : (digits : List ℕ) (number : ℕ) → AllPass is_decimal_digit digits → decimal_field digits ≡ Some number → signed_field digits ≡ Some (pos number)
  unfolding decimal_field
  plain_back [] number pass back = cc
  plain_back (first ∷ digits) number pass back =
      let other : (first == 45) ≡ false = no_minus first (All-head (λ (byte : ℕ). is_decimal_digit byte ≡ true) first digits pass) in
      rw other (ap (option_map pos) back)

  signed-back : (number : ℤ) → mag number < 2 ^ 31 → signed_field (signed_decimal_digits number) ≡ Some number
  signed-back (pos number) small = plain_back (decimal_digits number) number (digits-pass number) (digits-back number (omega arith))
  signed-back (negsuc number) small =
      let same : pos 0 -ℤ pos (suc number) ≡ negsuc number = omega (arith, ints) in
      ap (option_map (λ (n : ℕ). pos 0 -ℤ pos n)) (digits-back (suc number) (omega arith)) ∙ ap Some same

  cut : (field more : List ℕ) → HasNoSpace field → fields_in (field ++ 32 ∷ more) ≡ field ∷ fields_in more
  cut field more plain = slice_split_at (λ other. other == 32) field 32 more plain refl

  pub line_back : (x y height color : ℤ) (width size : ℕ) (bytes : List ℕ) → AreBytes bytes → mag x < 2 ^ 31 → mag y < 2 ^ 31 → width < 2 ^ 32 → size < 2 ^ 32 → text_in (text_line x y width height color size bytes) ≡ Some (record { x = x; y = y; width = width; size = size; text = codes_of bytes })
  line_back x y height color width size bytes are near-x near-y narrow small =
      let x-is = signed_decimal_digits x in
      let y-is = signed_decimal_digits y in
      let width-is = decimal_digits width in
      let height-is = signed_decimal_digits height in
      let color-is = signed_decimal_digits color in
      let size-is = decimal_digits size in
      let shown = escaped Controls bytes in
      let e = size-is ++ 32 ∷ shown in
      let d = color-is ++ 32 ∷ e in
      let c = height-is ++ 32 ∷ d in
      let b = width-is ++ 32 ∷ c in
      let a = y-is ++ 32 ∷ b in
      let fields : text_in (text_line x y width height color size bytes) ≡ text_with (signed_field x-is) (signed_field y-is) (decimal_field width-is) (decimal_field size-is) shown =
      all_fields (x-is ++ 32 ∷ a) x-is y-is width-is height-is color-is size-is shown a b c d e (cut x-is a (signed-plain x)) (cut y-is b (signed-plain y)) (cut width-is c (digits-plain width)) (cut height-is d (signed-plain height)) (cut color-is e (signed-plain color)) (cut size-is shown (digits-plain size)) in
      fields ∙ rw (signed-back x near-x, signed-back y near-y, digits-back width narrow, digits-back size small, read_back bytes are) refl
