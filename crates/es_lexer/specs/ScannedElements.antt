-- A device of the proofs: the input element at the front of some codes. It isn't what an element is
-- (`Elements`), but how it is found: that both agree is proved.
use Rattle.std.specs.Prelude.{◌≡◌, ℕ, nat_eq, ◌==◌, Bool, not, if◌then◌else◌, List, [], ◌∷◌, ◌++◌, Option, Some, None, option_map, find, codes as ascii}
use Rattle.std.specs.Cmp.Lexicographic.{pointwise}
use Rattle.es_lexer.specs.Codes.{is_white, is_line_terminator, is_identifier_start, is_identifier_part, is_decimal_digit, is_quote}
use Rattle.es_lexer.specs.Spellings.{word_spelling}
use Rattle.es_lexer.specs.Elements.{InputElement}
use Rattle.es_lexer.specs.Elements.InputElement.{WhiteSpace, LineTerminator, LineComment, BlockComment, Identifier, Reserved, Punctuation, Numeral, Literal}
use Rattle.es_lexer.specs.Scanning.{Found, found, changed, front, behind, stripped, up_to}
use Rattle.es_lexer.specs.Munching.{mark_at}
use Rattle.es_lexer.specs.ScannedNumbers.{Digits, number_at}
use Rattle.es_lexer.specs.ScannedLiterals.{characters_at}
use Rattle.es_lexer.specs.declared.words.ReservedWord.{ReservedWord}
use Rattle.es_lexer.specs.declared.words.ReservedWord.TheVariants.{Break, Case, Catch, Class, Const, Continue, Debugger, Default, Delete, Do, Else, Enum, Export, Extends, False, Finally, For, Function, If, Import, In, New, Null, Return, Super, Switch, This, Throw, True, Try, Typeof, Var, Void, While, With}

abbrev pub all_words : List ReservedWord
all_words = Break ∷ Case ∷ Catch ∷ Class ∷ Const ∷ Continue ∷ Debugger ∷ Default ∷ Delete ∷ Do ∷ Else ∷ Enum ∷ Export ∷ Extends ∷ False ∷ Finally ∷ For ∷ Function ∷ If ∷ Import ∷ In ∷ New ∷ Null ∷ Return ∷ Super ∷ Switch ∷ This ∷ Throw ∷ True ∷ Try ∷ Typeof ∷ Var ∷ Void ∷ While ∷ With ∷ []

-- the reserved word that is spelled so
unfoldable pub word_of : List ℕ → Option ReservedWord
word_of name = find (λ word. pointwise nat_eq (word_spelling word) name) all_words

-- an identifier or a reserved word
unfoldable pub named : List ℕ → InputElement
named name = elim (word_of name) [ Some word ↦ Reserved word | None ↦ Identifier name ]

unfoldable pub name_at : List ℕ → Found InputElement
name_at codes = found (named (front is_identifier_part codes)) (behind is_identifier_part codes)

-- no line terminator
unfoldable pub is_in_line : ℕ → Bool
is_in_line code = not (is_line_terminator code)

unfoldable pub punctuation_at : List ℕ → Option (Found InputElement)
punctuation_at codes = option_map (changed Punctuation) (mark_at codes)

-- behind `/`: a comment, or a punctuator
unfoldable pub slash_at : List ℕ → Option (Found InputElement)
slash_at codes =
    elim (stripped (ascii "/") codes) [
      | Some rest ↦ Some (found (LineComment (front is_in_line rest)) (behind is_in_line rest))
      | None ↦ elim (stripped (ascii "*") codes) [
        | Some rest ↦ elim (up_to (ascii "*/") rest) [
          | Some f ↦ Some (changed BlockComment f)
          | None ↦ punctuation_at (47 ∷ codes)
        ]
        | None ↦ punctuation_at (47 ∷ codes)
      ]
    ]

unfoldable pub numeral_at : List ℕ → Option (Found InputElement)
numeral_at codes = option_map (changed (λ (d : Digits). Numeral d.base d.digits)) (number_at codes)

-- behind a quote
unfoldable pub literal_at : ℕ → List ℕ → Option (Found InputElement)
literal_at quote codes = option_map (changed (Literal quote)) (characters_at quote codes)

unfoldable pub element_at : List ℕ → Option (Found InputElement)
element_at [] = None
element_at (code ∷ codes) =
    if is_white code then Some (found (WhiteSpace code) codes)
    else (if is_line_terminator code then Some (found (LineTerminator code) codes)
    else (if is_identifier_start code then Some (name_at (code ∷ codes))
    else (if is_decimal_digit code then numeral_at (code ∷ codes)
    else (if is_quote code then literal_at code codes
    else (if code == 47 then slash_at codes
    else punctuation_at (code ∷ codes))))))

-- no comment that begins in these codes is closed
abbrev pub NoCommentIn : List ℕ → Type 0
NoCommentIn codes = (before inside : List ℕ) → codes ≡ before ++ (47 ∷ 42 ∷ inside) → up_to (ascii "*/") inside ≡ None
