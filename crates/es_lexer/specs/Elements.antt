-- The lexical grammar of a script (ECMA-262 second edition, section 7, in this profile). A text is
-- input elements end to end: white space, line terminators, comments and tokens, each the longest
-- that stands at its place. A line terminator is an element of its own, and not white space, since
-- whether one stands in front of a token matters to the grammar of programs. Where something stands
-- at a place, `behind` is the rest of the text behind it.
use Rattle.std.specs.Prelude.{◌≡◌, ◌≢◌, ℕ, ◌≤◌, Bool, true, false, pos, List, [], ◌∷◌, ◌++◌, length, map, Option, Some, None, codes}
use Rattle.std.specs.List.{list_any, flat_map}
use Rattle.es_lexer.specs.Codes.{is_white, is_line_terminator, is_identifier, is_identifier_part}
use Rattle.es_lexer.specs.Spellings.{word_spelling, mark_spelling}
use Rattle.es_lexer.specs.Numbers.{Base, base_mark, number_written, IsNumber}
use Rattle.es_lexer.specs.Literals.{Character, code_meant, inside_spelling, IsLiteral}
use Rattle.es_lexer.specs.declared.words.ReservedWord.{ReservedWord}
use Rattle.es_lexer.specs.declared.punctuators.Punctuator.{Punctuator}
use Rattle.es_lexer.specs.declared.token_types.TokenKind.{TokenKind}
use Rattle.es_lexer.specs.declared.token_types.TokenKind.TheVariants.{Name, Word, Mark, Number, Words}

-- a code of white space; a line terminator; `//` and what stands behind it on the line; `/*`, what
-- stands up to the first `*/`, and that; an identifier that isn't reserved; a reserved word; a
-- punctuator; a number by its base and the digits behind the base's mark; a text literal by its
-- quote and what stands between the quotes
pub data InputElement : Type 0 where
  WhiteSpace : (code : ℕ) → InputElement
  LineTerminator : (code : ℕ) → InputElement
  LineComment : (inside : List ℕ) → InputElement
  BlockComment : (inside : List ℕ) → InputElement
  Identifier : (name : List ℕ) → InputElement
  Reserved : (word : ReservedWord) → InputElement
  Punctuation : (mark : Punctuator) → InputElement
  Numeral : (base : Base) → (digits : List ℕ) → InputElement
  Literal : (quote : ℕ) → (characters : List Character) → InputElement

abbrev pub spelling : InputElement → List ℕ
spelling (WhiteSpace code) = code ∷ []
spelling (LineTerminator code) = code ∷ []
spelling (LineComment inside) = codes "//" ++ inside
spelling (BlockComment inside) = codes "/*" ++ (inside ++ codes "*/")
spelling (Identifier name) = name
spelling (Reserved word) = word_spelling word
spelling (Punctuation mark) = mark_spelling mark
spelling (Numeral base digits) = base_mark base ++ digits
spelling (Literal quote characters) = quote ∷ (inside_spelling characters ++ quote ∷ [])

-- elements end to end
abbrev pub text_of : List InputElement → List ℕ
text_of elements = flat_map spelling elements

-- the mark stands behind these codes for the first time: wherever it stands in the codes and the mark
-- behind them, it stands at their very end
abbrev pub EndsAtFirst : List ℕ → List ℕ → Type 0
EndsAtFirst mark inside =
    (before behind : List ℕ) → inside ++ mark ≡ before ++ (mark ++ behind) → behind ≡ []

abbrev pub IsElement : InputElement → Type 0
IsElement (WhiteSpace code) = is_white code ≡ true
IsElement (LineTerminator code) = is_line_terminator code ≡ true
IsElement (LineComment inside) = list_any is_line_terminator inside ≡ false
IsElement (BlockComment inside) = EndsAtFirst (codes "*/") inside
IsElement (Identifier name) =
    (is_identifier name ≡ true) × ((word : ReservedWord) → name ≢ word_spelling word)
IsElement (Reserved word) = Unit {0}
IsElement (Punctuation mark) = Unit {0}
IsElement (Numeral base digits) = IsNumber base digits
IsElement (Literal quote characters) = IsLiteral quote characters

-- no digit, letter, `$` or `_` stands directly behind a number, which later editions of the standard
-- ask for too, and no point, since there are no fractions here (this project's own)
abbrev pub EndsNumber : List ℕ → Type 0
EndsNumber [] = Unit {0}
EndsNumber (code ∷ more) = (is_identifier_part code ≡ false) × (code ≢ 46)

-- these codes may stand directly behind the element
abbrev pub MayStandBefore : InputElement → List ℕ → Type 0
MayStandBefore (Numeral base digits) behind = EndsNumber behind
MayStandBefore _ behind = Unit {0}

-- the element stands at a place, where these codes stand behind it
abbrev pub Stands : InputElement → List ℕ → Type 0
Stands element behind = IsElement element × MayStandBefore element behind

-- and of all that stand there, it is the longest
pub record IsLongest (element : InputElement) (behind : List ℕ) : Type 0 where
  pub stands : Stands element behind
  pub longest : (other : InputElement) (more : List ℕ)
      → spelling other ++ more ≡ spelling element ++ behind
      → Stands other more → length (spelling other) ≤ length (spelling element)

-- each is the longest at its place, where they stand end to end and these codes behind them
abbrev pub AreLongest : List InputElement → List ℕ → Type 0
AreLongest [] behind = Unit {0}
AreLongest (element ∷ elements) behind =
    IsLongest element (text_of elements ++ behind) × AreLongest elements behind

-- the kind of an element that is a token
abbrev pub kind_of : InputElement → Option TokenKind
kind_of (WhiteSpace code) = None
kind_of (LineTerminator code) = None
kind_of (LineComment inside) = None
kind_of (BlockComment inside) = None
kind_of (Identifier name) = Some Name
kind_of (Reserved word) = Some Word
kind_of (Punctuation mark) = Some Mark
kind_of (Numeral base digits) = Some (Number (pos (number_written base digits)))
kind_of (Literal quote characters) = Some (Words (map code_meant characters))

-- a line terminator is in the element, and it isn't a token
abbrev pub has_line_break : InputElement → Bool
has_line_break (LineTerminator code) = true
has_line_break (BlockComment inside) = list_any is_line_terminator inside
has_line_break _ = false
