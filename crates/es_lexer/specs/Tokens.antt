-- The tokens of a script, and where it has none (ECMA-262 second edition, section 7; the place that
-- is told of a text without tokens is this project's own).
use Rattle.std.specs.Prelude.{◌≡◌, ◌≢◌, ℕ, ◌+◌, ◌<◌, ◌≤◌, List, [], ◌∷◌, ◌++◌, length, slice_range, Some, None}
use Rattle.std.specs.List.{list_any}
use Rattle.es_lexer.specs.Elements.{InputElement, spelling, text_of, IsElement, Stands, AreLongest, kind_of, has_line_break}
use Rattle.es_lexer.specs.declared.token_types.Token.{Token}
use Rattle.es_lexer.specs.declared.token_types.TokenKind.{TokenKind}

-- the elements are a gap between tokens: none of them is a token
abbrev pub IsGap : List InputElement → Type 0
IsGap [] = Unit {0}
IsGap (element ∷ gap) = (kind_of element ≡ None) × IsGap gap

-- the elements, the first of which begins at this place, are a gap, an element that is the token,
-- and more
pub record IsFirstToken (place : ℕ) (elements : List InputElement) (token : Token)
    (more : List InputElement) : Type 0 where
  pub gap : List InputElement
  pub element : InputElement
  pub end_to_end : elements ≡ gap ++ (element ∷ more)
  pub between : IsGap gap
  pub kind : kind_of element ≡ Some token.kind
  pub start : token.start ≡ place + length (text_of gap)
  pub stop : token.«end» ≡ token.start + length (spelling element)
  pub after_break : token.after_break ≡ list_any has_line_break gap

-- the tokens among the elements, each behind a gap, and a gap behind the last one
abbrev pub TokensAmong : ℕ → List InputElement → List Token → Type 0
TokensAmong place elements [] = IsGap elements
TokensAmong place elements (token ∷ tokens) =
    (more : List InputElement)
    × IsFirstToken place elements token more × TokensAmong token.«end» more tokens

-- the tokens of a text
pub record Tokens (text : List ℕ) (tokens : List Token) : Type 0 where
  pub elements : List InputElement
  pub spelled : text ≡ text_of elements
  pub longest : AreLongest elements []
  pub among : TokensAmong 0 elements tokens

-- the first place at which no token, white space, line terminator or comment stands
pub record IsBadAt (text : List ℕ) (place : ℕ) : Type 0 where
  pub elements : List InputElement
  pub rest : List ℕ
  pub spelled : text ≡ text_of elements ++ rest
  pub longest : AreLongest elements rest
  pub place_is : place ≡ length (text_of elements)
  pub some : rest ≢ []
  pub nothing : (element : InputElement) (behind : List ℕ)
      → rest ≡ spelling element ++ behind → Stands element behind → ⊥

-- these codes are what a token of the kind is
pub record IsSpelled (kind : TokenKind) (spelled : List ℕ) : Type 0 where
  pub element : InputElement
  pub is_element : IsElement element
  pub kind_is : kind_of element ≡ Some kind
  pub spelled_is : spelled ≡ spelling element

-- the tokens stand in the text in their order, behind this place, and each is its part of the text
abbrev pub StandInOrder : List ℕ → ℕ → List Token → Type 0
StandInOrder text place [] = place ≤ length text
StandInOrder text place (token ∷ tokens) =
    (place ≤ token.start) × (token.start < token.«end»)
    × IsSpelled token.kind (slice_range text token.start token.«end»)
    × StandInOrder text token.«end» tokens
