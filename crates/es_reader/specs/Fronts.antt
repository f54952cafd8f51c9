-- A device of the proofs: fronts of functions that stand among tokens, and what is kept of them.
use Rattle.std.specs.Prelude.{◌≡◌, ◌⊎◌, ℕ, ◌+◌, ◌≤◌, ◌<◌, true, false, List, [], ◌∷◌, ◌++◌, Some, length, drop, slice_get}
use Rattle.std.specs.List.{IsDistinct}
use Rattle.bml_bytes.specs.Words.{is_same}
use Rattle.es_expressions.specs.declared.lexemes.Lexeme.{Lexeme}
use Rattle.es_lexer.specs.declared.punctuators.Punctuator.TheVariants.{CloseParenthesis, OpenBrace, Comma}
use Rattle.es_reader.specs.Statements.{FurtherName, Parameters, spelled_parameters}
use Rattle.es_reader.specs.Statements.Parameters.{NoParameters, SomeParameters}
use Rattle.es_reader.specs.Parts.{IsThere}
use Rattle.es_reader.specs.Grammar.{IsMark, IsName, name_of, AreParameters, parameter_names}
use Rattle.es_reader.specs.Openings.{Front, IsFront, spelled_front}
use Rattle.es_reader.specs.Programs.{is_among}
use Rattle.es_reader.specs.declared.function_fronts.FrontRead.{FrontRead}
use Rattle.es_reader.specs.declared.function_fronts.ParametersRead.{ParametersRead}

-- a name that is a new one
pub record IsOneName (before after : List (List ℕ)) (token : Lexeme) : Type 0 where
  pub is : IsName token
  pub fresh : is_among (name_of token.symbol) before ≡ false
  pub added : after ≡ before ++ (name_of token.symbol ∷ [])

pub record AreParametersAt (tokens : List Lexeme) (place : ℕ) (x : Parameters) (read : ParametersRead) : Type 0 where
  pub from : place ≤ read.behind
  pub within : read.behind ≤ length tokens
  pub are : AreParameters x
  pub differ : IsDistinct is_same (parameter_names x)
  pub is_spelled : spelled_parameters x (drop read.behind tokens) ≡ drop place tokens
  pub names : read.names ≡ parameter_names x

-- the front of a function stands there, and this is kept of it
pub record IsFrontAt (tokens : List Lexeme) (place : ℕ) (f : Front) (read : FrontRead) : Type 0 where
  pub from : place < read.behind
  pub within : read.behind ≤ length tokens
  pub is : IsFront f
  pub is_spelled : spelled_front f (drop read.behind tokens) ≡ drop place tokens
  pub name : read.name ≡ name_of f.name.symbol
  pub names : read.names ≡ parameter_names f.parameters
  pub parameters : read.parameters ≡ length (parameter_names f.parameters)

-- behind all parameters a `)` stands, or where there are some at least no comma
abbrev pub ParametersEnd : List Lexeme → ℕ → Parameters → Type 0
ParametersEnd tokens behind NoParameters = IsThere (IsMark CloseParenthesis) tokens behind
ParametersEnd tokens behind (SomeParameters first others) = IsThere (IsMark Comma) tokens behind → ⊥

-- no name stands there that isn't among these
abbrev pub NoNewName : List (List ℕ) → List Lexeme → ℕ → Type 0
NoNewName names tokens place =
    (t : Lexeme) → slice_get tokens place ≡ Some t → IsName t → is_among (name_of t.symbol) names ≡ true

-- no first parameter stands there and no `)`, or behind some and a comma no new one
pub record NoFirstParameter (tokens : List Lexeme) (place bad : ℕ) : Type 0 where
  pub at_place : bad ≡ place
  pub no_name : NoNewName [] tokens place
  pub no_close : IsThere (IsMark CloseParenthesis) tokens place → ⊥

pub record NoFurtherParameter (tokens : List Lexeme) (place bad : ℕ) : Type 0 where
  pub first : Lexeme
  pub others : List FurtherName
  pub read : ParametersRead
  pub are : AreParametersAt tokens place (SomeParameters first others) read
  pub comma : IsThere (IsMark Comma) tokens read.behind
  pub at_place : bad ≡ read.behind + 1
  pub no_name : NoNewName (parameter_names (SomeParameters first others)) tokens bad

abbrev pub ParametersBad : List Lexeme → ℕ → ℕ → Type 0
ParametersBad tokens place bad = NoFirstParameter tokens place bad ⊎ NoFurtherParameter tokens place bad

-- a `)` and a `{` stand there, behind which the body is to come
pub record BodyOpens (tokens : List Lexeme) (place : ℕ) : Type 0 where
  pub close_mark : IsThere (IsMark CloseParenthesis) tokens place
  pub open_mark : IsThere (IsMark OpenBrace) tokens (place + 1)

-- no `)` stands there, or no `{` behind it
abbrev pub LacksBody : List Lexeme → ℕ → ℕ → Type 0
LacksBody tokens place bad =
    ((bad ≡ place) × (IsThere (IsMark CloseParenthesis) tokens place → ⊥))
    ⊎ (IsThere (IsMark CloseParenthesis) tokens place × (bad ≡ place + 1)
    × (IsThere (IsMark OpenBrace) tokens (place + 1) → ⊥))

-- this is kept of a front, of its name, its parameters and the place behind its `{`
pub record IsFrontOf (name : List ℕ) (parameters : ParametersRead) (behind : ℕ) (read : FrontRead) : Type 0 where
  pub name_is : read.name ≡ name
  pub names : read.names ≡ parameters.names
  pub count : read.parameters ≡ length parameters.names
  pub behind_is : read.behind ≡ behind
