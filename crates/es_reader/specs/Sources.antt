-- Programs of texts, and where a text is none (ECMA-262 second edition, section 14, in this profile; the place that
-- is told and the limit of 64 levels are this project's own).
use Rattle.std.specs.Prelude.{◌≡◌, ◌⊎◌, ℕ, ◌<◌, ◌≤◌, List, length, slice_get}
use Rattle.std.specs.Option.{option_map_or}
use Rattle.es_lexer.specs.Tokens.{Tokens, IsBadAt as NoTokenAt}
use Rattle.es_lexer.specs.declared.token_types.Token.{Token}
use Rattle.es_lexer.specs.declared.token_types.LexRefusal.{LexRefusal}
use Rattle.es_lexer.specs.declared.token_types.LexRefusal.TheVariants.{Bad as NoTokens, NoMemory as NoMemoryForTokens}
use Rattle.es_expressions.specs.Sources.{AreLexemes}
use Rattle.es_expressions.specs.declared.lexemes.Lexeme.{Lexeme}
use Rattle.es_reader.specs.declared.sources.SyntaxFault.{SyntaxFault}
use Rattle.es_reader.specs.declared.sources.SyntaxFault.TheVariants.{Bad, NoMemory}
use Rattle.es_reader.specs.Statements.{Item}
use Rattle.es_reader.specs.Grammar.{IsProgram}
use Rattle.es_reader.specs.Levels.{program_levels}
use Rattle.es_reader.specs.Programs.{IsBadAt as NoProgramAt, ToldProgram, Tells}

-- these are the tokens of the text, each with what its codes spell
abbrev pub AreLexemesOf : List ℕ → List Lexeme → Type 0
AreLexemesOf text lexemes = (tokens : List Token) × Tokens text tokens × AreLexemes text tokens lexemes

-- the text is a program of at most 64 levels, and this is told of it
pub record IsProgramOf (text : List ℕ) (told : ToldProgram) : Type 0 where
  pub lexemes : List Lexeme
  pub are : AreLexemesOf text lexemes
  pub items : List Item
  pub is : IsProgram lexemes items
  pub within : program_levels items ≤ 64
  pub tells : Tells items told

-- the text is a program of more than 64 levels
pub record IsTooDeep (text : List ℕ) : Type 0 where
  pub lexemes : List Lexeme
  pub are : AreLexemesOf text lexemes
  pub items : List Item
  pub is : IsProgram lexemes items
  pub deep : 64 < program_levels items

-- where in the text the token with this number begins, the first having the number 0; the text's length where there
-- is none, which is the place behind the last
abbrev pub place_in_text : List ℕ → List Lexeme → ℕ → ℕ
place_in_text text lexemes place = option_map_or (λ lexeme. lexeme.start) (slice_get lexemes place) (length text)

-- the place that is told of a text that is no program: the first at which no token stands; or else, where the text
-- has tokens, the start of the first with which no program goes on, or the text's end where it ends too early
abbrev pub IsBad : List ℕ → ℕ → Type 0
IsBad text place =
    NoTokenAt text place
    ⊎ ((lexemes : List Lexeme) × AreLexemesOf text lexemes
    × (at : ℕ) × NoProgramAt lexemes at × (place ≡ place_in_text text lexemes at))

-- the fault of a text without tokens
abbrev pub fault_of : LexRefusal → SyntaxFault
fault_of (NoTokens place) = Bad place
fault_of NoMemoryForTokens = NoMemory
