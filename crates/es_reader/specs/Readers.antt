-- Readers of programs: which programs texts are (ECMA-262 second edition, section 14, in this
-- profile). What a document does is told by a reader; by the grammar there is one.
use Rattle.std.specs.Prelude.{◌≡◌, ◌⊎◌, ℕ, ◌≤◌, List, Option, Some, None}
use Rattle.es_expressions.specs.declared.lexemes.Lexeme.{Lexeme}
use Rattle.es_reader.specs.Statements.{Item}
use Rattle.es_reader.specs.Grammar.{IsProgram}
use Rattle.es_reader.specs.Levels.{program_levels}
use Rattle.es_reader.specs.Sources.{AreLexemesOf, IsBad, IsTooDeep}

-- of each text the program that it is said to be, or none
abbrev pub Reader : Type 0
Reader = List ℕ → Option (List Item)

-- the text is this program, of at most 64 levels
pub record IsWritten (text : List ℕ) (items : List Item) : Type 0 where
  pub lexemes : List Lexeme
  pub are : AreLexemesOf text lexemes
  pub is : IsProgram lexemes items
  pub within : program_levels items ≤ 64

-- the text is a program of more levels, or it is bad at some place
abbrev pub IsNoProgram : List ℕ → Type 0
IsNoProgram text = IsTooDeep text ⊎ ((place : ℕ) × IsBad text place)

-- each text is said to be the program that it is, and none where it is none
pub record IsReader (read : Reader) : Type 0 where
  pub program : (text : List ℕ) (items : List Item) → read text ≡ Some items → IsWritten text items
  pub none : (text : List ℕ) → read text ≡ None → IsNoProgram text
