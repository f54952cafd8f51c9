-- What is read of tokens as an expression (ECMA-262 second edition, section 11, in this profile): as long
-- as it can be.
use Rattle.std.specs.Prelude.{◌≡◌, ℕ, Bool, true, false, ◌+◌, ◌≤◌, ◌<◌, List, [], ◌++◌, length, MatchOption, slice_range, min}
use Rattle.es_expressions.specs.Phrases.{Phrase, spelled}
use Rattle.es_expressions.specs.Grammar.{IsExpression, level, is_target}
use Rattle.es_expressions.specs.Trees.{depth}
use Rattle.es_expressions.specs.Nodes.{NodeRow, IsTreeAt}
use Rattle.es_expressions.specs.Meaning.{tree_of}
use Rattle.es_expressions.specs.declared.lexemes.Lexeme.{Lexeme}
use Rattle.es_expressions.specs.declared.expressions.Extent.{Extent}
use Rattle.es_expressions.specs.declared.expressions.Extent.TheVariants.{WithCommas, WithoutCommas}
use Rattle.es_expressions.specs.declared.roles.Joint.{Joint}
use Rattle.es_expressions.specs.declared.roles.Joint.TheVariants.{Dot, Key, Call, Step, Operator, Choice, Assignment, Comma}
use Rattle.es_expressions.specs.declared.expressions.Found.{Found}
use Rattle.es_expressions.specs.declared.expressions.Reading.{Reading}

-- the least level of what is read
abbrev pub least : Extent → ℕ
least WithCommas = 1
least WithoutCommas = 2

-- whether a token that does this may go on with a whole expression, as `,` may only where a list with
-- commas is read
abbrev pub goes_on_with : Extent → Joint → Bool
goes_on_with extent Dot = true
goes_on_with extent Key = true
goes_on_with extent Call = true
goes_on_with extent Step = true
goes_on_with extent (Operator n) = true
goes_on_with extent Choice = true
goes_on_with extent Assignment = true
goes_on_with WithCommas Comma = true
goes_on_with extent _ = false

-- the tokens are those of an expression of at least this level
pub record IsWhole (base : ℕ) (tokens : List Lexeme) (e : Phrase) : Type 0 where
  pub expression : IsExpression e
  pub fits : base ≤ level e
  pub is_spelled : spelled e [] ≡ tokens

-- an expression of at least this level begins with the tokens
pub record Begins (base : ℕ) (tokens : List Lexeme) : Type 0 where
  pub more : List Lexeme
  pub whole_phrase : Phrase
  pub whole : IsWhole base (tokens ++ more) whole_phrase

-- what is told of an expression: the number of its tree, how deep its nodes are nested, where more than
-- 64 levels count as 65, and whether it is a name or a member and not in parentheses
pub record Tells (e : Phrase) (rows : List NodeRow) (found : Found) : Type 0 where
  pub tree : IsTreeAt (tree_of e) rows found.node
  pub height : found.height ≡ min 65 (depth (tree_of e))
  pub target : found.is_target ≡ is_target e

-- what is read from a place on ends at the first token with which no expression goes on, and is told of
-- where it is an expression
pub record IsReading (base : ℕ) (tokens : List Lexeme) (place : ℕ) (rows : List NodeRow)
    (reading : Reading) : Type 0 where
  pub from : place ≤ reading.«end»
  pub within : reading.«end» ≤ length tokens
  pub goes_on : Begins base (slice_range tokens place reading.«end»)
  pub no_more : reading.«end» < length tokens → Begins base (slice_range tokens place (reading.«end» + 1)) → ⊥
  pub found : MatchOption reading.found
      ((e : Phrase) → IsWhole base (slice_range tokens place reading.«end») e → ⊥)
      (λ f. (e : Phrase) × IsWhole base (slice_range tokens place reading.«end») e × Tells e rows f)
