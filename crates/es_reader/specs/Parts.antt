-- A device of the proofs: parts of a program that stand among tokens, and what is kept of them.
use Rattle.std.specs.Prelude.{◌≡◌, ◌⊎◌, ℕ, ◌+◌, ◌≤◌, ◌<◌, true, List, [], ◌∷◌, ◌++◌, Option, Some, None, length, drop, slice_get, slice_range, min}
use Rattle.es_lexer.specs.declared.punctuators.Punctuator.TheVariants.{CloseBrace, Semicolon}
use Rattle.es_expressions.specs.Phrases.{Phrase, spelled as spelled_expression, start_of, end_of}
use Rattle.es_expressions.specs.Grammar.{is_target}
use Rattle.es_expressions.specs.Beginnings.{Begins, IsWhole, least}
use Rattle.es_expressions.specs.Meaning.{tree_of}
use Rattle.es_expressions.specs.Nodes.{NodeRow, IsTreeAt}
use Rattle.es_expressions.specs.declared.expressions.Extent.{Extent}
use Rattle.es_expressions.specs.declared.lexemes.Lexeme.{Lexeme}
use Rattle.es_reader.specs.Statements.{spelled_end}
use Rattle.es_reader.specs.Grammar.{IsMark, IsOf, IsOnLine, GoesOn}
use Rattle.es_reader.specs.Meaning.{end_with}
use Rattle.es_reader.specs.Levels.{levels_of}
use Rattle.es_reader.specs.declared.faults.PartFault.{PartFault}
use Rattle.es_reader.specs.declared.faults.PartFault.TheVariants.{Bad, NoMemory}
use Rattle.es_reader.specs.declared.wholes.Whole.{Whole}
use Rattle.es_reader.specs.declared.wholes.Ended.{Ended}

-- a token of this kind stands at the place
abbrev pub IsThere : (Lexeme → Type 0) → List Lexeme → ℕ → Type 0
IsThere Is tokens place = (token : Lexeme) × (slice_get tokens place ≡ Some token) × Is token

abbrev pub IfBad : PartFault → (ℕ → Type 0) → Type 0
IfBad (Bad place) P = P place
IfBad NoMemory P = Unit {0}

-- the fault is at the place, and no such token stands there
abbrev pub Lacks : (Lexeme → Type 0) → List Lexeme → ℕ → PartFault → Type 0
Lacks Is tokens place fault = IfBad fault (λ bad. (bad ≡ place) × (IsThere Is tokens place → ⊥))

-- nodes were added behind the others, or none
pub record MayGrow (before after : List NodeRow) : Type 0 where
  pub more : List NodeRow
  pub added : after ≡ before ++ more

-- the expression stands there and doesn't go on, and this is kept of it
pub record IsWholeAt (extent : Extent) (tokens : List Lexeme) (place : ℕ) (rows : List NodeRow) (e : Phrase)
    (whole : Whole) : Type 0 where
  pub from : place < whole.behind
  pub within : whole.behind ≤ length tokens
  pub is : IsOf extent e
  pub is_spelled : spelled_expression e (drop whole.behind tokens) ≡ drop place tokens
  pub no_more : (t : Lexeme) → slice_get tokens whole.behind ≡ Some t → GoesOn extent e t → ⊥
  pub tree : IsTreeAt (tree_of e) rows whole.node
  pub height : whole.height ≡ min 65 (levels_of e)
  pub target : whole.is_target ≡ is_target e
  pub start : whole.start ≡ start_of e
  pub stop : whole.«end» ≡ end_of e

-- an expression begins with the tokens up to the place that stops, and with one more none does; and they are none
pub record StopsIn (extent : Extent) (tokens : List Lexeme) (place stop : ℕ) : Type 0 where
  pub from : place ≤ stop
  pub within : stop ≤ length tokens
  pub goes_on : Begins (least extent) (slice_range tokens place stop)
  pub no_more : stop < length tokens → Begins (least extent) (slice_range tokens place (stop + 1)) → ⊥
  pub not_whole : (e : Phrase) → IsWhole (least extent) (slice_range tokens place stop) e → ⊥

-- a statement may end with no `;` in front of these tokens, as far as it doesn't go on
abbrev pub MayEnd : List Lexeme → Type 0
MayEnd [] = Unit {0}
MayEnd (next ∷ rest) = (IsMark CloseBrace next ⊎ (next.after_break ≡ true)) × (IsMark Semicolon next → ⊥)

abbrev pub IsEnding : Option Lexeme → List Lexeme → Type 0
IsEnding (Some semicolon) rest = IsMark Semicolon semicolon
IsEnding None rest = MayEnd rest

pub record IsEndAt (tokens : List Lexeme) (place stop : ℕ) (ended : Ended) : Type 0 where
  pub from : place ≤ ended.behind
  pub within : ended.behind ≤ length tokens
  pub semicolon : Option Lexeme
  pub is : IsEnding semicolon (drop ended.behind tokens)
  pub is_spelled : spelled_end semicolon (drop ended.behind tokens) ≡ drop place tokens
  pub stops : ended.«end» ≡ end_with stop semicolon

-- the token there is neither a `;` nor a `}`, and no line break stands in front of it
abbrev pub IsNoEnd : Lexeme → Type 0
IsNoEnd token = (IsMark Semicolon token → ⊥) × (IsMark CloseBrace token → ⊥) × IsOnLine token

abbrev pub NoEnd : List Lexeme → ℕ → PartFault → Type 0
NoEnd tokens place fault = IfBad fault (λ bad. (bad ≡ place) × IsThere IsNoEnd tokens place)

abbrev pub MayReturn : List Lexeme → Type 0
MayReturn [] = Unit {0}
MayReturn (next ∷ rest) = IsMark CloseBrace next ⊎ (next.after_break ≡ true)

abbrev pub IsReturning : Option Lexeme → List Lexeme → Type 0
IsReturning (Some semicolon) rest = IsMark Semicolon semicolon × IsOnLine semicolon
IsReturning None rest = MayReturn rest

pub record IsReturnEndAt (tokens : List Lexeme) (place stop : ℕ) (ended : Ended) : Type 0 where
  pub from : place ≤ ended.behind
  pub within : ended.behind ≤ length tokens
  pub semicolon : Option Lexeme
  pub is : IsReturning semicolon (drop ended.behind tokens)
  pub is_spelled : spelled_end semicolon (drop ended.behind tokens) ≡ drop place tokens
  pub stops : ended.«end» ≡ end_with stop semicolon

abbrev pub NoReturnEnd : List Lexeme → ℕ → Type 0
NoReturnEnd tokens place = IsThere IsNoEnd tokens place
