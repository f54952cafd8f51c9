-- A device of the proofs: heads of statements that stand among tokens, and what is kept of them.
use Rattle.std.specs.Prelude.{◌≡◌, ◌⊎◌, ℕ, ◌≤◌, ◌<◌, List, [], Option, Some, None, length, drop, slice_get, min}
use Rattle.es_lexer.specs.declared.words.ReservedWord.TheVariants.{If as IfWord, While as WhileWord}
use Rattle.es_lexer.specs.declared.punctuators.Punctuator.{Punctuator}
use Rattle.es_lexer.specs.declared.punctuators.Punctuator.TheVariants.{Semicolon}
use Rattle.es_expressions.specs.Phrases.{Phrase}
use Rattle.es_expressions.specs.declared.expressions.Extent.TheVariants.{WithCommas}
use Rattle.es_reader.specs.ExpressionFacts.{ExpressionFacts}
use Rattle.es_reader.specs.Parts.{IsThere}
use Rattle.es_reader.specs.Stops.{FirstStops}
use Rattle.es_expressions.specs.Trees.Trees.{NoTrees}
use Rattle.es_expressions.specs.Nodes.{NodeRow, IsTreeAt}
use Rattle.es_expressions.specs.declared.lexemes.Lexeme.{Lexeme}
use Rattle.es_expressions.specs.declared.nodes.Form.{Form}
use Rattle.es_expressions.specs.declared.nodes.Form.TheVariants.{If as IfForm, While as WhileForm}
use Rattle.es_reader.specs.Statements.{First, Visitor, Head, spelled_first, spelled_visitor, spelled_part, spelled_head}
use Rattle.es_reader.specs.Grammar.{IsWord, IsMark, GoesOn, IsFirst, IsVisitor, MayBe, IsHead}
use Rattle.es_reader.specs.Meaning.{first_tree, visitor_tree, part_tree, absent, head_form, head_start, with_head}
use Rattle.es_reader.specs.Levels.{first_levels, visitor_levels, part_levels, head_levels}
use Rattle.es_reader.specs.Programs.{head_names, AreTreesOf}
use Rattle.es_reader.specs.Told.{with_names}
use Rattle.es_reader.specs.declared.heads.HeadRead.{HeadRead}
use Rattle.es_reader.specs.declared.heads.HeadPart.{HeadPart}

-- the word that begins a head of this form
abbrev pub IsTestWord : Form → Lexeme → Type 0
IsTestWord form token = (IsWord IfWord token × (form ≡ IfForm)) ⊎ (IsWord WhileWord token × (form ≡ WhileForm))

-- the head stands there, and this is kept of it
pub record IsHeadAt (tokens : List Lexeme) (place : ℕ) (rows : List NodeRow) (h : Head)
    (before after : List (List ℕ)) (read : HeadRead) : Type 0 where
  pub from : place < read.behind
  pub within : read.behind ≤ length tokens
  pub is : IsHead h
  pub is_spelled : spelled_head h (drop read.behind tokens) ≡ drop place tokens
  pub form : read.form ≡ head_form h
  pub start : read.start ≡ head_start h
  pub trees : AreTreesOf (with_head h NoTrees) rows read.children.items
  pub height : read.height ≡ min 65 (head_levels h)
  pub names : after ≡ with_names before (head_names h)

-- parts of the head of a `for`; the node of an absent one stands in front of the token behind it
pub record IsFirstAt (tokens : List Lexeme) (place : ℕ) (rows : List NodeRow) (f : First) (part : HeadPart) : Type 0 where
  pub from : place ≤ part.behind
  pub within : part.behind ≤ length tokens
  pub is : IsFirst f
  pub is_spelled : spelled_first f (drop part.behind tokens) ≡ drop place tokens
  pub tree : (next : Lexeme) → slice_get tokens part.behind ≡ Some next → IsTreeAt (first_tree f next) rows part.node
  pub height : part.height ≡ min 65 (first_levels f)
  pub stops : ExpressionFacts → (IsThere (IsMark Semicolon) tokens part.behind → ⊥)
      → FirstStops (spelled_first f []) (drop part.behind tokens)

-- an absent part stands in front of the mark, and one that is there doesn't begin with it and doesn't go on
abbrev pub PartEnds : Punctuator → List Lexeme → ℕ → ℕ → Option Phrase → Type 0
PartEnds mark tokens place behind None = IsThere (IsMark mark) tokens behind
PartEnds mark tokens place behind (Some e) = (IsThere (IsMark mark) tokens place → ⊥)
    × ((t : Lexeme) → slice_get tokens behind ≡ Some t → GoesOn WithCommas e t → ⊥)

pub record IsPartAt (mark : Punctuator) (tokens : List Lexeme) (place : ℕ) (rows : List NodeRow) (e : Option Phrase) (part : HeadPart) : Type 0 where
  pub from : place ≤ part.behind
  pub within : part.behind ≤ length tokens
  pub is : MayBe e
  pub is_spelled : spelled_part e (drop part.behind tokens) ≡ drop place tokens
  pub tree : (next : Lexeme) → slice_get tokens part.behind ≡ Some next → IsTreeAt (part_tree e next) rows part.node
  pub height : part.height ≡ min 65 (part_levels e)
  pub ends : PartEnds mark tokens place part.behind e

pub record IsVisitorAt (tokens : List Lexeme) (place : ℕ) (rows : List NodeRow) (v : Visitor) (part : HeadPart) : Type 0 where
  pub from : place ≤ part.behind
  pub within : part.behind ≤ length tokens
  pub is : IsVisitor v
  pub is_spelled : spelled_visitor v (drop part.behind tokens) ≡ drop place tokens
  pub tree : IsTreeAt (visitor_tree v) rows part.node
  pub height : part.height ≡ min 65 (visitor_levels v)

pub record IsAbsentAt (tokens : List Lexeme) (place : ℕ) (rows : List NodeRow) (part : HeadPart) : Type 0 where
  pub behind : part.behind ≡ place
  pub tree : (next : Lexeme) → slice_get tokens place ≡ Some next → IsTreeAt (absent next) rows part.node
  pub height : part.height ≡ 1
