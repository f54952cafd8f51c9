-- Statements and programs as they are written, with all of their tokens (ECMA-262 second edition, sections
-- 12 to 14, in this profile).
use Rattle.std.specs.Prelude.{List, [], ◌∷◌, Option, Some, None}
use Rattle.es_expressions.specs.Phrases.{Phrase, spelled as spelled_expression}
use Rattle.es_expressions.specs.declared.lexemes.Lexeme.{Lexeme}

-- `x`; `x = e`
pub data Declaration : Type 0 where
  Bare : (name : Lexeme) → Declaration
  Valued : (name : Lexeme) → (operator : Lexeme) → (value : Phrase) → Declaration

pub record FurtherDeclaration : Type 0 where
  pub comma : Lexeme
  pub declaration : Declaration

-- `x, y = e`
pub record Declarations : Type 0 where
  pub first : Declaration
  pub others : List FurtherDeclaration

-- statements that hold no other, with the `;` at their end where one is written: `var x, y = e;`; `;`; `e;`;
-- `break;` and `continue;`; `return e;`
pub data Simple : Type 0 where
  Var : (word : Lexeme) → (declarations : Declarations) → (semicolon : Option Lexeme) → Simple
  Empty : (semicolon : Lexeme) → Simple
  Expression : (expression : Phrase) → (semicolon : Option Lexeme) → Simple
  Jump : (word : Lexeme) → (semicolon : Option Lexeme) → Simple
  Return : (word : Lexeme) → (value : Option Phrase) → (semicolon : Option Lexeme) → Simple

-- what stands first in the head of a `for`
pub data First : Type 0 where
  NoFirst : First
  FirstExpression : (expression : Phrase) → First
  FirstVar : (word : Lexeme) → (declarations : Declarations) → First

-- what stands before the `in` of a `for`
pub data Visitor : Type 0 where
  Target : (target : Phrase) → Visitor
  Variable : (word : Lexeme) → (name : Lexeme) → Visitor

-- what stands before the statement that another one holds: `if (e)`; `while (e)`; `for (a; b; c)`;
-- `for (x in e)`
pub data Head : Type 0 where
  If : (word : Lexeme) → (open_mark : Lexeme) → (test : Phrase) → (close_mark : Lexeme) → Head
  While : (word : Lexeme) → (open_mark : Lexeme) → (test : Phrase) → (close_mark : Lexeme) → Head
  For : (word : Lexeme) → (open_mark : Lexeme) → (first : First) → (semicolon : Lexeme) → (test : Option Phrase)
      → (second_semicolon : Lexeme) → (step : Option Phrase) → (close_mark : Lexeme) → Head
  ForIn : (word : Lexeme) → (open_mark : Lexeme) → (visitor : Visitor) → (in_word : Lexeme) → (object : Phrase)
      → (close_mark : Lexeme) → Head

mutual
  -- one that holds no other; `{ .. }`; a head and its statement; an `if` with its `else`
  pub data Statement : Type 0 where
    Alone : (simple : Simple) → Statement
    Block : (open_mark : Lexeme) → (inner : Statements) → (close_mark : Lexeme) → Statement
    Headed : (head : Head) → (body : Statement) → Statement
    IfElse : (head : Head) → (body : Statement) → (else_word : Lexeme) → (other : Statement) → Statement

  pub data Statements : Type 0 where
    NoStatements : Statements
    OneMore : (first : Statement) → (rest : Statements) → Statements

pub record FurtherName : Type 0 where
  pub comma : Lexeme
  pub name : Lexeme

-- nothing; `x, y`
pub data Parameters : Type 0 where
  NoParameters : Parameters
  SomeParameters : (first : Lexeme) → (others : List FurtherName) → Parameters

-- `function f(x, y) { .. }`
pub record Declared : Type 0 where
  pub word : Lexeme
  pub name : Lexeme
  pub open_mark : Lexeme
  pub parameters : Parameters
  pub close_mark : Lexeme
  pub open_brace : Lexeme
  pub body : Statements
  pub close_brace : Lexeme

-- what a program is made of
pub data Item : Type 0 where
  Function : (declared : Declared) → Item
  Single : (statement : Statement) → Item

-- the tokens, in front of others

abbrev pub spelled_end : Option Lexeme → List Lexeme → List Lexeme
spelled_end None rest = rest
spelled_end (Some semicolon) rest = semicolon ∷ rest

abbrev pub spelled_part : Option Phrase → List Lexeme → List Lexeme
spelled_part None rest = rest
spelled_part (Some expression) rest = spelled_expression expression rest

abbrev pub spelled_declaration : Declaration → List Lexeme → List Lexeme
spelled_declaration (Bare name) rest = name ∷ rest
spelled_declaration (Valued name operator value) rest = name ∷ (operator ∷ spelled_expression value rest)

abbrev pub spelled_others : List FurtherDeclaration → List Lexeme → List Lexeme
spelled_others [] rest = rest
spelled_others (further ∷ others) rest =
    further.comma ∷ spelled_declaration further.declaration (spelled_others others rest)

abbrev pub spelled_declarations : Declarations → List Lexeme → List Lexeme
spelled_declarations declarations rest =
    spelled_declaration declarations.first (spelled_others declarations.others rest)

abbrev pub spelled_simple : Simple → List Lexeme → List Lexeme
spelled_simple (Var word declarations semicolon) rest =
    word ∷ spelled_declarations declarations (spelled_end semicolon rest)
spelled_simple (Empty semicolon) rest = semicolon ∷ rest
spelled_simple (Expression expression semicolon) rest =
    spelled_expression expression (spelled_end semicolon rest)
spelled_simple (Jump word semicolon) rest = word ∷ spelled_end semicolon rest
spelled_simple (Return word value semicolon) rest = word ∷ spelled_part value (spelled_end semicolon rest)

abbrev pub spelled_first : First → List Lexeme → List Lexeme
spelled_first NoFirst rest = rest
spelled_first (FirstExpression expression) rest = spelled_expression expression rest
spelled_first (FirstVar word declarations) rest = word ∷ spelled_declarations declarations rest

abbrev pub spelled_visitor : Visitor → List Lexeme → List Lexeme
spelled_visitor (Target target) rest = spelled_expression target rest
spelled_visitor (Variable word name) rest = word ∷ (name ∷ rest)

abbrev pub spelled_head : Head → List Lexeme → List Lexeme
spelled_head (If word open_mark test close_mark) rest =
    word ∷ (open_mark ∷ spelled_expression test (close_mark ∷ rest))
spelled_head (While word open_mark test close_mark) rest =
    word ∷ (open_mark ∷ spelled_expression test (close_mark ∷ rest))
spelled_head (For word open_mark first semicolon test second_semicolon step close_mark) rest =
    word ∷ (open_mark ∷ spelled_first first (semicolon ∷ spelled_part test
    (second_semicolon ∷ spelled_part step (close_mark ∷ rest))))
spelled_head (ForIn word open_mark visitor in_word object close_mark) rest =
    word ∷ (open_mark ∷ spelled_visitor visitor (in_word ∷ spelled_expression object (close_mark ∷ rest)))

abbrev mutual
  pub spelled : Statement → List Lexeme → List Lexeme
  spelled (Alone simple) rest = spelled_simple simple rest
  spelled (Block open_mark inner close_mark) rest = open_mark ∷ spelled_all inner (close_mark ∷ rest)
  spelled (Headed head body) rest = spelled_head head (spelled body rest)
  spelled (IfElse head body else_word other) rest =
      spelled_head head (spelled body (else_word ∷ spelled other rest))

  pub spelled_all : Statements → List Lexeme → List Lexeme
  spelled_all NoStatements rest = rest
  spelled_all (OneMore first others) rest = spelled first (spelled_all others rest)

abbrev pub spelled_names : List FurtherName → List Lexeme → List Lexeme
spelled_names [] rest = rest
spelled_names (further ∷ others) rest = further.comma ∷ (further.name ∷ spelled_names others rest)

abbrev pub spelled_parameters : Parameters → List Lexeme → List Lexeme
spelled_parameters NoParameters rest = rest
spelled_parameters (SomeParameters first others) rest = first ∷ spelled_names others rest

abbrev pub spelled_function : Declared → List Lexeme → List Lexeme
spelled_function declared rest =
    declared.word ∷ (declared.name ∷ (declared.open_mark ∷ spelled_parameters declared.parameters
    (declared.close_mark ∷ (declared.open_brace ∷ spelled_all declared.body (declared.close_brace ∷ rest)))))

abbrev pub spelled_items : List Item → List Lexeme → List Lexeme
spelled_items [] rest = rest
spelled_items (Function declared ∷ items) rest = spelled_function declared (spelled_items items rest)
spelled_items (Single statement ∷ items) rest = spelled statement (spelled_items items rest)
