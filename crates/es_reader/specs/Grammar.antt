-- Which phrases are statements and programs (ECMA-262 second edition, sections 7.8 and 12 to 14, in this
-- profile). What stands behind a statement counts too: it tells whether a `;` may be left out, and whether an
-- `else` follows.
use Rattle.std.specs.Prelude.{◌≡◌, ◌≤◌, ◌⊎◌, ℕ, Bool, true, false, List, [], ◌∷◌, ◌++◌, Option, Some, None}
use Rattle.std.specs.List.{IsDistinct}
use Rattle.bml_bytes.specs.Words.{is_same}
use Rattle.es_lexer.specs.declared.words.ReservedWord.{ReservedWord}
use Rattle.es_lexer.specs.declared.words.ReservedWord.TheVariants.{Break, Continue, Else, For as ForWord, Function as FunctionWord, If as IfWord, In, Return as ReturnWord, Var as VarWord, While as WhileWord}
use Rattle.es_lexer.specs.declared.punctuators.Punctuator.{Punctuator}
use Rattle.es_lexer.specs.declared.punctuators.Punctuator.TheVariants.{OpenBrace, CloseBrace, OpenParenthesis, CloseParenthesis, Semicolon, Comma, Assign}
use Rattle.es_expressions.specs.Roles.{is_name}
use Rattle.es_expressions.specs.Phrases.{Phrase, spelled as spelled_expression}
use Rattle.es_expressions.specs.Grammar.{IsExpression, is_target, level}
use Rattle.es_expressions.specs.Beginnings.{Begins, least}
use Rattle.es_expressions.specs.declared.expressions.Extent.{Extent}
use Rattle.es_expressions.specs.declared.expressions.Extent.TheVariants.{WithCommas, WithoutCommas}
use Rattle.es_expressions.specs.declared.lexemes.Lexeme.{Lexeme}
use Rattle.es_expressions.specs.declared.lexemes.Symbol.{Symbol}
use Rattle.es_expressions.specs.declared.lexemes.Symbol.TheVariants.{Name, Word, Mark}
use Rattle.es_reader.specs.Statements.{Declaration, FurtherDeclaration, Declarations, Simple, First, Visitor, Head, Statement, Statements, FurtherName, Parameters, Declared, Item, spelled, spelled_all, spelled_items}
use Rattle.es_reader.specs.Statements.Declaration.{Bare, Valued}
use Rattle.es_reader.specs.Statements.Simple.{Var, Empty, Expression, Jump, Return}
use Rattle.es_reader.specs.Statements.First.{NoFirst, FirstExpression, FirstVar}
use Rattle.es_reader.specs.Statements.Visitor.{Target, Variable}
use Rattle.es_reader.specs.Statements.Head.{If, While, For, ForIn}
use Rattle.es_reader.specs.Statements.Statement.{Alone, Block, Headed, IfElse}
use Rattle.es_reader.specs.Statements.Statements.{NoStatements, OneMore}
use Rattle.es_reader.specs.Statements.Parameters.{NoParameters, SomeParameters}
use Rattle.es_reader.specs.Statements.Item.{Function, Single}

-- tokens

abbrev pub IsWord : ReservedWord → Lexeme → Type 0
IsWord word token = token.symbol ≡ Word word

abbrev pub IsMark : Punctuator → Lexeme → Type 0
IsMark mark token = token.symbol ≡ Mark mark

abbrev pub IsName : Lexeme → Type 0
IsName token = is_name token.symbol ≡ true

-- no line break stands in front of the token
abbrev pub IsOnLine : Lexeme → Type 0
IsOnLine token = token.after_break ≡ false

-- expressions

-- an Expr where commas count, and else an Assign
abbrev pub IsOf : Extent → Phrase → Type 0
IsOf WithCommas expression = IsExpression expression
IsOf WithoutCommas expression = IsExpression expression × (2 ≤ level expression)

abbrev pub MayBe : Option Phrase → Type 0
MayBe None = Unit {0}
MayBe (Some expression) = IsExpression expression

-- with this token behind it some expression goes on, of which this one needn't be a part: `++a` and `(` begin `++a().b`
abbrev pub GoesOn : Extent → Phrase → Lexeme → Type 0
GoesOn extent expression token = Begins (least extent) (spelled_expression expression [] ++ token ∷ [])

-- The end of a statement (7.8): a `;`, or nothing, which wants that the program ends there, or a `}` stands
-- there, or a token behind a line break that is no `;` and with which the statement doesn't go on.

pub record EndsIn (GoOn : Lexeme → Type 0) (next : Lexeme) : Type 0 where
  pub may : IsMark CloseBrace next ⊎ (next.after_break ≡ true)
  pub no_semicolon : IsMark Semicolon next → ⊥
  pub no_more : GoOn next → ⊥

abbrev pub IsEnd : (Lexeme → Type 0) → Option Lexeme → List Lexeme → Type 0
IsEnd GoOn (Some semicolon) rest = IsMark Semicolon semicolon
IsEnd GoOn None [] = Unit {0}
IsEnd GoOn None (next ∷ rest) = EndsIn GoOn next

-- the same behind a `return` without a value, which a line break always ends, also in front of a `;` (this profile's rule)
abbrev pub IsReturnEnd : Option Lexeme → List Lexeme → Type 0
IsReturnEnd (Some semicolon) rest = IsMark Semicolon semicolon × IsOnLine semicolon
IsReturnEnd None [] = Unit {0}
IsReturnEnd None (next ∷ rest) = IsMark CloseBrace next ⊎ (next.after_break ≡ true)

-- declarations

abbrev pub IsDeclaration : Declaration → Type 0
IsDeclaration (Bare name) = IsName name
IsDeclaration (Valued name operator value) =
    IsName name × IsMark Assign operator × IsOf WithoutCommas value

abbrev pub AreFurther : List FurtherDeclaration → Type 0
AreFurther [] = Unit {0}
AreFurther (further ∷ others) =
    IsMark Comma further.comma × IsDeclaration further.declaration × AreFurther others

abbrev pub AreDeclarations : Declarations → Type 0
AreDeclarations declarations = IsDeclaration declarations.first × AreFurther declarations.others

abbrev pub last_of : Declaration → List FurtherDeclaration → Declaration
last_of declaration [] = declaration
last_of declaration (further ∷ others) = last_of further.declaration others

-- with this token the declarations go on: a comma, the `=` of a value, or what goes on with the last value
abbrev pub DeclarationGoesOn : Declaration → Lexeme → Type 0
DeclarationGoesOn (Bare name) token = IsMark Comma token ⊎ IsMark Assign token
DeclarationGoesOn (Valued name operator value) token = IsMark Comma token ⊎ GoesOn WithoutCommas value token

-- where a statement stands
pub record Setting : Type 0 where
  pub in_loop : Bool
  pub in_function : Bool

abbrev pub setting : Bool → Bool → Setting
setting in_loop in_function = record { in_loop = in_loop; in_function = in_function }

abbrev pub BeginsOnLine : List Lexeme → Type 0
BeginsOnLine [] = Unit {0}
BeginsOnLine (first ∷ others) = IsOnLine first

-- a statement that holds no other, in front of these tokens
abbrev pub IsSimple : Setting → Simple → List Lexeme → Type 0
IsSimple place (Var word declarations semicolon) rest =
    IsWord VarWord word × AreDeclarations declarations
    × IsEnd (DeclarationGoesOn (last_of declarations.first declarations.others)) semicolon rest
IsSimple place (Empty semicolon) rest = IsMark Semicolon semicolon
IsSimple place (Expression expression semicolon) rest =
    IsExpression expression × IsEnd (GoesOn WithCommas expression) semicolon rest
IsSimple place (Jump word semicolon) rest =
    (IsWord Break word ⊎ IsWord Continue word) × (place.in_loop ≡ true) × IsEnd (λ next. ⊥) semicolon rest
IsSimple place (Return word None semicolon) rest =
    IsWord ReturnWord word × (place.in_function ≡ true) × IsReturnEnd semicolon rest
IsSimple place (Return word (Some value) semicolon) rest =
    IsWord ReturnWord word × (place.in_function ≡ true)
    × IsExpression value × BeginsOnLine (spelled_expression value []) × IsEnd (GoesOn WithCommas value) semicolon rest

abbrev pub IsFirst : First → Type 0
IsFirst NoFirst = Unit {0}
IsFirst (FirstExpression expression) = IsExpression expression
IsFirst (FirstVar word declarations) = IsWord VarWord word × AreDeclarations declarations

abbrev pub IsVisitor : Visitor → Type 0
IsVisitor (Target target) = IsExpression target × (is_target target ≡ true)
IsVisitor (Variable word name) = IsWord VarWord word × IsName name

abbrev pub IsHead : Head → Type 0
IsHead (If word open_mark test close_mark) =
    IsWord IfWord word × IsMark OpenParenthesis open_mark × IsExpression test × IsMark CloseParenthesis close_mark
IsHead (While word open_mark test close_mark) =
    IsWord WhileWord word × IsMark OpenParenthesis open_mark × IsExpression test × IsMark CloseParenthesis close_mark
IsHead (For word open_mark first semicolon test second_semicolon step close_mark) =
    IsWord ForWord word × IsMark OpenParenthesis open_mark × IsFirst first × IsMark Semicolon semicolon
    × MayBe test × IsMark Semicolon second_semicolon × MayBe step × IsMark CloseParenthesis close_mark
IsHead (ForIn word open_mark visitor in_word object close_mark) =
    IsWord ForWord word × IsMark OpenParenthesis open_mark × IsVisitor visitor × IsWord In in_word
    × IsExpression object × IsMark CloseParenthesis close_mark

abbrev pub is_if : Head → Bool
is_if (If word open_mark test close_mark) = true
is_if _ = false

-- where the statement behind a head stands
abbrev pub behind_head : Head → Setting → Setting
behind_head (If word open_mark test close_mark) place = place
behind_head _ place = setting true place.in_function

-- an `else` belongs to the nearest `if`: behind an `if` without one stands none
abbrev pub NoElse : Head → List Lexeme → Type 0
NoElse (If word open_mark test close_mark) (next ∷ rest) = IsWord Else next → ⊥
NoElse _ rest = Unit {0}

abbrev mutual
  pub IsStatement : Setting → Statement → List Lexeme → Type 0
  IsStatement place (Alone simple) rest = IsSimple place simple rest
  IsStatement place (Block open_mark inner close_mark) rest =
      IsMark OpenBrace open_mark × AreStatements place inner (close_mark ∷ rest) × IsMark CloseBrace close_mark
  IsStatement place (Headed head body) rest =
      IsHead head × IsStatement (behind_head head place) body rest × NoElse head rest
  IsStatement place (IfElse head body else_word other) rest =
      IsHead head × (is_if head ≡ true) × IsStatement place body (else_word ∷ spelled other rest)
      × IsWord Else else_word × IsStatement place other rest

  pub AreStatements : Setting → Statements → List Lexeme → Type 0
  AreStatements place NoStatements rest = Unit {0}
  AreStatements place (OneMore first others) rest =
      IsStatement place first (spelled_all others rest) × AreStatements place others rest

-- functions stand in the program alone, and their parameters differ

abbrev pub AreNames : List FurtherName → Type 0
AreNames [] = Unit {0}
AreNames (further ∷ others) = IsMark Comma further.comma × IsName further.name × AreNames others

-- the codes of a name
abbrev pub name_of : Symbol → List ℕ
name_of (Name name) = name
name_of _ = []

abbrev pub names_of : List FurtherName → List (List ℕ)
names_of [] = []
names_of (further ∷ others) = name_of further.name.symbol ∷ names_of others

abbrev pub parameter_names : Parameters → List (List ℕ)
parameter_names NoParameters = []
parameter_names (SomeParameters first others) = name_of first.symbol ∷ names_of others

abbrev pub AreParameters : Parameters → Type 0
AreParameters NoParameters = Unit {0}
AreParameters (SomeParameters first others) = IsName first × AreNames others

pub record IsFunction (declared : Declared) (rest : List Lexeme) : Type 0 where
  pub word : IsWord FunctionWord declared.word
  pub name : IsName declared.name
  pub open_mark : IsMark OpenParenthesis declared.open_mark
  pub parameters : AreParameters declared.parameters
  pub differ : IsDistinct is_same (parameter_names declared.parameters)
  pub close_mark : IsMark CloseParenthesis declared.close_mark
  pub open_brace : IsMark OpenBrace declared.open_brace
  pub body : AreStatements (setting false true) declared.body (declared.close_brace ∷ rest)
  pub close_brace : IsMark CloseBrace declared.close_brace

abbrev pub AreItems : List Item → List Lexeme → Type 0
AreItems [] rest = Unit {0}
AreItems (Function declared ∷ items) rest = IsFunction declared (spelled_items items rest) × AreItems items rest
AreItems (Single statement ∷ items) rest =
    IsStatement (setting false false) statement (spelled_items items rest) × AreItems items rest

-- the tokens are those of the program
pub record IsProgram (tokens : List Lexeme) (items : List Item) : Type 0 where
  pub are : AreItems items []
  pub is_spelled : spelled_items items [] ≡ tokens
