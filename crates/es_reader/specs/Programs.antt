-- Programs of tokens, and where tokens can't go on to one (ECMA-262 second edition, section 14, in this profile; the
-- place that is told of a text that is no program, and the limit of 64 levels, are this project's own).
use Rattle.std.specs.Prelude.{◌≡◌, ℕ, ◌+◌, ◌<◌, ◌≤◌, Bool, false, cond, ◌||◌, List, [], ◌∷◌, ◌++◌, length, take}
use Rattle.bml_bytes.specs.Words.{is_same}
use Rattle.es_expressions.specs.Trees.{Trees}
use Rattle.es_expressions.specs.Trees.Trees.{NoTrees, OneMore as OneMoreTree}
use Rattle.es_expressions.specs.Nodes.{NodeRow, IsTreeAt}
use Rattle.es_expressions.specs.declared.lexemes.Lexeme.{Lexeme}
use Rattle.es_reader.specs.Statements.{Declaration, FurtherDeclaration, Declarations, Simple, First, Visitor, Head, Statement, Statements, Declared, Item}
use Rattle.es_reader.specs.Statements.Declaration.{Bare, Valued}
use Rattle.es_reader.specs.Statements.Simple.{Var}
use Rattle.es_reader.specs.Statements.First.{FirstVar}
use Rattle.es_reader.specs.Statements.Visitor.{Variable}
use Rattle.es_reader.specs.Statements.Head.{For, ForIn}
use Rattle.es_reader.specs.Statements.Statement.{Alone, Block, Headed, IfElse}
use Rattle.es_reader.specs.Statements.Statements.{NoStatements, OneMore}
use Rattle.es_reader.specs.Statements.Item.{Function, Single}
use Rattle.es_reader.specs.Grammar.{IsProgram, name_of, parameter_names}
use Rattle.es_reader.specs.Meaning.{statement_tree, statement_trees}

-- a program begins with the tokens
pub record Begins (tokens : List Lexeme) : Type 0 where
  pub more : List Lexeme
  pub items : List Item
  pub whole : IsProgram (tokens ++ more) items

-- programs begin with the tokens in front of the place, and none with the token there too; where the place is
-- behind the last token, the tokens are no program
pub record IsBadAt (tokens : List Lexeme) (place : ℕ) : Type 0 where
  pub within : place ≤ length tokens
  pub goes_on : Begins (take place tokens)
  pub no_more : place < length tokens → Begins (take (place + 1) tokens) → ⊥
  pub no_whole : place ≡ length tokens → (items : List Item) → IsProgram tokens items → ⊥

-- the names that are declared, in the order of the text

abbrev pub declared_name : Declaration → List ℕ
declared_name (Bare name) = name_of name.symbol
declared_name (Valued name operator value) = name_of name.symbol

abbrev pub further_names : List FurtherDeclaration → List (List ℕ)
further_names [] = []
further_names (further ∷ others) = declared_name further.declaration ∷ further_names others

abbrev pub declared_names : Declarations → List (List ℕ)
declared_names declarations = declared_name declarations.first ∷ further_names declarations.others

abbrev pub simple_names : Simple → List (List ℕ)
simple_names (Var word declarations semicolon) = declared_names declarations
simple_names _ = []

abbrev pub first_names : First → List (List ℕ)
first_names (FirstVar word declarations) = declared_names declarations
first_names _ = []

abbrev pub visitor_names : Visitor → List (List ℕ)
visitor_names (Variable word name) = name_of name.symbol ∷ []
visitor_names _ = []

abbrev pub head_names : Head → List (List ℕ)
head_names (For word open_mark first semicolon test second_semicolon step close_mark) = first_names first
head_names (ForIn word open_mark visitor in_word object close_mark) = visitor_names visitor
head_names _ = []

abbrev mutual
  pub var_names : Statement → List (List ℕ)
  var_names (Alone simple) = simple_names simple
  var_names (Block open_mark inner close_mark) = all_var_names inner
  var_names (Headed head body) = head_names head ++ var_names body
  var_names (IfElse head body else_word other) = head_names head ++ (var_names body ++ var_names other)

  pub all_var_names : Statements → List (List ℕ)
  all_var_names NoStatements = []
  all_var_names (OneMore first others) = var_names first ++ all_var_names others

-- the names of the `var`s that stand in no function
abbrev pub outer_names : List Item → List (List ℕ)
outer_names [] = []
outer_names (Function declared ∷ items) = outer_names items
outer_names (Single statement ∷ items) = var_names statement ++ outer_names items

abbrev pub is_among : List ℕ → List (List ℕ) → Bool
is_among name [] = false
is_among name (other ∷ others) = is_same name other || is_among name others

-- the names that aren't known before, each at its first place
abbrev pub new_names : List (List ℕ) → List (List ℕ) → List (List ℕ)
new_names known [] = []
new_names known (name ∷ names) =
    cond (is_among name known) (new_names known names) (name ∷ new_names (name ∷ known) names)

-- What is told of a program: its nodes, the numbers of its statements' nodes in the order of the text, its functions,
-- each with its name, the parameters and then the names of its `var`s, each once, how many of these are parameters,
-- and the numbers of its statements' nodes; and the names of the `var`s outside of functions, each once.

pub record ToldFunction : Type 0 where
  pub name : List ℕ
  pub locals : List (List ℕ)
  pub parameters : ℕ
  pub body : List ℕ

pub record ToldProgram : Type 0 where
  pub rows : List NodeRow
  pub top : List ℕ
  pub functions : List ToldFunction
  pub variables : List (List ℕ)

-- the trees have these numbers, one by one
abbrev pub AreTreesOf : Trees → List NodeRow → List ℕ → Type 0
AreTreesOf NoTrees rows [] = Unit {0}
AreTreesOf (OneMoreTree first rest) rows (number ∷ numbers) =
    IsTreeAt first rows number × AreTreesOf rest rows numbers
AreTreesOf NoTrees rows (number ∷ numbers) = ⊥
AreTreesOf (OneMoreTree first rest) rows [] = ⊥

pub record IsFunctionOf (declared : Declared) (rows : List NodeRow) (told : ToldFunction) : Type 0 where
  pub name : told.name ≡ name_of declared.name.symbol
  pub locals : told.locals ≡ new_names [] (parameter_names declared.parameters ++ all_var_names declared.body)
  pub parameters : told.parameters ≡ length (parameter_names declared.parameters)
  pub body : AreTreesOf (statement_trees declared.body) rows told.body

abbrev pub AreFunctionsOf : List Declared → List NodeRow → List ToldFunction → Type 0
AreFunctionsOf [] rows [] = Unit {0}
AreFunctionsOf (declared ∷ others) rows (told ∷ functions) =
    IsFunctionOf declared rows told × AreFunctionsOf others rows functions
AreFunctionsOf [] rows (told ∷ functions) = ⊥
AreFunctionsOf (declared ∷ others) rows [] = ⊥

abbrev pub top_trees : List Item → Trees
top_trees [] = NoTrees
top_trees (Function declared ∷ items) = top_trees items
top_trees (Single statement ∷ items) = OneMoreTree (statement_tree statement) (top_trees items)

abbrev pub functions_of : List Item → List Declared
functions_of [] = []
functions_of (Function declared ∷ items) = declared ∷ functions_of items
functions_of (Single statement ∷ items) = functions_of items

pub record Tells (items : List Item) (told : ToldProgram) : Type 0 where
  pub top : AreTreesOf (top_trees items) told.rows told.top
  pub functions : AreFunctionsOf (functions_of items) told.rows told.functions
  pub variables : told.variables ≡ new_names [] (outer_names items)
