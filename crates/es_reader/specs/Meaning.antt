-- The trees that statements mean (this project's own, for lack of one in the standards). Children have the order of
-- the text.
use Rattle.std.specs.Prelude.{ℕ, List, [], ◌∷◌, Option, Some, None}
use Rattle.es_expressions.specs.Phrases.{Phrase, start_of, end_of}
use Rattle.es_expressions.specs.Trees.{Tree, Trees}
use Rattle.es_expressions.specs.Trees.Tree.{TreeOf}
use Rattle.es_expressions.specs.Trees.Trees.{NoTrees, OneMore as OneMoreTree}
use Rattle.es_expressions.specs.Meaning.{tree_of, node, one, two}
use Rattle.es_lexer.specs.declared.words.ReservedWord.TheVariants.{Break as BreakWord}
use Rattle.es_expressions.specs.declared.lexemes.Lexeme.{Lexeme}
use Rattle.es_expressions.specs.declared.lexemes.Symbol.{Symbol}
use Rattle.es_expressions.specs.declared.lexemes.Symbol.TheVariants.{Word}
use Rattle.es_expressions.specs.declared.nodes.Form.{Form}
use Rattle.es_expressions.specs.declared.nodes.Form.TheVariants.{Block as BlockForm, Var as VarForm, Declarator as DeclaratorForm, Empty as EmptyForm, Expression as ExpressionForm, If as IfForm, While as WhileForm, For as ForForm, ForIn as ForInForm, Continue as ContinueForm, Break as BreakForm, Return as ReturnForm}
use Rattle.es_reader.specs.Statements.{Declaration, FurtherDeclaration, Declarations, Simple, First, Visitor, Head, Statement, Statements}
use Rattle.es_reader.specs.Statements.Declaration.{Bare, Valued}
use Rattle.es_reader.specs.Statements.Simple.{Var, Empty, Expression, Jump, Return}
use Rattle.es_reader.specs.Statements.First.{NoFirst, FirstExpression, FirstVar}
use Rattle.es_reader.specs.Statements.Visitor.{Target, Variable}
use Rattle.es_reader.specs.Statements.Head.{If, While, For, ForIn}
use Rattle.es_reader.specs.Statements.Statement.{Alone, Block, Headed, IfElse}
use Rattle.es_reader.specs.Statements.Statements.{NoStatements, OneMore}
use Rattle.es_reader.specs.Grammar.{last_of}

-- the place behind the last code of a statement: of its `;`, or of what stands before where none is written
abbrev pub end_with : ℕ → Option Lexeme → ℕ
end_with stop None = stop
end_with stop (Some semicolon) = semicolon.«end»

-- a declaration's node has its name, and its value as its child
abbrev pub declaration_end : Declaration → ℕ
declaration_end (Bare name) = name.«end»
declaration_end (Valued name operator value) = end_of value

abbrev pub declaration_tree : Declaration → Tree
declaration_tree (Bare name) = TreeOf (node DeclaratorForm name.start name.«end» (Some name.symbol)) NoTrees
declaration_tree (Valued name operator value) =
    TreeOf (node DeclaratorForm name.start (end_of value) (Some name.symbol)) (one (tree_of value))

abbrev pub further_trees : List FurtherDeclaration → Trees
further_trees [] = NoTrees
further_trees (further ∷ others) = OneMoreTree (declaration_tree further.declaration) (further_trees others)

abbrev pub declaration_trees : Declarations → Trees
declaration_trees declarations =
    OneMoreTree (declaration_tree declarations.first) (further_trees declarations.others)

abbrev pub declarations_end : Declarations → ℕ
declarations_end declarations = declaration_end (last_of declarations.first declarations.others)

abbrev pub jump_form : Symbol → Form
jump_form (Word BreakWord) = BreakForm
jump_form _ = ContinueForm

abbrev pub simple_tree : Simple → Tree
simple_tree (Var word declarations semicolon) =
    TreeOf (node VarForm word.start (end_with (declarations_end declarations) semicolon) None)
    (declaration_trees declarations)
simple_tree (Empty semicolon) = TreeOf (node EmptyForm semicolon.start semicolon.«end» None) NoTrees
simple_tree (Expression expression semicolon) =
    TreeOf (node ExpressionForm (start_of expression) (end_with (end_of expression) semicolon) None)
    (one (tree_of expression))
simple_tree (Jump word semicolon) =
    TreeOf (node (jump_form word.symbol) word.start (end_with word.«end» semicolon) None) NoTrees
simple_tree (Return word None semicolon) =
    TreeOf (node ReturnForm word.start (end_with word.«end» semicolon) None) NoTrees
simple_tree (Return word (Some value) semicolon) =
    TreeOf (node ReturnForm word.start (end_with (end_of value) semicolon) None) (one (tree_of value))

-- an absent part of a `for` is an Empty node in front of the token that stands there
abbrev pub absent : Lexeme → Tree
absent next = TreeOf (node EmptyForm next.start next.start None) NoTrees

abbrev pub part_tree : Option Phrase → Lexeme → Tree
part_tree None next = absent next
part_tree (Some expression) next = tree_of expression

abbrev pub first_tree : First → Lexeme → Tree
first_tree NoFirst next = absent next
first_tree (FirstExpression expression) next = tree_of expression
first_tree (FirstVar word declarations) next =
    TreeOf (node VarForm word.start (declarations_end declarations) None) (declaration_trees declarations)

-- a `var` in front of `in` has one declaration without a value
abbrev pub visitor_tree : Visitor → Tree
visitor_tree (Target target) = tree_of target
visitor_tree (Variable word name) =
    TreeOf (node VarForm word.start name.«end» None) (one (declaration_tree (Bare name)))

abbrev pub head_form : Head → Form
head_form (If word open_mark test close_mark) = IfForm
head_form (While word open_mark test close_mark) = WhileForm
head_form (For word open_mark first semicolon test second_semicolon step close_mark) = ForForm
head_form (ForIn word open_mark visitor in_word object close_mark) = ForInForm

abbrev pub head_start : Head → ℕ
head_start (If word open_mark test close_mark) = word.start
head_start (While word open_mark test close_mark) = word.start
head_start (For word open_mark first semicolon test second_semicolon step close_mark) = word.start
head_start (ForIn word open_mark visitor in_word object close_mark) = word.start

-- what a head has in front of its statement's tree
abbrev pub with_head : Head → Trees → Trees
with_head (If word open_mark test close_mark) body = OneMoreTree (tree_of test) body
with_head (While word open_mark test close_mark) body = OneMoreTree (tree_of test) body
with_head (For word open_mark first semicolon test second_semicolon step close_mark) body =
    OneMoreTree (first_tree first semicolon) (OneMoreTree (part_tree test second_semicolon)
    (OneMoreTree (part_tree step close_mark) body))
with_head (ForIn word open_mark visitor in_word object close_mark) body =
    OneMoreTree (visitor_tree visitor) (OneMoreTree (tree_of object) body)

abbrev pub simple_end : Simple → ℕ
simple_end (Var word declarations semicolon) = end_with (declarations_end declarations) semicolon
simple_end (Empty semicolon) = semicolon.«end»
simple_end (Expression expression semicolon) = end_with (end_of expression) semicolon
simple_end (Jump word semicolon) = end_with word.«end» semicolon
simple_end (Return word None semicolon) = end_with word.«end» semicolon
simple_end (Return word (Some value) semicolon) = end_with (end_of value) semicolon

abbrev pub statement_end : Statement → ℕ
statement_end (Alone simple) = simple_end simple
statement_end (Block open_mark inner close_mark) = close_mark.«end»
statement_end (Headed head body) = statement_end body
statement_end (IfElse head body else_word other) = statement_end other

abbrev mutual
  pub statement_tree : Statement → Tree
  statement_tree (Alone simple) = simple_tree simple
  statement_tree (Block open_mark inner close_mark) =
      TreeOf (node BlockForm open_mark.start close_mark.«end» None) (statement_trees inner)
  statement_tree (Headed head body) =
      TreeOf (node (head_form head) (head_start head) (statement_end body) None)
      (with_head head (one (statement_tree body)))
  statement_tree (IfElse head body else_word other) =
      TreeOf (node (head_form head) (head_start head) (statement_end other) None)
      (with_head head (two (statement_tree body) (statement_tree other)))

  pub statement_trees : Statements → Trees
  statement_trees NoStatements = NoTrees
  statement_trees (OneMore first others) = OneMoreTree (statement_tree first) (statement_trees others)
