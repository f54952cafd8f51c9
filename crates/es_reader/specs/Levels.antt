-- How many levels a statement has (this project's own): its own is one, and what it holds is one level deeper, but
-- for the declarations of a `var` and the statement behind an `else`, which add none.
use Rattle.std.specs.Prelude.{ℕ, suc, max, List, [], ◌∷◌, Option, Some, None}
use Rattle.es_expressions.specs.Phrases.{Phrase}
use Rattle.es_expressions.specs.Trees.{depth}
use Rattle.es_expressions.specs.Meaning.{tree_of}
use Rattle.es_reader.specs.Statements.{Declaration, FurtherDeclaration, Declarations, Simple, First, Visitor, Head, Statement, Statements, Item}
use Rattle.es_reader.specs.Statements.Declaration.{Bare, Valued}
use Rattle.es_reader.specs.Statements.Simple.{Var, Empty, Expression, Jump, Return}
use Rattle.es_reader.specs.Statements.First.{NoFirst, FirstExpression, FirstVar}
use Rattle.es_reader.specs.Statements.Visitor.{Target, Variable}
use Rattle.es_reader.specs.Statements.Head.{If, While, For, ForIn}
use Rattle.es_reader.specs.Statements.Statement.{Alone, Block, Headed, IfElse}
use Rattle.es_reader.specs.Statements.Statements.{NoStatements, OneMore}
use Rattle.es_reader.specs.Statements.Item.{Function, Single}

abbrev pub levels_of : Phrase → ℕ
levels_of expression = depth (tree_of expression)

-- an absent part of a `for` is a node too
abbrev pub part_levels : Option Phrase → ℕ
part_levels None = 1
part_levels (Some expression) = levels_of expression

abbrev pub declaration_levels : Declaration → ℕ
declaration_levels (Bare name) = 1
declaration_levels (Valued name operator value) = suc (levels_of value)

abbrev pub further_levels : List FurtherDeclaration → ℕ
further_levels [] = 1
further_levels (further ∷ others) = max (declaration_levels further.declaration) (further_levels others)

abbrev pub var_levels : Declarations → ℕ
var_levels declarations = max (declaration_levels declarations.first) (further_levels declarations.others)

abbrev pub simple_levels : Simple → ℕ
simple_levels (Var word declarations semicolon) = var_levels declarations
simple_levels (Empty semicolon) = 1
simple_levels (Expression expression semicolon) = suc (levels_of expression)
simple_levels (Jump word semicolon) = 1
simple_levels (Return word None semicolon) = 1
simple_levels (Return word (Some value) semicolon) = suc (levels_of value)

abbrev pub first_levels : First → ℕ
first_levels NoFirst = 1
first_levels (FirstExpression expression) = levels_of expression
first_levels (FirstVar word declarations) = var_levels declarations

abbrev pub visitor_levels : Visitor → ℕ
visitor_levels (Target target) = levels_of target
visitor_levels (Variable word name) = 1

-- of what stands in a head, which is one level deeper than its statement
abbrev pub head_levels : Head → ℕ
head_levels (If word open_mark test close_mark) = levels_of test
head_levels (While word open_mark test close_mark) = levels_of test
head_levels (For word open_mark first semicolon test second_semicolon step close_mark) =
    max (first_levels first) (max (part_levels test) (part_levels step))
head_levels (ForIn word open_mark visitor in_word object close_mark) =
    max (visitor_levels visitor) (levels_of object)

abbrev mutual
  pub levels : Statement → ℕ
  levels (Alone simple) = simple_levels simple
  levels (Block open_mark inner close_mark) = suc (all_levels inner)
  levels (Headed head body) = suc (max (head_levels head) (levels body))
  levels (IfElse head body else_word other) = max (suc (max (head_levels head) (levels body))) (levels other)

  pub all_levels : Statements → ℕ
  all_levels NoStatements = 0
  all_levels (OneMore first others) = max (levels first) (all_levels others)

-- of a program: its statements and those of its functions are at level 1
abbrev pub item_levels : Item → ℕ
item_levels (Function declared) = all_levels declared.body
item_levels (Single statement) = levels statement

abbrev pub program_levels : List Item → ℕ
program_levels [] = 0
program_levels (item ∷ items) = max (item_levels item) (program_levels items)
