-- Which programs texts are, as they are evaluated: what the trees mean that the grammar gives them, form by
-- form. A tree with fewer parts than its form has is no program's, and means `this` or nothing. (This
-- project's own, for lack of one in the standards.)
use Rattle.std.specs.Prelude.{ℕ, Bool, true, false, List, [], ◌∷◌, ◌++◌, Option, Some, None, length, map}
use Rattle.es_lexer.specs.declared.punctuators.Punctuator.{Punctuator}
use Rattle.es_lexer.specs.declared.punctuators.Punctuator.TheVariants as mark
use Rattle.es_lexer.specs.declared.words.ReservedWord.{ReservedWord}
use Rattle.es_lexer.specs.declared.words.ReservedWord.TheVariants as word
use Rattle.es_expressions.specs.Trees.{Tree, Trees}
use Rattle.es_expressions.specs.Trees.Tree.{TreeOf}
use Rattle.es_expressions.specs.Trees.Trees.{NoTrees, OneMore as OneMoreTree}
use Rattle.es_expressions.specs.declared.lexemes.Symbol.{Symbol}
use Rattle.es_expressions.specs.declared.lexemes.Symbol.TheVariants as symbol
use Rattle.es_expressions.specs.declared.nodes.Form.{Form}
use Rattle.es_expressions.specs.declared.nodes.Form.TheVariants as form
use Rattle.es_reader.specs.Grammar.{name_of, parameter_names}
use Rattle.es_reader.specs.Meaning.{statement_trees}
use Rattle.es_reader.specs.Programs.{all_var_names, functions_of, new_names, outer_names, top_trees}
use Rattle.es_reader.specs.Statements as written
use Rattle.es_shapes.specs.declared.operators.Operator.{Operator}
use Rattle.es_shapes.specs.declared.operators.Operator.TheVariants as the
use Rattle.es_shapes.specs.declared.operators.Sign.TheVariants as sign
use Rattle.es_shapes.specs.Syntax.{Expression, Expressions, Target, Declarator, First, Visitor, Statement, Statements, Function, Program}
use Rattle.es_shapes.specs.Syntax.Expression.{This, Null, Truth, Number, Text, Name, Index, Member, Call, New, Signed, Typeof, Void, Delete, Stepped, Binary, And, Or, Choice, Assign, Update, Comma}
use Rattle.es_shapes.specs.Syntax.Expressions.{NoExpressions, OneMore}
use Rattle.es_shapes.specs.Syntax.Target.{NameTarget, IndexTarget, MemberTarget}
use Rattle.es_shapes.specs.Syntax.First.{NoFirst, FirstExpression, FirstVar}
use Rattle.es_shapes.specs.Syntax.Visitor.{VisitTarget, VisitVar}
use Rattle.es_shapes.specs.Syntax.Statement.{Block, Var, Empty, Evaluate, If, IfElse, While, For, ForIn, Continue, Break, Return}
use Rattle.es_shapes.specs.Syntax.Statements.{NoStatements, OneMoreStatement}

-- ---- operators

-- of a mark that is a binary operator, or of an assignment with one
abbrev pub operator_of_mark : Punctuator → Operator
operator_of_mark mark.Times = the.Times
operator_of_mark mark.TimesAssign = the.Times
operator_of_mark mark.Divide = the.Divide
operator_of_mark mark.DivideAssign = the.Divide
operator_of_mark mark.Remainder = the.Remainder
operator_of_mark mark.RemainderAssign = the.Remainder
operator_of_mark mark.Minus = the.Minus
operator_of_mark mark.MinusAssign = the.Minus
operator_of_mark mark.ShiftLeft = the.ShiftLeft
operator_of_mark mark.ShiftLeftAssign = the.ShiftLeft
operator_of_mark mark.ShiftRight = the.ShiftRight
operator_of_mark mark.ShiftRightAssign = the.ShiftRight
operator_of_mark mark.UnsignedShiftRight = the.UnsignedShiftRight
operator_of_mark mark.UnsignedShiftRightAssign = the.UnsignedShiftRight
operator_of_mark mark.Less = the.Less
operator_of_mark mark.Greater = the.Greater
operator_of_mark mark.LessOrEqual = the.LessOrEqual
operator_of_mark mark.GreaterOrEqual = the.GreaterOrEqual
operator_of_mark mark.Equal = the.Equal
operator_of_mark mark.NotEqual = the.NotEqual
operator_of_mark mark.StrictEqual = the.StrictEqual
operator_of_mark mark.StrictNotEqual = the.StrictNotEqual
operator_of_mark mark.BitAnd = the.BitAnd
operator_of_mark mark.AndAssign = the.BitAnd
operator_of_mark mark.BitXor = the.BitXor
operator_of_mark mark.XorAssign = the.BitXor
operator_of_mark mark.BitOr = the.BitOr
operator_of_mark mark.OrAssign = the.BitOr
operator_of_mark _ = the.Plus

-- an expression with two operands
abbrev pub joined_by : Punctuator → Expression → Expression → Expression
joined_by mark.LogicalAnd left right = And left right
joined_by mark.LogicalOr left right = Or left right
joined_by mark left right = Binary (operator_of_mark mark) left right

-- what is written to; the grammar has no other target
abbrev pub target_of : Expression → Target
target_of (Name name) = NameTarget name
target_of (Index base key) = IndexTarget base key
target_of (Member base name) = MemberTarget base name
target_of _ = NameTarget []

-- an expression with an operator in front
abbrev pub signed_by_mark : Punctuator → Expression → Expression
signed_by_mark mark.Minus operand = Signed sign.Minus operand
signed_by_mark mark.Complement operand = Signed sign.Complement operand
signed_by_mark mark.Not operand = Signed sign.Not operand
signed_by_mark mark.Increment operand = Stepped true false (target_of operand)
signed_by_mark mark.Decrement operand = Stepped true true (target_of operand)
signed_by_mark _ operand = Signed sign.Plus operand

abbrev pub signed_by_word : ReservedWord → Expression → Expression
signed_by_word word.Delete operand = Delete operand
signed_by_word word.Typeof operand = Typeof operand
signed_by_word _ operand = Void operand

abbrev pub signed_by : Symbol → Expression → Expression
signed_by (symbol.Mark mark) operand = signed_by_mark mark operand
signed_by (symbol.Word word) operand = signed_by_word word operand
signed_by _ operand = This

abbrev pub is_decrement : Punctuator → Bool
is_decrement mark.Decrement = true
is_decrement _ = false

-- an assignment, by `=` or with an operator
abbrev pub assigned_by : Punctuator → Target → Expression → Expression
assigned_by mark.Assign target value = Assign target value
assigned_by mark target value = Update (operator_of_mark mark) target value

-- ---- parts

abbrev pub of_one : (Expression → Expression) → Expressions → Expression
of_one f (OneMore first rest) = f first
of_one f NoExpressions = This

abbrev pub of_two : (Expression → Expression → Expression) → Expressions → Expression
of_two f (OneMore first (OneMore second rest)) = f first second
of_two f _ = This

abbrev pub of_three : (Expression → Expression → Expression → Expression) → Expressions
    → Expression
of_three f (OneMore first (OneMore second (OneMore third rest))) = f first second third
of_three f _ = This

-- the first and all others
abbrev pub of_list : (Expression → Expressions → Expression) → Expressions → Expression
of_list f (OneMore first rest) = f first rest
of_list f NoExpressions = This

abbrev pub of_symbol : (Symbol → Expression) → Option Symbol → Expression
of_symbol f (Some symbol) = f symbol
of_symbol f None = This

abbrev pub of_mark : (Punctuator → Expression) → Option Symbol → Expression
of_mark f (Some (symbol.Mark mark)) = f mark
of_mark f _ = This

abbrev pub of_name : (List ℕ → Expression) → Option Symbol → Expression
of_name f (Some (symbol.Name name)) = f name
of_name f _ = This

-- of a leaf
abbrev pub of_leaf : Option Symbol → Expression
of_leaf (Some (symbol.Name name)) = Name name
of_leaf (Some (symbol.Number number)) = Number number
of_leaf (Some (symbol.Words words)) = Text words
of_leaf _ = This

-- ---- expressions

-- an expression of a form, with the symbol of its node and its parts in the order of the text
abbrev pub expression_by : Form → Option Symbol → Expressions → Expression
expression_by form.Name symbol parts = of_leaf symbol
expression_by form.Number symbol parts = of_leaf symbol
expression_by form.Text symbol parts = of_leaf symbol
expression_by form.Null symbol parts = Null
expression_by form.True symbol parts = Truth true
expression_by form.False symbol parts = Truth false
expression_by form.Index symbol parts = of_two Index parts
expression_by form.Member symbol parts =
    of_name (λ name. of_one (λ base. Member base name) parts) symbol
expression_by form.Call symbol parts = of_list Call parts
expression_by form.New symbol parts = of_list New parts
expression_by form.Postfix symbol parts =
    of_mark (λ mark. of_one (λ operand. Stepped false (is_decrement mark) (target_of operand)) parts)
    symbol
expression_by form.Prefix symbol parts = of_symbol (λ symbol. of_one (signed_by symbol) parts) symbol
expression_by form.Binary symbol parts = of_mark (λ mark. of_two (joined_by mark) parts) symbol
expression_by form.Choice symbol parts = of_three Choice parts
expression_by form.Assignment symbol parts =
    of_mark (λ mark. of_two (λ target. assigned_by mark (target_of target)) parts) symbol
expression_by form.Comma symbol parts = Comma parts
expression_by _ symbol parts = This

unfoldable mutual
  pub expression_of : Tree → Expression
  expression_of (TreeOf node children) =
      expression_by node.form node.symbol (expressions_of children)

  pub expressions_of : Trees → Expressions
  expressions_of NoTrees = NoExpressions
  expressions_of (OneMoreTree first rest) = OneMore (expression_of first) (expressions_of rest)

-- ---- statements

-- the name of a declarator
abbrev pub name_in : Option Symbol → List ℕ
name_in (Some symbol) = name_of symbol
name_in None = []

-- its value, or that of a `return`
unfoldable pub value_in : Trees → Option Expression
value_in NoTrees = None
value_in (OneMoreTree first rest) = Some (expression_of first)

unfoldable pub declarator_of : Tree → Declarator
declarator_of (TreeOf node children) =
    record { name = name_in node.symbol; value = value_in children }

unfoldable pub declarators_of : Trees → List Declarator
declarators_of NoTrees = []
declarators_of (OneMoreTree first rest) = declarator_of first ∷ declarators_of rest

-- the first part of a `for`, which is an Empty node where there is none
abbrev pub first_by : Form → Expression → List Declarator → First
first_by form.Empty expression declarators = NoFirst
first_by form.Var expression declarators = FirstVar declarators
first_by _ expression declarators = FirstExpression expression

unfoldable pub first_of : Tree → First
first_of (TreeOf node children) =
    first_by node.form (expression_of (TreeOf node children)) (declarators_of children)

-- the other parts of its head
abbrev pub part_by : Form → Expression → Option Expression
part_by form.Empty expression = None
part_by _ expression = Some expression

unfoldable pub part_of : Tree → Option Expression
part_of (TreeOf node children) = part_by node.form (expression_of (TreeOf node children))

-- what stands before `in`: a `var` has one declarator
abbrev pub visitor_of_var : List Declarator → Visitor
visitor_of_var [] = VisitVar []
visitor_of_var (declarator ∷ declarators) = VisitVar declarator.name

abbrev pub visitor_by : Form → Expression → List Declarator → Visitor
visitor_by form.Var expression declarators = visitor_of_var declarators
visitor_by _ expression declarators = VisitTarget (target_of expression)

unfoldable pub visitor_of : Tree → Visitor
visitor_of (TreeOf node children) =
    visitor_by node.form (expression_of (TreeOf node children)) (declarators_of children)

-- a statement of a form, with its parts in the order of the text, and what they are where they are
-- statements
abbrev pub statement_by : Form → Trees → Statements → Statement
statement_by form.Block parts inner = Block inner
statement_by form.Var parts inner = Var (declarators_of parts)
statement_by form.Expression (OneMoreTree expression rest) inner =
    Evaluate (expression_of expression)
statement_by form.If (OneMoreTree test rest)
    (OneMoreStatement first (OneMoreStatement body NoStatements)) = If (expression_of test) body
statement_by form.If (OneMoreTree test rest)
    (OneMoreStatement first (OneMoreStatement body (OneMoreStatement other more))) =
    IfElse (expression_of test) body other
statement_by form.While (OneMoreTree test rest)
    (OneMoreStatement first (OneMoreStatement body more)) = While (expression_of test) body
statement_by form.For (OneMoreTree first (OneMoreTree test (OneMoreTree update rest)))
    (OneMoreStatement one (OneMoreStatement two (OneMoreStatement three
    (OneMoreStatement body more)))) = For (first_of first) (part_of test) (part_of update) body
statement_by form.ForIn (OneMoreTree visitor (OneMoreTree object rest))
    (OneMoreStatement one (OneMoreStatement two (OneMoreStatement body more))) =
    ForIn (visitor_of visitor) (expression_of object) body
statement_by form.Continue parts inner = Continue
statement_by form.Break parts inner = Break
statement_by form.Return parts inner = Return (value_in parts)
statement_by _ parts inner = Empty

unfoldable mutual
  pub statement_of : Tree → Statement
  statement_of (TreeOf node children) = statement_by node.form children (statements_of children)

  pub statements_of : Trees → Statements
  statements_of NoTrees = NoStatements
  statements_of (OneMoreTree first rest) = OneMoreStatement (statement_of first) (statements_of rest)

-- ---- programs

abbrev pub function_of : written.Declared → Function
function_of declared = record {
  name = name_of declared.name.symbol;
  locals = new_names [] (parameter_names declared.parameters ++ all_var_names declared.body);
  parameters = length (parameter_names declared.parameters);
  body = statements_of (statement_trees declared.body);
}

unfoldable pub program_of : List written.Item → Program
program_of items = record {
  variables = new_names [] (outer_names items);
  functions = map function_of (functions_of items);
  body = statements_of (top_trees items);
}
