-- What a node is found to be, and which expression or statement that is. (A device of the proofs.)
use Rattle.std.specs.Prelude.{List}
use Rattle.std.specs.Option.{option_map}
use Rattle.es_reader.specs.Programs.{ToldProgram}
use Rattle.es_shapes.specs.declared.codes.Code.{Code}
use Rattle.es_shapes.specs.declared.codes.Listing.TheVariants.{Inner}
use Rattle.es_shapes.specs.declared.shapes.Shape.{Shape}
use Rattle.es_shapes.specs.declared.shapes.Shape.TheVariants as shape
use Rattle.es_shapes.specs.declared.shapes.StatementShape.{StatementShape}
use Rattle.es_shapes.specs.declared.shapes.StatementShape.TheVariants as statement
use Rattle.es_shapes.specs.declared.shapes.DeclaratorShape.{DeclaratorShape}
use Rattle.es_shapes.specs.declared.shapes.FirstShape.{FirstShape}
use Rattle.es_shapes.specs.declared.shapes.FirstShape.TheVariants as head
use Rattle.es_shapes.specs.declared.shapes.VisitorShape.{VisitorShape}
use Rattle.es_shapes.specs.declared.shapes.VisitorShape.TheVariants as seen
use Rattle.es_shapes.specs.devices.Parts.{expression_at, parts_from, statement_at, statements_from, trees_from}
use Rattle.es_shapes.specs.Sources.{declarators_of, target_of}
use Rattle.es_shapes.specs.Syntax.{Declarator, Expression, Statement, First, Visitor}
use Rattle.es_shapes.specs.Syntax.Expression.{This, Null, Truth, Number, Text, Name, Index, Member, Call, New, Signed, Typeof, Void, Delete, Stepped, Binary, And, Or, Choice, Assign, Update, Comma}
use Rattle.es_shapes.specs.Syntax.First.{NoFirst, FirstExpression, FirstVar}
use Rattle.es_shapes.specs.Syntax.Visitor.{VisitTarget, VisitVar}
use Rattle.es_shapes.specs.Syntax.Statement.{Block, Var, Empty, Evaluate, If, IfElse, While, For, ForIn, Continue, Break, Return}

-- the expression of a shape, of the node at this code
unfoldable pub shaped : List ToldProgram → Code → Shape → Expression
shaped programs code shape.This = This
shaped programs code shape.Null = Null
shaped programs code (shape.Truth truth) = Truth truth
shaped programs code (shape.Number number) = Number number
shaped programs code (shape.Text text) = Text text
shaped programs code (shape.Name name) = Name name
shaped programs code (shape.Index base key) =
    Index (expression_at programs base) (expression_at programs key)
shaped programs code (shape.Member base name) = Member (expression_at programs base) name
shaped programs code (shape.Call callee) =
    Call (expression_at programs callee) (parts_from programs code 1)
shaped programs code (shape.New callee) =
    New (expression_at programs callee) (parts_from programs code 1)
shaped programs code (shape.Signed sign operand) = Signed sign (expression_at programs operand)
shaped programs code (shape.Typeof operand) = Typeof (expression_at programs operand)
shaped programs code (shape.Void operand) = Void (expression_at programs operand)
shaped programs code (shape.Delete operand) = Delete (expression_at programs operand)
shaped programs code (shape.Stepped in_front down target) =
    Stepped in_front down (target_of (expression_at programs target))
shaped programs code (shape.Binary operator left right) =
    Binary operator (expression_at programs left) (expression_at programs right)
shaped programs code (shape.And left right) =
    And (expression_at programs left) (expression_at programs right)
shaped programs code (shape.Or left right) =
    Or (expression_at programs left) (expression_at programs right)
shaped programs code (shape.Choice test first second) =
    Choice (expression_at programs test) (expression_at programs first)
    (expression_at programs second)
shaped programs code (shape.Assign target value) =
    Assign (target_of (expression_at programs target)) (expression_at programs value)
shaped programs code (shape.Update operator target value) =
    Update operator (target_of (expression_at programs target)) (expression_at programs value)
shaped programs code shape.Comma = Comma (parts_from programs code 0)

unfoldable pub first_shaped : List ToldProgram → FirstShape → First
first_shaped programs head.NoFirst = NoFirst
first_shaped programs (head.FirstExpression expression) =
    FirstExpression (expression_at programs expression)
first_shaped programs (head.FirstVar variables) =
    FirstVar (declarators_of (trees_from programs variables 0))

unfoldable pub declared : List ToldProgram → DeclaratorShape → Declarator
declared programs shape =
    record { name = shape.name; value = option_map (expression_at programs) shape.value }

unfoldable pub visitor_shaped : List ToldProgram → VisitorShape → Visitor
visitor_shaped programs (seen.VisitTarget target) =
    VisitTarget (target_of (expression_at programs target))
visitor_shaped programs (seen.VisitVar name declarator) = VisitVar name

-- the statement of a shape, of the node at this code
unfoldable pub stated : List ToldProgram → Code → StatementShape → Statement
stated programs code statement.Block = Block (statements_from programs (Inner code) 0)
stated programs code statement.Var = Var (declarators_of (trees_from programs code 0))
stated programs code statement.Empty = Empty
stated programs code (statement.Evaluate expression) =
    Evaluate (expression_at programs expression)
stated programs code (statement.If test body) =
    If (expression_at programs test) (statement_at programs body)
stated programs code (statement.IfElse test body other) =
    IfElse (expression_at programs test) (statement_at programs body)
    (statement_at programs other)
stated programs code (statement.While test body) =
    While (expression_at programs test) (statement_at programs body)
stated programs code (statement.For first test update body) =
    For (first_shaped programs first) (option_map (expression_at programs) test)
    (option_map (expression_at programs) update) (statement_at programs body)
stated programs code (statement.ForIn visitor object body) =
    ForIn (visitor_shaped programs visitor) (expression_at programs object)
    (statement_at programs body)
stated programs code statement.Continue = Continue
stated programs code statement.Break = Break
stated programs code (statement.Return value) =
    Return (option_map (expression_at programs) value)
