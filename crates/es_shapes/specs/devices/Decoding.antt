-- What a form makes of the children of a node. (A device of the proofs.)
use Rattle.std.specs.Prelude.{ℕ, List, [], ◌∷◌, Option, Some, None}
use Rattle.es_expressions.specs.Trees.{Tree, Trees}
use Rattle.es_expressions.specs.Trees.Tree.{TreeOf}
use Rattle.es_expressions.specs.Trees.Trees.{OneMore}
use Rattle.es_expressions.specs.declared.lexemes.Symbol.{Symbol}
use Rattle.es_expressions.specs.declared.nodes.Form.{Form}
use Rattle.es_reader.specs.Programs.{ToldProgram}
use Rattle.es_shapes.specs.declared.codes.Code.{Code}
use Rattle.es_shapes.specs.declared.codes.Listing.TheVariants.{Inner}
use Rattle.es_shapes.specs.devices.Parts.{parts_from, statements_from, trees_from}
use Rattle.es_shapes.specs.Sources.{expression_by, statement_by}
use Rattle.es_shapes.specs.Syntax.{Declarator, Expression, Statement}

-- the expression of a form and a symbol, with the children of the node at this code
abbrev pub formed : List ToldProgram → Code → Form → Option Symbol → Expression
formed programs code form symbol = expression_by form symbol (parts_from programs code 0)

-- the statement of a form, with the children of the node at this code
abbrev pub formed_statement : List ToldProgram → Code → Form → Statement
formed_statement programs code form =
    statement_by form (trees_from programs code 0) (statements_from programs (Inner code) 0)

abbrev pub form_of : Tree → Form
form_of (TreeOf node children) = node.form

-- two trees, and those behind them
pub record TwoTrees : Type 0 where
  pub first : Tree
  pub second : Tree
  pub rest : Trees

abbrev pub two_of : Trees → Option TwoTrees
two_of (OneMore first (OneMore second rest)) =
    Some (record { first = first; second = second; rest = rest })
two_of _ = None

-- the name that is declared first
abbrev pub first_name : List Declarator → List ℕ
first_name [] = []
first_name (declarator ∷ declarators) = declarator.name
