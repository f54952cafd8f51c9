-- Trees of nodes, and how deep these are nested (this project's own; the forms are those of ECMA-262 second edition,
-- sections 11 and 12).
use Rattle.std.specs.Prelude.{ℕ, suc, max, Bool, true, false, cond, nat_eq}
use Rattle.es_expressions.specs.declared.nodes.Node.{Node}
use Rattle.es_expressions.specs.declared.nodes.Form.{Form}
use Rattle.es_expressions.specs.declared.nodes.Form.TheVariants.{Index, Member, Call, Binary, Var, If}

-- a node and its children, in the order of the text
mutual
  pub data Tree : Type 0 where
    TreeOf : (node : Node) → (children : Trees) → Tree

  pub data Trees : Type 0 where
    NoTrees : Trees
    OneMore : (first : Tree) → (rest : Trees) → Trees

-- trees and one behind them
abbrev pub and_then : Trees → Tree → Trees
and_then NoTrees t = OneMore t NoTrees
and_then (OneMore first rest) t = OneMore first (and_then rest t)

-- Whether the child at such a place, the first at 0, is beside a node of this form, at its level. Each other child
-- is below, one level deeper. In the words of ECMA-262:
--   11.2    of a property accessor and of a call the MemberExpression or CallExpression is beside, and the
--           Expression in brackets and the Arguments are below; of `new` all is below
--   11.3    of a postfix operator, and of a unary one (11.4), the operand is below
--   11.5    of a binary operator, up to the logical ones (11.11), the left operand is beside and the right one below
--   11.12   of the conditional operator, of an assignment (11.13) and of a list with commas (11.14) all is below
--   12.1    of a block each Statement is below
--   12.2    of a variable statement, and of the `var` in the head of a `for`, each VariableDeclaration is beside;
--           the AssignmentExpression of its Initialiser is below the VariableDeclaration
--   12.4    of an expression statement, and of `return` (12.9), the Expression is below
--   12.5    of an if statement the Expression and the first Statement are below, and the one behind `else` is beside
--   12.6    of an iteration statement each part of its head, and the Statement, is below
-- The forms of 11.1, and the empty, the `continue` and the `break` statement (12.3, 12.7, 12.8), have no children.
abbrev pub is_beside : Form → ℕ → Bool
is_beside Index place = nat_eq place 0
is_beside Member place = nat_eq place 0
is_beside Call place = nat_eq place 0
is_beside Binary place = nat_eq place 0
is_beside Var place = true
is_beside If place = nat_eq place 2
is_beside _ place = false

-- how deep the nodes of a tree are nested
unfoldable mutual
  pub depth : Tree → ℕ
  depth (TreeOf node children) = depth_with children node.form 0

  -- of a node of such a form that has these children from a place on
  pub depth_with : Trees → Form → ℕ → ℕ
  depth_with NoTrees parent place = 1
  depth_with (OneMore first rest) parent place =
      max (cond (is_beside parent place) (depth first) (suc (depth first))) (depth_with rest parent (suc place))

-- of trees side by side
unfoldable pub deepest : Trees → ℕ
deepest NoTrees = 0
deepest (OneMore first rest) = max (depth first) (deepest rest)
