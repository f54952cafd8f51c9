-- Trees as nodes by number, each behind its children (this project's own).
use Rattle.std.specs.Prelude.{◌≡◌, ℕ, List, [], ◌∷◌, Some, slice_get, ◌<◌}
use Rattle.es_expressions.specs.Trees.{Tree, Trees}
use Rattle.es_expressions.specs.Trees.Tree.{TreeOf}
use Rattle.es_expressions.specs.Trees.Trees.{NoTrees, OneMore}
use Rattle.es_expressions.specs.declared.nodes.Node.{Node}
use Rattle.es_expressions.specs.declared.nodes.Row.{Row}

-- a node and the numbers of its children
pub record NodeRow : Type 0 where
  pub node : Node
  pub children : List ℕ

abbrev pub row_of : Row → NodeRow
row_of row = record { node = row.node; children = row.children.items }

-- the tree has this number: its node stands there, its children have the numbers that stand beside it, and
-- these are below its own
unfoldable mutual
  pub IsTreeAt : Tree → List NodeRow → ℕ → Type 0
  IsTreeAt (TreeOf node children) rows number =
      (numbers : List ℕ)
      × (slice_get rows number ≡ Some (record { node = node; children = numbers }))
      × AreTreesAt children rows number numbers

  pub AreTreesAt : Trees → List NodeRow → ℕ → List ℕ → Type 0
  AreTreesAt NoTrees rows bound [] = Unit {0}
  AreTreesAt (OneMore first rest) rows bound (number ∷ numbers) =
      (number < bound) × IsTreeAt first rows number × AreTreesAt rest rows bound numbers
  AreTreesAt NoTrees rows bound (number ∷ numbers) = ⊥
  AreTreesAt (OneMore first rest) rows bound [] = ⊥
