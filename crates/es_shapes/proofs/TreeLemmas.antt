-- Trees by their numbers: the bound of the recursion doesn't matter above the number, and what is
-- at a number is its row over what is at its children.
use Rattle.std.proofs.Common.{◌≡◌, ℕ, zero, suc, ◌<◌, Bool, true, false, List, [], ◌∷◌, map, Option, Some, None, refl, ap, ap₂, arith}
use Rattle.std.specs.Prelude.{nat_lt, slice_get, if◌then◌else◌}
use Rattle.std.specs.Option.{option_map_or}
use Rattle.es_expressions.specs.Nodes.{NodeRow}
use Rattle.es_expressions.specs.Trees.{Tree}
use Rattle.es_expressions.specs.Trees.Tree.{TreeOf}
use Rattle.es_expressions.specs.Trees.Trees.{OneMore}
use Rattle.es_shapes.specs.Codes.{as_trees, below, no_tree, tree_at, tree_by, tree_with}

-- two ways to give trees that agree below a number
abbrev pub AgreeBelow : (ℕ → Tree) → (ℕ → Tree) → ℕ → Type 0
AgreeBelow f g number = (m : ℕ) → m < number → f m ≡ g m

children-by : (f g : ℕ → Tree) (number : ℕ) → AgreeBelow f g number
    → (child : ℕ) (children : List ℕ)
    → as_trees (map f (below number children)) ≡ as_trees (map g (below number children))
    → (found : Bool) → nat_lt child number ≡ found
    → as_trees (map f (if found then child ∷ below number children else []))
    ≡ as_trees (map g (if found then child ∷ below number children else []))
children-by f g number h child children rest false e = refl
children-by f g number h child children rest true e =
    ap₂ OneMore (h child (grind (arith, e))) rest

trees-agree : (f g : ℕ → Tree) (number : ℕ) → AgreeBelow f g number → (children : List ℕ)
    → as_trees (map f (below number children)) ≡ as_trees (map g (below number children))
trees-agree f g number h [] = refl
trees-agree f g number h (child ∷ children) =
    children-by f g number h child children (trees-agree f g number h children)
    (nat_lt child number) refl

row-agrees : (f g : ℕ → Tree) (number : ℕ) → AgreeBelow f g number → (row : Option NodeRow)
    → option_map_or (tree_with f number) row no_tree
    ≡ option_map_or (tree_with g number) row no_tree
row-agrees f g number h None = refl
row-agrees f g number h (Some row) = ap (TreeOf row.node) (trees-agree f g number h row.children)

tree-bounds : (a b : ℕ) (rows : List NodeRow) (number : ℕ) → number < a → number < b
    → tree_by a rows number ≡ tree_by b rows number
unfolding tree_by
tree-bounds zero b rows number h k = absurd (omega arith)
tree-bounds (suc a) zero rows number h k = absurd (omega arith)
tree-bounds (suc a) (suc b) rows number h k =
    row-agrees (tree_by a rows) (tree_by b rows) number
    (λ m l. tree-bounds a b rows m (omega arith) (omega arith)) (slice_get rows number)

-- the tree at a number is its row over the trees at its children that are below it
pub tree-unfolds : (rows : List NodeRow) (number : ℕ)
    → tree_at rows number
    ≡ option_map_or (tree_with (tree_at rows) number) (slice_get rows number) no_tree
unfolding tree_by
tree-unfolds rows number =
    row-agrees (tree_by number rows) (tree_at rows) number
    (λ m l. tree-bounds number (suc m) rows m l (omega arith)) (slice_get rows number)
