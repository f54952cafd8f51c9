-- What is told of a program stands for it: the trees at the numbers that are told are those of the
-- text.
use Rattle.std.proofs.Common.{◌≡◌, ℕ, List, [], ◌∷◌, map, Some, refl, ap, ap₂, ◌∙◌}
use Rattle.std.specs.List.{AllZip}
use Rattle.std.specs.Option.{option_map_or}
use Rattle.std.specs.Prelude.{slice_get}
use Rattle.es_expressions.specs.Nodes.{AreTreesAt, IsTreeAt, NodeRow}
use Rattle.es_expressions.specs.Trees.{Tree, Trees}
use Rattle.es_expressions.specs.Trees.Tree.{TreeOf}
use Rattle.es_expressions.specs.Trees.Trees.{NoTrees, OneMore}
use Rattle.es_reader.specs.Meaning.{statement_trees}
use Rattle.es_reader.specs.Programs.{AreFunctionsOf, AreTreesOf, IsFunctionOf, Tells, ToldFunction, ToldProgram, functions_of, top_trees}
use Rattle.es_reader.specs.Statements.{Declared, Item}
use Rattle.es_shapes.specs.declared.codes.Listing.TheVariants.{Body, Top}
use Rattle.es_shapes.specs.Codes.{as_trees, below, function_at, no_tree, program_at, tree_at, tree_with, trees_at}
use Rattle.es_shapes.specs.devices.Parts.{listed, statements_from}
use Rattle.es_shapes.specs.Sources.{function_of, program_of}
use Rattle.es_shapes.proofs.CodeLemmas.{child-below}
use Rattle.es_shapes.proofs.TreeLemmas.{tree-unfolds}

mutual
  unfolding IsTreeAt AreTreesAt

  pub tree-is : (tree : Tree) (rows : List NodeRow) (number : ℕ) → IsTreeAt tree rows number
      → tree_at rows number ≡ tree
  tree-is (TreeOf node children) rows number h =
      tree-unfolds rows number
      ∙ (ap (λ row. option_map_or (tree_with (tree_at rows) number) row no_tree) h.1
      ∙ ap (TreeOf node) (children-are children rows number h.0 h.2))

  children-are : (trees : Trees) (rows : List NodeRow) (bound : ℕ) (numbers : List ℕ)
      → AreTreesAt trees rows bound numbers
      → as_trees (map (tree_at rows) (below bound numbers)) ≡ trees
  children-are NoTrees rows bound [] h = refl
  children-are NoTrees rows bound (number ∷ numbers) h = absurd h
  children-are (OneMore first rest) rows bound [] h = absurd h
  children-are (OneMore first rest) rows bound (number ∷ numbers) h =
      ap (λ numbers. as_trees (map (tree_at rows) numbers)) (child-below bound number numbers h.0)
      ∙ ap₂ OneMore (tree-is first rows number h.1) (children-are rest rows bound numbers h.2)

pub trees-are : (trees : Trees) (rows : List NodeRow) (numbers : List ℕ)
    → AreTreesOf trees rows numbers → trees_at rows numbers ≡ trees
trees-are NoTrees rows [] h = refl
trees-are NoTrees rows (number ∷ numbers) h = absurd h
trees-are (OneMore first rest) rows [] h = absurd h
trees-are (OneMore first rest) rows (number ∷ numbers) h =
    ap₂ OneMore (tree-is first rows number h.0) (trees-are rest rows numbers h.1)

-- ---- functions and programs

function-is : (declared : Declared) (rows : List NodeRow) (told : ToldFunction)
    → IsFunctionOf declared rows told → function_at rows told ≡ function_of declared
unfolding function_at
function-is declared rows told h =
    rw (
      h.name,
      h.locals,
      h.parameters,
      trees-are (statement_trees declared.body) rows told.body h.body,
    ) refl

functions-are : (declared : List Declared) (rows : List NodeRow) (told : List ToldFunction)
    → AreFunctionsOf declared rows told → map (function_at rows) told ≡ map function_of declared
functions-are [] rows [] h = refl
functions-are [] rows (told ∷ functions) h = absurd h
functions-are (declared ∷ others) rows [] h = absurd h
functions-are (declared ∷ others) rows (told ∷ functions) h =
    ap₂ (λ first rest. first ∷ rest) (function-is declared rows told h.0)
    (functions-are others rows functions h.1)

pub program-is : (items : List Item) (told : ToldProgram) → Tells items told
    → program_at told ≡ program_of items
unfolding program_at program_of
program-is items told h =
    rw (
      h.variables,
      functions-are (functions_of items) told.rows told.functions h.functions,
      trees-are (top_trees items) told.rows told.top h.top,
    ) refl

pub programs-are : (sources : List (List Item)) (programs : List ToldProgram)
    → AllZip Tells sources programs → map program_at programs ≡ map program_of sources
programs-are [] [] h = refl
programs-are [] (told ∷ programs) h = absurd h
programs-are (items ∷ sources) [] h = absurd h
programs-are (items ∷ sources) (told ∷ programs) h =
    ap₂ (λ first rest. first ∷ rest) (program-is items told h.0)
    (programs-are sources programs h.1)

-- ---- statements in a row

pub top-is : (programs : List ToldProgram) (program : ℕ) (told : ToldProgram)
    → slice_get programs program ≡ Some told
    → statements_from programs (Top program) 0 ≡ (program_at told).body
unfolding listed program_at
top-is programs program told h = rw h refl

pub body-is : (programs : List ToldProgram) (program function : ℕ) (told : ToldProgram)
    (found : ToldFunction) → slice_get programs program ≡ Some told
    → slice_get told.functions function ≡ Some found
    → statements_from programs (Body program function) 0 ≡ (function_at told.rows found).body
unfolding listed function_at
body-is programs program function told found h k = rw (h, k) refl
