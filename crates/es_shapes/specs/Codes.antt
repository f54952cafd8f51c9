-- Programs by the numbers of their nodes, as they are told: which programs these are. (This project's own.)
use Rattle.std.specs.Prelude.{ℕ, zero, suc, nat_lt, if◌then◌else◌, List, [], ◌∷◌, map, None, slice_get}
use Rattle.std.specs.List.{flat_map}
use Rattle.std.specs.Option.{option_map_or}
use Rattle.es_expressions.specs.Nodes.{NodeRow}
use Rattle.es_expressions.specs.Trees.{Tree, Trees}
use Rattle.es_expressions.specs.Trees.Tree.{TreeOf}
use Rattle.es_expressions.specs.Trees.Trees.{NoTrees, OneMore}
use Rattle.es_expressions.specs.declared.nodes.Form.TheVariants.{This as ThisForm}
use Rattle.es_reader.specs.Programs.{ToldFunction, ToldProgram}
use Rattle.es_shapes.specs.Sources.{statements_of}
use Rattle.es_shapes.specs.Syntax.{Function, Program}

-- ---- trees by their numbers

-- what stands where no node is
abbrev pub no_tree : Tree
no_tree = TreeOf (record { form = ThisForm; start = 0; «end» = 0; symbol = None }) NoTrees

-- children as far as each is below its node
abbrev pub below : ℕ → List ℕ → List ℕ
below number [] = []
below number (child ∷ children) =
    if nat_lt child number then child ∷ below number children else []

abbrev pub as_trees : List Tree → Trees
as_trees [] = NoTrees
as_trees (first ∷ rest) = OneMore first (as_trees rest)

abbrev pub tree_with : (ℕ → Tree) → ℕ → NodeRow → Tree
tree_with child number row =
    TreeOf row.node (as_trees (map child (below number row.children)))

-- the tree at a number, by so many levels
unfoldable pub tree_by : ℕ → List NodeRow → ℕ → Tree
tree_by zero rows number = no_tree
tree_by (suc levels) rows number =
    option_map_or (tree_with (tree_by levels rows) number) (slice_get rows number) no_tree

-- a number has at most as many levels below it
abbrev pub tree_at : List NodeRow → ℕ → Tree
tree_at rows number = tree_by (suc number) rows number

abbrev pub trees_at : List NodeRow → List ℕ → Trees
trees_at rows numbers = as_trees (map (tree_at rows) numbers)

-- ---- programs

unfoldable pub function_at : List NodeRow → ToldFunction → Function
function_at rows told = record {
  name = told.name;
  locals = told.locals;
  parameters = told.parameters;
  body = statements_of (trees_at rows told.body);
}

unfoldable pub program_at : ToldProgram → Program
program_at told = record {
  variables = told.variables;
  functions = map (function_at told.rows) told.functions;
  body = statements_of (trees_at told.rows told.top);
}

-- those of programs, one behind the other
unfoldable pub declared_by : List ToldProgram → List Function
declared_by programs = flat_map (λ told. map (function_at told.rows) told.functions) programs
