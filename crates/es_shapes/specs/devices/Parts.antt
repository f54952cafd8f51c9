-- A device of the proofs: where the functions of programs are declared, and what stands at the numbers of
-- nodes.
use Rattle.std.specs.Prelude.{◌≡◌, ℕ, ◌+◌, ◌≤◌, List, [], ◌∷◌, ◌++◌, drop, length, take, Option, slice_get}
use Rattle.std.specs.Option.{option_and_then, option_map, option_map_or}
use Rattle.es_expressions.specs.Nodes.{NodeRow}
use Rattle.es_expressions.specs.Trees.{Tree, Trees}
use Rattle.es_expressions.specs.Trees.Trees.{NoTrees}
use Rattle.es_reader.specs.Programs.{ToldFunction, ToldProgram}
use Rattle.es_shapes.specs.declared.codes.Code.{Code}
use Rattle.es_shapes.specs.declared.codes.Listing.{Listing}
use Rattle.es_shapes.specs.declared.codes.Listing.TheVariants.{Top, Body, Inner}
use Rattle.es_shapes.specs.declared.functions.Declared.{Declared}
use Rattle.es_shapes.specs.Codes.{below, function_at, tree_at, trees_at}
use Rattle.es_shapes.specs.Sources.{declarator_of, expression_of, expressions_of, statement_of, statements_of}
use Rattle.es_shapes.specs.Syntax.{Declarator, Expression, Expressions, Function, Statement, Statements}

-- ---- functions by where they are declared

-- the function that is declared at a place
unfoldable pub declared_at : List ToldProgram → Declared → Option Function
declared_at programs declared =
    option_and_then (λ told. option_map (function_at told.rows)
    (slice_get told.functions declared.function)) (slice_get programs declared.program)

-- where the functions of programs are declared, from the program at a place on
abbrev pub places_in : ℕ → ℕ → List ToldFunction → List Declared
places_in program place [] = []
places_in program place (told ∷ functions) =
    record { program = program; function = place } ∷ places_in program (place + 1) functions

abbrev pub places_from : ℕ → List ToldProgram → List Declared
places_from program [] = []
places_from program (told ∷ programs) =
    places_in program 0 told.functions ++ places_from (program + 1) programs

-- the functions of the first programs were found
pub record IsFound (programs : List ToldProgram) (count : ℕ) (found : List Declared) : Type 0 where
  pub within : count ≤ length programs
  pub places : found ≡ places_from 0 (take count programs)

-- ---- codes: nodes of the programs of a list

abbrev pub rows_of : List ToldProgram → ℕ → List NodeRow
rows_of programs place = option_map_or (λ told. told.rows) (slice_get programs place) []

abbrev pub children_of : List ToldProgram → Code → List ℕ
children_of programs code =
    option_map_or (λ row. row.children) (slice_get (rows_of programs code.program) code.node) []

unfoldable pub tree_of : List ToldProgram → Code → Tree
tree_of programs code = tree_at (rows_of programs code.program) code.node

-- the trees of its children from a place on
unfoldable pub trees_from : List ToldProgram → Code → ℕ → Trees
trees_from programs code place =
    trees_at (rows_of programs code.program)
    (below code.node (drop place (children_of programs code)))

abbrev pub expression_at : List ToldProgram → Code → Expression
expression_at programs code = expression_of (tree_of programs code)

abbrev pub statement_at : List ToldProgram → Code → Statement
statement_at programs code = statement_of (tree_of programs code)

abbrev pub declarator_at : List ToldProgram → Code → Declarator
declarator_at programs code = declarator_of (tree_of programs code)

abbrev pub parts_from : List ToldProgram → Code → ℕ → Expressions
parts_from programs code place = expressions_of (trees_from programs code place)

-- ---- statements in a row: of a program, of a function, or of a block

abbrev pub function_trees : List ToldProgram → ℕ → ℕ → ℕ → Trees
function_trees programs program function place =
    option_map_or
    (λ told. option_map_or (λ found. trees_at told.rows (drop place found.body))
    (slice_get told.functions function) NoTrees)
    (slice_get programs program) NoTrees

abbrev pub top_trees_from : List ToldProgram → ℕ → ℕ → Trees
top_trees_from programs program place =
    option_map_or (λ told. trees_at told.rows (drop place told.top)) (slice_get programs program)
    NoTrees

unfoldable pub listed : List ToldProgram → Listing → ℕ → Trees
listed programs (Top program) place = top_trees_from programs program place
listed programs (Body program function) place = function_trees programs program function place
listed programs (Inner block) place = trees_from programs block place

abbrev pub statements_from : List ToldProgram → Listing → ℕ → Statements
statements_from programs listing place = statements_of (listed programs listing place)
