-- What forms make of the children of nodes, where these are there and where they aren't.
use Rattle.std.proofs.Common.{◌≡◌, ℕ, List, [], drop, Option, Some, None, refl, ap, ◌∙◌, sym, subst}
use Rattle.std.specs.Option.{option_map, option_map_or}
use Rattle.std.specs.Prelude.{slice_get}
use Rattle.std.proofs.lemmas.Option.{same_Some}
use Rattle.es_expressions.specs.Nodes.{NodeRow}
use Rattle.es_expressions.specs.Trees.{Tree, Trees}
use Rattle.es_expressions.specs.Trees.Tree.{TreeOf}
use Rattle.es_expressions.specs.Trees.Trees.{NoTrees, OneMore}
use Rattle.es_expressions.specs.declared.nodes.Form.TheVariants.{This as ThisForm}
use Rattle.es_expressions.specs.declared.nodes.Node.{Node}
use Rattle.es_reader.specs.Programs.{ToldProgram}
use Rattle.es_shapes.specs.declared.codes.Code.{Code}
use Rattle.es_shapes.specs.Codes.{below, no_tree, tree_at, trees_at, tree_with}
use Rattle.es_shapes.specs.devices.Parts.{declarator_at, expression_at, listed, rows_of, statement_at, tree_of, trees_from}
use Rattle.es_shapes.specs.devices.Decoding.{TwoTrees, form_of, formed, formed_statement, two_of}
use Rattle.es_shapes.specs.Sources.{declarator_of, expression_of, expressions_of, name_in, of_list, of_one, of_three, of_two, statement_of}
use Rattle.es_shapes.specs.Syntax.{Expression, Expressions}
use Rattle.es_shapes.specs.Syntax.Expression.{This}
use Rattle.es_shapes.specs.Syntax.Statement.{Empty}
use Rattle.es_shapes.proofs.TreeLemmas.{tree-unfolds}

-- ---- two children

pub two-are : (trees : Trees) (a b : Tree) (rest : Trees)
    → two_of trees ≡ Some (record { first = a; second = b; rest = rest })
    → trees ≡ OneMore a (OneMore b rest)
two-are NoTrees a b rest h = absurd (cc)
two-are (OneMore c NoTrees) a b rest h = absurd (cc)
two-are (OneMore c (OneMore d more)) a b rest h =
    ap (λ (found : Option TwoTrees). option_map_or
    (λ two. OneMore two.first (OneMore two.second two.rest)) found NoTrees) h

pub two-of_two : (f : Expression → Expression → Expression) (trees rest : Trees) (a b : Tree)
    → two_of trees ≡ Some (record { first = a; second = b; rest = rest })
    → of_two f (expressions_of trees) ≡ f (expression_of a) (expression_of b)
unfolding expressions_of
two-of_two f trees rest a b h = rw (two-are trees a b rest h) refl

pub lacking-of_two : (f : Expression → Expression → Expression) (trees : Trees)
    → two_of trees ≡ None → of_two f (expressions_of trees) ≡ This
unfolding expressions_of
lacking-of_two f NoTrees h = refl
lacking-of_two f (OneMore c NoTrees) h = refl
lacking-of_two f (OneMore c (OneMore d more)) h = absurd (cc)

-- ---- one child, and those behind it

pub first-of_list : (f : Expression → Expressions → Expression) (trees rest : Trees) (a : Tree)
    → trees ≡ OneMore a rest
    → of_list f (expressions_of trees) ≡ f (expression_of a) (expressions_of rest)
unfolding expressions_of
first-of_list f trees rest a h = rw h refl

pub lacking-of_list : (f : Expression → Expressions → Expression) (trees : Trees) → trees ≡ NoTrees
    → of_list f (expressions_of trees) ≡ This
unfolding expressions_of
lacking-of_list f trees h = rw h refl

pub first-of_one : (f : Expression → Expression) (trees rest : Trees) (a : Tree)
    → trees ≡ OneMore a rest → of_one f (expressions_of trees) ≡ f (expression_of a)
unfolding expressions_of
first-of_one f trees rest a h = rw h refl

pub lacking-of_one : (f : Expression → Expression) (trees : Trees) → trees ≡ NoTrees
    → of_one f (expressions_of trees) ≡ This
unfolding expressions_of
lacking-of_one f trees h = rw h refl

pub ruleset two_parts = (two-of_two, lacking-of_two)

pub ruleset listed_parts = (first-of_list, lacking-of_list)

pub ruleset one_part = (first-of_one, lacking-of_one)

-- ---- three children

pub third-of_three : (f : Expression → Expression → Expression → Expression)
    (trees rest more : Trees) (a b d : Tree) → two_of trees ≡ Some (record { first = a; second = b; rest = rest })
    → rest ≡ OneMore d more
    → of_three f (expressions_of trees) ≡ f (expression_of a) (expression_of b) (expression_of d)
unfolding expressions_of
third-of_three f trees rest more a b d h k = rw (two-are trees a b rest h, k) refl

pub fewer-of_three : (f : Expression → Expression → Expression → Expression) (trees rest : Trees)
    (a b : Tree) → two_of trees ≡ Some (record { first = a; second = b; rest = rest })
    → rest ≡ NoTrees → of_three f (expressions_of trees) ≡ This
unfolding expressions_of
fewer-of_three f trees rest a b h k = rw (two-are trees a b rest h, k) refl

pub lacking-of_three : (f : Expression → Expression → Expression → Expression) (trees : Trees)
    → two_of trees ≡ None → of_three f (expressions_of trees) ≡ This
unfolding expressions_of
lacking-of_three f NoTrees h = refl
lacking-of_three f (OneMore a NoTrees) h = refl
lacking-of_three f (OneMore a (OneMore b more)) h = absurd (cc)

pub ruleset three_parts = (third-of_three, fewer-of_three, lacking-of_three)

-- ---- nodes

row-tree : (rows : List NodeRow) (number : ℕ) (found : Option NodeRow) (node : Node)
    → option_map (λ row. row.node) found ≡ Some node
    → option_map_or (tree_with (tree_at rows) number) found no_tree
    ≡ TreeOf node (trees_at rows (below number
    (drop 0 (option_map_or (λ row. row.children) found []))))
row-tree rows number None node h = absurd (cc)
row-tree rows number (Some row) node h =
    ap (λ node. TreeOf node (trees_at rows (below number (drop 0 row.children))))
    (same_Some row.node node h)

no-row : (rows : List NodeRow) (number : ℕ) (found : Option NodeRow)
    → option_map (λ row. row.node) found ≡ None
    → option_map_or (tree_with (tree_at rows) number) found no_tree ≡ no_tree
no-row rows number None h = refl
no-row rows number (Some row) h = absurd (cc)

abbrev pub node_in : List ToldProgram → Code → Option Node
node_in programs code =
    option_map (λ row. row.node) (slice_get (rows_of programs code.program) code.node)

tree-found : (programs : List ToldProgram) (code : Code) (node : Node)
    → node_in programs code ≡ Some node
    → tree_of programs code ≡ TreeOf node (trees_from programs code 0)
unfolding tree_of trees_from
tree-found programs code node h =
    tree-unfolds (rows_of programs code.program) code.node
    ∙ row-tree (rows_of programs code.program) code.node
    (slice_get (rows_of programs code.program) code.node) node h

no-tree-found : (programs : List ToldProgram) (code : Code) → node_in programs code ≡ None
    → tree_of programs code ≡ no_tree
unfolding tree_of
no-tree-found programs code h =
    tree-unfolds (rows_of programs code.program) code.node
    ∙ no-row (rows_of programs code.program) code.node
    (slice_get (rows_of programs code.program) code.node) h

abbrev pub node_of : Tree → Node
node_of (TreeOf node children) = node

row-kept : (rows : List NodeRow) (number : ℕ) (found : Option NodeRow)
    → option_map_or (tree_with (tree_at rows) number) found no_tree
    ≡ TreeOf (node_of (option_map_or (tree_with (tree_at rows) number) found no_tree))
    (trees_at rows (below number (drop 0 (option_map_or (λ row. row.children) found []))))
row-kept rows number None = refl
row-kept rows number (Some row) = refl

-- whatever stands at a node, its children are those that stand there
pub whole-tree : (programs : List ToldProgram) (code : Code)
    → tree_of programs code
    ≡ TreeOf (node_of (tree_of programs code)) (trees_from programs code 0)
unfolding tree_of trees_from
whole-tree programs code =
    subst (λ (tree : Tree). tree ≡ TreeOf (node_of tree) (trees_from programs code 0))
    (sym (tree-unfolds (rows_of programs code.program) code.node))
    (row-kept (rows_of programs code.program) code.node
    (slice_get (rows_of programs code.program) code.node))

pub form-found : (programs : List ToldProgram) (code : Code) (node : Node)
    → node_in programs code ≡ Some node → form_of (tree_of programs code) ≡ node.form
form-found programs code node h = rw (tree-found programs code node h) refl

pub form-missing : (programs : List ToldProgram) (code : Code) → node_in programs code ≡ None
    → form_of (tree_of programs code) ≡ ThisForm
form-missing programs code h = rw (no-tree-found programs code h) refl

pub expression-found : (programs : List ToldProgram) (code : Code) (node : Node)
    → node_in programs code ≡ Some node
    → expression_at programs code ≡ formed programs code node.form node.symbol
unfolding expression_of
expression-found programs code node h = rw (tree-found programs code node h) refl

pub expression-missing : (programs : List ToldProgram) (code : Code) → node_in programs code ≡ None
    → expression_at programs code ≡ This
unfolding expression_of
expression-missing programs code h = rw (no-tree-found programs code h) refl

pub statement-found : (programs : List ToldProgram) (code : Code) (node : Node)
    → node_in programs code ≡ Some node
    → statement_at programs code ≡ formed_statement programs code node.form
unfolding statement_of listed
statement-found programs code node h = rw (tree-found programs code node h) refl

pub statement-missing : (programs : List ToldProgram) (code : Code) → node_in programs code ≡ None
    → statement_at programs code ≡ Empty
unfolding statement_of
statement-missing programs code h = rw (no-tree-found programs code h) refl

pub name-found : (programs : List ToldProgram) (code : Code) (node : Node)
    → node_in programs code ≡ Some node
    → (declarator_at programs code).name ≡ name_in node.symbol
unfolding declarator_of
name-found programs code node h = rw (tree-found programs code node h) refl

pub name-missing : (programs : List ToldProgram) (code : Code) → node_in programs code ≡ None
    → (declarator_at programs code).name ≡ []
unfolding declarator_of
name-missing programs code h = rw (no-tree-found programs code h) refl

pub ruleset found_nodes = (
  form-found,
  form-missing,
  expression-found,
  expression-missing,
  statement-found,
  statement-missing,
  name-found,
  name-missing,
)
