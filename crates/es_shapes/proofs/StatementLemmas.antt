-- What forms of statements make of the children of nodes, where these are there and where they
-- aren't.
use Rattle.std.proofs.Common.{◌≡◌, List, [], ◌∷◌, Option, Some, None, refl, ◌∙◌}
use Rattle.std.specs.Option.{option_map, option_map_or}
use Rattle.es_expressions.specs.Trees.{Tree, Trees}
use Rattle.es_expressions.specs.Trees.Trees.{NoTrees, OneMore}
use Rattle.es_expressions.specs.declared.nodes.Form.{Form}
use Rattle.es_expressions.specs.declared.nodes.Form.TheVariants as form
use Rattle.es_reader.specs.Programs.{ToldProgram}
use Rattle.es_shapes.specs.declared.codes.Code.{Code}
use Rattle.es_shapes.specs.devices.Parts.{declarator_at, expression_at, listed, tree_of, trees_from}
use Rattle.es_shapes.specs.devices.Decoding.{first_name, form_of, formed_statement, two_of}
use Rattle.es_shapes.specs.Sources.{declarator_of, declarators_of, expression_of, first_by, first_of, part_by, part_of, statement_by, statement_of, statements_of, value_in, visitor_by, visitor_of, visitor_of_var}
use Rattle.es_shapes.specs.Syntax.{Declarator}
use Rattle.es_shapes.specs.Syntax.Statement.{Empty, Evaluate, If, IfElse, While, For, ForIn}
use Rattle.es_shapes.specs.Syntax.Visitor.{VisitVar}
use Rattle.es_shapes.proofs.ShapeLemmas.{two-are, whole-tree}

-- the statement of a form with these trees
abbrev pub Forms : List ToldProgram → Code → Form → Trees → Type 0
Forms programs code form trees =
    formed_statement programs code form ≡ statement_by form trees (statements_of trees)

formed-by : (programs : List ToldProgram) (code : Code) (shape : Form) (trees : Trees)
    → trees_from programs code 0 ≡ trees → Forms programs code shape trees
unfolding listed
formed-by programs code shape trees h = rw h refl

-- ---- one child

pub evaluate-there : (programs : List ToldProgram) (code : Code) (a : Tree) (rest : Trees)
    → trees_from programs code 0 ≡ OneMore a rest
    → formed_statement programs code form.Expression ≡ Evaluate (expression_of a)
evaluate-there programs code a rest h = formed-by programs code form.Expression (OneMore a rest) h

pub evaluate-past : (programs : List ToldProgram) (code : Code)
    → trees_from programs code 0 ≡ NoTrees
    → formed_statement programs code form.Expression ≡ Empty
evaluate-past programs code h = formed-by programs code form.Expression NoTrees h

-- ---- two children

two-there : (programs : List ToldProgram) (code : Code) (shape : Form) (a b : Tree) (rest : Trees)
    → two_of (trees_from programs code 0)
    ≡ Some (record { first = a; second = b; rest = rest })
    → Forms programs code shape (OneMore a (OneMore b rest))
two-there programs code shape a b rest h =
    formed-by programs code shape (OneMore a (OneMore b rest))
    (two-are (trees_from programs code 0) a b rest h)

pub while-there : (programs : List ToldProgram) (code : Code) (a b : Tree) (rest : Trees)
    → two_of (trees_from programs code 0)
    ≡ Some (record { first = a; second = b; rest = rest })
    → formed_statement programs code form.While ≡ While (expression_of a) (statement_of b)
unfolding statements_of
while-there programs code a b rest h = two-there programs code form.While a b rest h

lacking-while : (trees : Trees) → two_of trees ≡ None
    → statement_by form.While trees (statements_of trees) ≡ Empty
unfolding statements_of
lacking-while NoTrees h = refl
lacking-while (OneMore a NoTrees) h = refl
lacking-while (OneMore a (OneMore b more)) h = absurd (cc)

pub while-past : (programs : List ToldProgram) (code : Code)
    → two_of (trees_from programs code 0) ≡ None
    → formed_statement programs code form.While ≡ Empty
while-past programs code h =
    formed-by programs code form.While (trees_from programs code 0) refl
    ∙ lacking-while (trees_from programs code 0) h

pub if_else-there : (programs : List ToldProgram) (code : Code) (a b d : Tree) (rest more : Trees)
    → two_of (trees_from programs code 0)
    ≡ Some (record { first = a; second = b; rest = rest }) → rest ≡ OneMore d more
    → formed_statement programs code form.If
    ≡ IfElse (expression_of a) (statement_of b) (statement_of d)
unfolding statements_of
if_else-there programs code a b d rest more h k =
    two-there programs code form.If a b rest h ∙ rw k refl

pub if-there : (programs : List ToldProgram) (code : Code) (a b : Tree) (rest : Trees)
    → two_of (trees_from programs code 0)
    ≡ Some (record { first = a; second = b; rest = rest }) → rest ≡ NoTrees
    → formed_statement programs code form.If ≡ If (expression_of a) (statement_of b)
unfolding statements_of
if-there programs code a b rest h k = two-there programs code form.If a b rest h ∙ rw k refl

lacking-if : (trees : Trees) → two_of trees ≡ None
    → statement_by form.If trees (statements_of trees) ≡ Empty
unfolding statements_of
lacking-if NoTrees h = refl
lacking-if (OneMore a NoTrees) h = refl
lacking-if (OneMore a (OneMore b more)) h = absurd (cc)

pub if-past : (programs : List ToldProgram) (code : Code)
    → two_of (trees_from programs code 0) ≡ None
    → formed_statement programs code form.If ≡ Empty
if-past programs code h =
    formed-by programs code form.If (trees_from programs code 0) refl
    ∙ lacking-if (trees_from programs code 0) h

pub for_in-there : (programs : List ToldProgram) (code : Code) (a b d : Tree) (rest more : Trees)
    → two_of (trees_from programs code 0)
    ≡ Some (record { first = a; second = b; rest = rest }) → rest ≡ OneMore d more
    → formed_statement programs code form.ForIn
    ≡ ForIn (visitor_of a) (expression_of b) (statement_of d)
unfolding statements_of
for_in-there programs code a b d rest more h k =
    two-there programs code form.ForIn a b rest h ∙ rw k refl

pub for_in-fewer : (programs : List ToldProgram) (code : Code) (a b : Tree) (rest : Trees)
    → two_of (trees_from programs code 0)
    ≡ Some (record { first = a; second = b; rest = rest }) → rest ≡ NoTrees
    → formed_statement programs code form.ForIn ≡ Empty
unfolding statements_of
for_in-fewer programs code a b rest h k = two-there programs code form.ForIn a b rest h ∙ rw k refl

lacking-for_in : (trees : Trees) → two_of trees ≡ None
    → statement_by form.ForIn trees (statements_of trees) ≡ Empty
unfolding statements_of
lacking-for_in NoTrees h = refl
lacking-for_in (OneMore a NoTrees) h = refl
lacking-for_in (OneMore a (OneMore b more)) h = absurd (cc)

pub for_in-past : (programs : List ToldProgram) (code : Code)
    → two_of (trees_from programs code 0) ≡ None
    → formed_statement programs code form.ForIn ≡ Empty
for_in-past programs code h =
    formed-by programs code form.ForIn (trees_from programs code 0) refl
    ∙ lacking-for_in (trees_from programs code 0) h

-- ---- four children

pub for-there : (programs : List ToldProgram) (code : Code) (a b d e : Tree) (rest more : Trees)
    → two_of (trees_from programs code 0)
    ≡ Some (record { first = a; second = b; rest = rest })
    → two_of rest ≡ Some (record { first = d; second = e; rest = more })
    → formed_statement programs code form.For
    ≡ For (first_of a) (part_of b) (part_of d) (statement_of e)
unfolding statements_of
for-there programs code a b d e rest more h k =
    two-there programs code form.For a b rest h ∙ rw (two-are rest d e more k) refl

fewer-for : (a b : Tree) (rest : Trees) → two_of rest ≡ None
    → statement_by form.For (OneMore a (OneMore b rest))
    (statements_of (OneMore a (OneMore b rest))) ≡ Empty
unfolding statements_of
fewer-for a b NoTrees h = refl
fewer-for a b (OneMore d NoTrees) h = refl
fewer-for a b (OneMore d (OneMore e more)) h = absurd (cc)

pub for-fewer : (programs : List ToldProgram) (code : Code) (a b : Tree) (rest : Trees)
    → two_of (trees_from programs code 0)
    ≡ Some (record { first = a; second = b; rest = rest }) → two_of rest ≡ None
    → formed_statement programs code form.For ≡ Empty
for-fewer programs code a b rest h k =
    two-there programs code form.For a b rest h ∙ fewer-for a b rest k

lacking-for : (trees : Trees) → two_of trees ≡ None
    → statement_by form.For trees (statements_of trees) ≡ Empty
unfolding statements_of
lacking-for NoTrees h = refl
lacking-for (OneMore a NoTrees) h = refl
lacking-for (OneMore a (OneMore b more)) h = absurd (cc)

pub for-past : (programs : List ToldProgram) (code : Code)
    → two_of (trees_from programs code 0) ≡ None
    → formed_statement programs code form.For ≡ Empty
for-past programs code h =
    formed-by programs code form.For (trees_from programs code 0) refl
    ∙ lacking-for (trees_from programs code 0) h

-- ---- what stands at a node of whichever form

pub part-is : (programs : List ToldProgram) (code : Code)
    → part_of (tree_of programs code)
    ≡ part_by (form_of (tree_of programs code)) (expression_at programs code)
unfolding part_of
part-is programs code = rw (whole-tree programs code) refl

pub first-is : (programs : List ToldProgram) (code : Code)
    → first_of (tree_of programs code)
    ≡ first_by (form_of (tree_of programs code)) (expression_at programs code)
    (declarators_of (trees_from programs code 0))
unfolding first_of
first-is programs code = rw (whole-tree programs code) refl

pub visitor-is : (programs : List ToldProgram) (code : Code)
    → visitor_of (tree_of programs code)
    ≡ visitor_by (form_of (tree_of programs code)) (expression_at programs code)
    (declarators_of (trees_from programs code 0))
unfolding visitor_of
visitor-is programs code = rw (whole-tree programs code) refl

pub value-is : (programs : List ToldProgram) (code : Code) (found : Option Code)
    → trees_from programs code 0
    ≡ option_map_or (λ part. OneMore (tree_of programs part) (trees_from programs code 1)) found
    NoTrees
    → value_in (trees_from programs code 0) ≡ option_map (expression_at programs) found
unfolding value_in
value-is programs code None h = rw h refl
value-is programs code (Some part) h = rw h refl

pub visitor_of_var-is : (declarators : List Declarator)
    → visitor_of_var declarators ≡ VisitVar (first_name declarators)
visitor_of_var-is [] = refl
visitor_of_var-is (declarator ∷ declarators) = refl

pub variable-there : (programs : List ToldProgram) (code : Code) (part : Code)
    → trees_from programs code 0 ≡ OneMore (tree_of programs part) (trees_from programs code 1)
    → first_name (declarators_of (trees_from programs code 0)) ≡ (declarator_at programs part).name
unfolding declarators_of
variable-there programs code part h = rw h refl

pub variable-past : (programs : List ToldProgram) (code : Code)
    → trees_from programs code 0 ≡ NoTrees
    → first_name (declarators_of (trees_from programs code 0)) ≡ []
unfolding declarators_of
variable-past programs code h = rw h refl

pub declarator-is : (programs : List ToldProgram) (code : Code) (found : Option Code)
    → trees_from programs code 0
    ≡ option_map_or (λ part. OneMore (tree_of programs part) (trees_from programs code 1)) found
    NoTrees
    → declarator_at programs code
    ≡ record {
      name = (declarator_at programs code).name;
      value = option_map (expression_at programs) found;
    }
unfolding declarator_of
declarator-is programs code found h =
    rw (whole-tree programs code, value-is programs code found h) refl

pub ruleset evaluated = (evaluate-there, evaluate-past)

pub ruleset while_parts = (while-there, while-past)

pub ruleset if_parts = (if_else-there, if-there, if-past)

pub ruleset for_in_parts = (for_in-there, for_in-fewer, for_in-past)

pub ruleset for_parts = (for-there, for-fewer, for-past)

pub ruleset head_parts = (part-is, first-is, visitor-is, visitor_of_var-is)
