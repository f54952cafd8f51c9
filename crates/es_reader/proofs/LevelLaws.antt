-- The levels of a statement are the depth of its tree.
use Rattle.std.proofs.Common.{◌≡◌, ℕ, suc, false, cond, List, [], ◌∷◌, Option, Some, None, refl, sym, ◌∙◌, ap, arith, max}
use Rattle.es_expressions.specs.Phrases.{Phrase}
use Rattle.es_expressions.specs.Trees.{Tree, Trees, is_beside, depth, depth_with, deepest}
use Rattle.es_expressions.specs.Trees.Tree.{TreeOf}
use Rattle.es_expressions.specs.Trees.Trees.{NoTrees, OneMore as OneMoreTree}
use Rattle.es_expressions.specs.Meaning.{node, one, two, tree_of}
use Rattle.es_expressions.specs.declared.lexemes.Lexeme.{Lexeme}
use Rattle.es_expressions.specs.declared.lexemes.Symbol.{Symbol}
use Rattle.es_expressions.specs.declared.nodes.Node.{Node}
use Rattle.es_expressions.specs.declared.nodes.Form.{Form}
use Rattle.es_expressions.specs.declared.nodes.Form.TheVariants.{Var as VarForm, Declarator as DeclaratorForm, If as IfForm, While as WhileForm, For as ForForm, ForIn as ForInForm}
use Rattle.es_reader.specs.Statements.{Declaration, FurtherDeclaration, Declarations, Simple, First, Visitor, Head, Statement, Statements}
use Rattle.es_reader.specs.Statements.Declaration.{Bare, Valued}
use Rattle.es_reader.specs.Statements.Simple.{Var, Empty, Expression, Jump, Return}
use Rattle.es_reader.specs.Statements.First.{NoFirst, FirstExpression, FirstVar}
use Rattle.es_reader.specs.Statements.Visitor.{Target, Variable}
use Rattle.es_reader.specs.Statements.Head.{If, While, For, ForIn}
use Rattle.es_reader.specs.Statements.Statement.{Alone, Block, Headed, IfElse}
use Rattle.es_reader.specs.Statements.Statements.{NoStatements, OneMore}
use Rattle.es_reader.specs.Grammar.{Setting, IsStatement, AreStatements, behind_head}
use Rattle.es_reader.specs.Meaning.{declaration_tree, further_trees, declaration_trees, simple_tree, part_tree, first_tree, visitor_tree, head_form, with_head, statement_tree, statement_trees}
use Rattle.es_reader.specs.Levels.{levels_of, part_levels, declaration_levels, further_levels, var_levels, simple_levels, first_levels, visitor_levels, head_levels, levels, all_levels}

-- the depth of a node by its children

-- nodes of a form all of whose children are below
abbrev pub IsPlain : Form → Type 0
IsPlain parent = (place : ℕ) → is_beside parent place ≡ false

plain-with : (kids : Trees) (parent : Form) (place : ℕ) → IsPlain parent → depth_with kids parent place ≡ suc (deepest kids)
unfolding depth depth_with deepest
plain-with NoTrees parent place h = refl
plain-with (OneMoreTree t ts) parent place h =
    let below : cond (is_beside parent place) (depth t) (suc (depth t)) ≡ suc (depth t) = ap (λ x. cond x (depth t) (suc (depth t))) (h place) in
    let others = plain-with ts parent (suc place) h in
    let here : depth_with (OneMoreTree t ts) parent place ≡ max (cond (is_beside parent place) (depth t) (suc (depth t))) (depth_with ts parent (suc place)) = refl in
    let both : deepest (OneMoreTree t ts) ≡ max (depth t) (deepest ts) = refl in
    omega arith

plain : (nd : Node) (kids : Trees) → IsPlain nd.form → depth (TreeOf nd kids) ≡ suc (deepest kids)
unfolding depth depth_with deepest
plain nd kids h = plain-with kids nd.form 0 h

none : (nd : Node) → depth (TreeOf nd NoTrees) ≡ 1
unfolding depth depth_with
none nd = refl

deepest-none : deepest NoTrees ≡ 0
unfolding deepest
deepest-none = refl

deepest-one : (t : Tree) → deepest (one t) ≡ depth t
unfolding deepest
deepest-one t = let a : deepest (one t) ≡ max (depth t) 0 = refl in omega arith

deepest-more : (t : Tree) (ts : Trees) → deepest (OneMoreTree t ts) ≡ max (depth t) (deepest ts)
unfolding deepest
deepest-more t ts = refl

under : (nd : Node) (t : Tree) → IsPlain nd.form → suc (depth t) ≡ depth (TreeOf nd (one t))
under nd t h = ap suc (sym (deepest-one t)) ∙ sym (plain nd (one t) h)

if-alone : (start stop : ℕ) (symbol : Option Symbol) (t b : Tree) → depth (TreeOf (node IfForm start stop symbol) (two t b)) ≡ suc (max (depth t) (depth b))
unfolding depth depth_with
if-alone start stop symbol t b =
    let a : depth (TreeOf (node IfForm start stop symbol) (two t b)) ≡ max (suc (depth t)) (max (suc (depth b)) 1) = refl in
    omega arith

if-else : (start stop : ℕ) (symbol : Option Symbol) (t b e : Tree) → depth (TreeOf (node IfForm start stop symbol) (OneMoreTree t (two b e))) ≡ max (suc (max (depth t) (depth b))) (depth e)
unfolding depth depth_with
if-else start stop symbol t b e =
    let a : depth (TreeOf (node IfForm start stop symbol) (OneMoreTree t (two b e))) ≡ max (suc (depth t)) (max (suc (depth b)) (max (depth e) 1)) = refl in
    omega arith

-- declarations

declaration : (d : Declaration) → declaration_levels d ≡ depth (declaration_tree d)
declaration (Bare name) = sym (none (node DeclaratorForm name.start name.«end» (Some name.symbol)))
declaration (Valued name operator value) = under _ (tree_of value) (λ place. refl)

further : (others : List FurtherDeclaration) (place : ℕ) → further_levels others ≡ depth_with (further_trees others) VarForm place
unfolding depth depth_with
further [] place = refl
further (d ∷ others) place =
    let a = declaration d.declaration in
    let b = further others (suc place) in
    let c : depth_with (further_trees (d ∷ others)) VarForm place ≡ max (depth (declaration_tree d.declaration)) (depth_with (further_trees others) VarForm (suc place)) = refl in
    omega arith

declarations : (ds : Declarations) (start stop : ℕ) → var_levels ds ≡ depth (TreeOf (node VarForm start stop None) (declaration_trees ds))
unfolding depth depth_with
declarations ds start stop =
    let a = declaration ds.first in
    let b = further ds.others 1 in
    let c : depth (TreeOf (node VarForm start stop None) (declaration_trees ds)) ≡ max (depth (declaration_tree ds.first)) (depth_with (further_trees ds.others) VarForm 1) = refl in
    omega arith

-- statements

simple : (s : Simple) → simple_levels s ≡ depth (simple_tree s)
simple (Var word ds semicolon) = declarations ds _ _
simple (Empty semicolon) = sym (none _)
simple (Expression expression semicolon) = under _ (tree_of expression) (λ place. refl)
simple (Jump word semicolon) = sym (none _)
simple (Return word None semicolon) = sym (none _)
simple (Return word (Some value) semicolon) = under _ (tree_of value) (λ place. refl)

part : (p : Option Phrase) (next : Lexeme) → part_levels p ≡ depth (part_tree p next)
part None next = sym (none _)
part (Some expression) next = refl

first : (f : First) (next : Lexeme) → first_levels f ≡ depth (first_tree f next)
first NoFirst next = sym (none _)
first (FirstExpression expression) next = refl
first (FirstVar word ds) next = declarations ds _ _

visitor : (v : Visitor) → visitor_levels v ≡ depth (visitor_tree v)
visitor (Target target) = refl
visitor (Variable word name) = declarations (record { first = Bare name; others = [] }) word.start name.«end»

-- a head and one statement behind it
headed : (head : Head) (start stop : ℕ) (body : Tree) → suc (max (head_levels head) (depth body)) ≡ depth (TreeOf (node (head_form head) start stop None) (with_head head (one body)))
headed (If word open_mark test close_mark) start stop body = sym (if-alone start stop None (tree_of test) body)
headed (While word open_mark test close_mark) start stop body =
    let a = plain (node WhileForm start stop None) (two (tree_of test) body) (λ place. refl) in
    let b = deepest-more (tree_of test) (one body) in
    let c = deepest-one body in
    omega arith
headed (For word open_mark f semicolon test second_semicolon step close_mark) start stop body =
    let a = plain (node ForForm start stop None) (with_head (For word open_mark f semicolon test second_semicolon step close_mark) (one body)) (λ place. refl) in
    let b = deepest-more (first_tree f semicolon) (OneMoreTree (part_tree test second_semicolon) (OneMoreTree (part_tree step close_mark) (one body))) in
    let c = deepest-more (part_tree test second_semicolon) (OneMoreTree (part_tree step close_mark) (one body)) in
    let d = deepest-more (part_tree step close_mark) (one body) in
    let e = deepest-one body in
    let x = first f semicolon in
    let y = part test second_semicolon in
    let z = part step close_mark in
    omega arith
headed (ForIn word open_mark v in_word object close_mark) start stop body =
    let a = plain (node ForInForm start stop None) (OneMoreTree (visitor_tree v) (two (tree_of object) body)) (λ place. refl) in
    let b = deepest-more (visitor_tree v) (two (tree_of object) body) in
    let c = deepest-more (tree_of object) (one body) in
    let d = deepest-one body in
    let x = visitor v in
    omega arith

mutual
  pub are-levels : (place : Setting) (s : Statement) (rest : List Lexeme) → IsStatement place s rest → levels s ≡ depth (statement_tree s)
  are-levels place (Alone s) rest h = simple s
  are-levels place (Block open_mark inner close_mark) rest h =
      ap suc (all-are-levels place inner (close_mark ∷ rest) h.1) ∙ sym (plain _ (statement_trees inner) (λ n. refl))
  are-levels place (Headed head body) rest h =
      ap (λ n. suc (max (head_levels head) n)) (are-levels (behind_head head place) body rest h.1) ∙ headed head _ _ (statement_tree body)
  are-levels place (IfElse (If word open_mark test close_mark) body else_word other) rest h =
      ap (λ n. max (suc (max (levels_of test) n)) (levels other)) (are-levels place body _ h.2)
      ∙ ap (λ n. max (suc (max (levels_of test) (depth (statement_tree body)))) n) (are-levels place other rest h.4)
      ∙ sym (if-else _ _ None (tree_of test) (statement_tree body) (statement_tree other))
  are-levels place (IfElse _ body else_word other) rest h = absurd (cc (h.1))

  pub all-are-levels : (place : Setting) (ss : Statements) (rest : List Lexeme) → AreStatements place ss rest → all_levels ss ≡ deepest (statement_trees ss)
  all-are-levels place NoStatements rest h = sym deepest-none
  all-are-levels place (OneMore s ss) rest h =
      let a = are-levels place s _ h.0 in
      let b = all-are-levels place ss rest h.1 in
      let c = deepest-more (statement_tree s) (statement_trees ss) in
      omega arith
