-- What is kept of a program stays, or changes with each step.
use Rattle.std.proofs.Common.{◌≡◌, ℕ, Bool, List, [], ◌∷◌, ◌++◌, Option, Some, None, refl, sym, ◌∙◌, ap, subst, arith, max, append_assoc, append-nil}
use Rattle.std.specs.Prelude.{is_some}
use Rattle.es_expressions.specs.Trees.{Tree, Trees, and_then as then_tree}
use Rattle.es_expressions.specs.Trees.Trees.{NoTrees, OneMore as OneMoreTree}
use Rattle.es_expressions.specs.Nodes.{NodeRow, IsTreeAt}
use Rattle.es_reader.specs.Statements.{Head, Statement, Statements, Item, Declared}
use Rattle.es_reader.specs.Statements.Head.{If, While, For, ForIn}
use Rattle.es_reader.specs.Statements.Statements.{NoStatements, OneMore}
use Rattle.es_reader.specs.Statements.Item.{Function, Single}
use Rattle.es_reader.specs.Grammar.{Setting, behind_head, parameter_names}
use Rattle.es_reader.specs.Meaning.{with_head, statement_tree, statement_trees}
use Rattle.es_reader.specs.Levels.{levels, all_levels, item_levels, program_levels}
use Rattle.es_reader.specs.Programs.{ToldFunction, IsFunctionOf, AreTreesOf, AreFunctionsOf, top_trees, functions_of, var_names, all_var_names, outer_names}
use Rattle.es_reader.specs.Openings.{Opening, Outer, place_in}
use Rattle.es_reader.specs.Openings.Opening.{InBlock, InHead, InElse}
use Rattle.es_reader.specs.Openings.Outer.{InProgram, InFunction}
use Rattle.es_reader.specs.Parts.{MayGrow}
use Rattle.es_reader.specs.Standing.{FormStands, FormsStand, MayBeOpen, NamesStand, names_inside, trees_of_opening, in_loop_of}
use Rattle.es_reader.specs.Told.{with_names}
use Rattle.es_reader.specs.declared.openings.OpenForm.{OpenForm}
use Rattle.es_reader.specs.declared.reader.OpenFunction.{OpenFunction}
use Rattle.es_reader.proofs.Steps.{and_then}
use Rattle.es_reader.proofs.TreeLemmas.{trees-grow}
use Rattle.es_reader.proofs.DeclarationLemmas.{with-more}

-- nodes are added

pub form-grows : (form : OpenForm) (rows after : List NodeRow) (inside : Setting) (o : Opening) → MayGrow rows after → FormStands form rows inside o → FormStands form after inside o
form-grows form rows after inside o g h = record { kind = h.kind; is = h.is; start = h.start; trees = trees-grow (trees_of_opening o) rows after form.children.items g h.trees; height = h.height; in_loop = h.in_loop }

pub forms-grow : (forms : List OpenForm) (rows after : List NodeRow) (os : List Opening) (outer : Outer) → MayGrow rows after → FormsStand forms rows os outer → FormsStand forms after os outer
forms-grow [] rows after [] outer g h = tt
forms-grow [] rows after (o ∷ os) outer g h = absurd h
forms-grow (f ∷ fs) rows after [] outer g h = absurd h
forms-grow (f ∷ fs) rows after (o ∷ os) outer g h = (form-grows f rows after (place_in (o ∷ os) outer) o g h.0, forms-grow fs rows after os outer g h.1)

pub open-grows : (function : Option OpenFunction) (rows after : List NodeRow) (outer : Outer) → MayGrow rows after → MayBeOpen function rows outer → MayBeOpen function after outer
open-grows None rows after (InProgram done) g h = tt
open-grows None rows after (InFunction done front body) g h = absurd h
open-grows (Some f) rows after (InProgram done) g h = absurd h
open-grows (Some f) rows after (InFunction done front body) g h = record { name = h.name; parameters = h.parameters; differ = h.differ; body = trees-grow (statement_trees body) rows after f.body.items g h.body; outer = h.outer }

pub functions-grow : (ds : List Declared) (rows after : List NodeRow) (told : List ToldFunction) → MayGrow rows after → AreFunctionsOf ds rows told → AreFunctionsOf ds after told
functions-grow [] rows after [] g h = tt
functions-grow [] rows after (t ∷ ts) g h = absurd h
functions-grow (d ∷ ds) rows after [] g h = absurd h
functions-grow (d ∷ ds) rows after (t ∷ ts) g h = (record { name = h.0.name; locals = h.0.locals; parameters = h.0.parameters; body = trees-grow (statement_trees d.body) rows after t.body g h.0.body }, functions-grow ds rows after ts g h.1)

-- trees and one behind them

pub trees-then : (ts : Trees) (t : Tree) (rows : List NodeRow) (ns : List ℕ) (n : ℕ) → AreTreesOf ts rows ns → IsTreeAt t rows n → AreTreesOf (then_tree ts t) rows (ns ++ (n ∷ []))
trees-then NoTrees t rows [] n h i = (i, tt)
trees-then NoTrees t rows (m ∷ ns) n h i = absurd h
trees-then (OneMoreTree s ts) t rows [] n h i = absurd h
trees-then (OneMoreTree s ts) t rows (m ∷ ns) n h i = (h.0, trees-then ts t rows ns n h.1 i)

pub head-then : (h : Head) (ts : Trees) (t : Tree) → with_head h (then_tree ts t) ≡ then_tree (with_head h ts) t
head-then (If word open_mark test close_mark) ts t = refl
head-then (While word open_mark test close_mark) ts t = refl
head-then (For word open_mark first semicolon test second_semicolon step close_mark) ts t = refl
head-then (ForIn word open_mark visitor in_word object close_mark) ts t = refl

pub with-head-then : (h : Head) (ts : Trees) (t : Tree) (rows : List NodeRow) (ns : List ℕ) (n : ℕ) → AreTreesOf (with_head h ts) rows ns → IsTreeAt t rows n → AreTreesOf (with_head h (then_tree ts t)) rows (ns ++ (n ∷ []))
with-head-then h ts t rows ns n a i = subst (λ (x : Trees). AreTreesOf x rows (ns ++ (n ∷ []))) (sym (head-then h ts t)) (trees-then (with_head h ts) t rows ns n a i)

pub statement-trees-then : (done : Statements) (s : Statement) → statement_trees (and_then done s) ≡ then_tree (statement_trees done) (statement_tree s)
statement-trees-then NoStatements s = refl
statement-trees-then (OneMore d done) s = ap (λ x. OneMoreTree (statement_tree d) x) (statement-trees-then done s)

pub statements-then : (done : Statements) (s : Statement) (rows : List NodeRow) (ns : List ℕ) (n : ℕ) → AreTreesOf (statement_trees done) rows ns → IsTreeAt (statement_tree s) rows n → AreTreesOf (statement_trees (and_then done s)) rows (ns ++ (n ∷ []))
statements-then done s rows ns n a i = subst (λ (x : Trees). AreTreesOf x rows (ns ++ (n ∷ []))) (sym (statement-trees-then done s)) (trees-then (statement_trees done) (statement_tree s) rows ns n a i)

pub top-then : (is : List Item) (s : Statement) → top_trees (is ++ (Single s ∷ [])) ≡ then_tree (top_trees is) (statement_tree s)
top-then [] s = refl
top-then (Function d ∷ is) s = top-then is s
top-then (Single x ∷ is) s = ap (λ y. OneMoreTree (statement_tree x) y) (top-then is s)

pub tops-then : (is : List Item) (s : Statement) (rows : List NodeRow) (ns : List ℕ) (n : ℕ) → AreTreesOf (top_trees is) rows ns → IsTreeAt (statement_tree s) rows n → AreTreesOf (top_trees (is ++ (Single s ∷ []))) rows (ns ++ (n ∷ []))
tops-then is s rows ns n a i = subst (λ (x : Trees). AreTreesOf x rows (ns ++ (n ∷ []))) (sym (top-then is s)) (trees-then (top_trees is) (statement_tree s) rows ns n a i)

pub top-function : (is : List Item) (d : Declared) → top_trees (is ++ (Function d ∷ [])) ≡ top_trees is
top-function [] d = refl
top-function (Function x ∷ is) d = top-function is d
top-function (Single x ∷ is) d = ap (λ y. OneMoreTree (statement_tree x) y) (top-function is d)

pub functions-single : (is : List Item) (s : Statement) → functions_of (is ++ (Single s ∷ [])) ≡ functions_of is
functions-single [] s = refl
functions-single (Function d ∷ is) s = ap (λ x. d ∷ x) (functions-single is s)
functions-single (Single x ∷ is) s = functions-single is s

functions-more : (is : List Item) (d : Declared) → functions_of (is ++ (Function d ∷ [])) ≡ functions_of is ++ (d ∷ [])
functions-more [] d = refl
functions-more (Function x ∷ is) d = ap (λ y. x ∷ y) (functions-more is d)
functions-more (Single x ∷ is) d = functions-more is d

are-functions-more : (ds : List Declared) (d : Declared) (rows : List NodeRow) (told : List ToldFunction) (t : ToldFunction) → AreFunctionsOf ds rows told → IsFunctionOf d rows t → AreFunctionsOf (ds ++ (d ∷ [])) rows (told ++ (t ∷ []))
are-functions-more [] d rows [] t h i = (i, tt)
are-functions-more [] d rows (x ∷ told) t h i = absurd h
are-functions-more (e ∷ ds) d rows [] t h i = absurd h
are-functions-more (e ∷ ds) d rows (x ∷ told) t h i = (h.0, are-functions-more ds d rows told t h.1 i)

pub functions-then : (is : List Item) (d : Declared) (rows : List NodeRow) (told : List ToldFunction) (t : ToldFunction) → AreFunctionsOf (functions_of is) rows told → IsFunctionOf d rows t → AreFunctionsOf (functions_of (is ++ (Function d ∷ []))) rows (told ++ (t ∷ []))
functions-then is d rows told t h i = subst (λ (x : List Declared). AreFunctionsOf x rows (told ++ (t ∷ []))) (sym (functions-more is d)) (are-functions-more (functions_of is) d rows told t h i)

-- levels

pub all-levels-then : (done : Statements) (s : Statement) → all_levels (and_then done s) ≡ max (all_levels done) (levels s)
all-levels-then NoStatements s = omega arith
all-levels-then (OneMore d done) s = let h = all-levels-then done s in omega arith

pub program-levels-then : (is : List Item) (i : Item) → program_levels (is ++ (i ∷ [])) ≡ max (program_levels is) (item_levels i)
program-levels-then [] i = omega arith
program-levels-then (x ∷ is) i = let h = program-levels-then is i in omega arith

-- names

more-behind : (known xs names after more : List (List ℕ)) → names ≡ with_names known (xs ++ []) → after ≡ with_names names more → after ≡ with_names known (xs ++ more)
more-behind known xs names after more h e =
    e ∙ (ap (λ x. with_names x more) h ∙ (sym (with-more known (xs ++ []) more) ∙ ap (λ x. with_names known (x ++ more)) (append-nil xs)))

pub names-then : (names after : List (List ℕ)) (os : List Opening) (outer : Outer) (more : List (List ℕ)) → NamesStand names os outer [] → after ≡ with_names names more → NamesStand after os outer more
names-then names after os (InProgram done) more h e = more-behind [] (names_inside os (outer_names done)) names after more h e
names-then names after os (InFunction done front body) more h e = more-behind (parameter_names front.parameters) (names_inside os (all_var_names body)) names after more h e

pub names-same : (names : List (List ℕ)) (os now : List Opening) (outer : Outer) (more less : List (List ℕ)) → ((front : List (List ℕ)) → names_inside os front ++ more ≡ names_inside now front ++ less) → NamesStand names os outer more → NamesStand names now outer less
names-same names os now (InProgram done) more less f h = h ∙ ap (λ x. with_names [] x) (f (outer_names done))
names-same names os now (InFunction done front body) more less f h = h ∙ ap (λ x. with_names (parameter_names front.parameters) x) (f (all_var_names body))

pub all-names-then : (done : Statements) (s : Statement) → all_var_names (and_then done s) ≡ all_var_names done ++ var_names s
all-names-then NoStatements s = append-nil (var_names s)
all-names-then (OneMore d done) s = ap (λ x. var_names d ++ x) (all-names-then done s) ∙ sym (append_assoc (var_names d) (all_var_names done) (var_names s))

pub outer-single : (is : List Item) (s : Statement) → outer_names (is ++ (Single s ∷ [])) ≡ outer_names is ++ var_names s
outer-single [] s = append-nil (var_names s)
outer-single (Function d ∷ is) s = outer-single is s
outer-single (Single x ∷ is) s = ap (λ y. var_names x ++ y) (outer-single is s) ∙ sym (append_assoc (var_names x) (outer_names is) (var_names s))

pub outer-function : (is : List Item) (d : Declared) → outer_names (is ++ (Function d ∷ [])) ≡ outer_names is
outer-function [] d = refl
outer-function (Function x ∷ is) d = outer-function is d
outer-function (Single x ∷ is) d = ap (λ y. var_names x ++ y) (outer-function is d)

-- whether what is inside stands in a loop

pub loop-inside : (forms : List OpenForm) (rows : List NodeRow) (os : List Opening) (outer : Outer) → FormsStand forms rows os outer → in_loop_of forms ≡ (place_in os outer).in_loop
loop-inside [] rows [] (InProgram done) h = refl
loop-inside [] rows [] (InFunction done front body) h = refl
loop-inside [] rows (o ∷ os) outer h = absurd h
loop-inside (f ∷ fs) rows [] outer h = absurd h
loop-inside (f ∷ fs) rows (o ∷ os) outer h = h.0.in_loop

pub function-inside : (function : Option OpenFunction) (rows : List NodeRow) (os : List Opening) (outer : Outer) (b : Bool) → MayBeOpen function rows outer → b ≡ is_some function → b ≡ (place_in os outer).in_function
function-inside function rows [] outer b h e = e ∙ outside function outer h
  where
    outside : (function : Option OpenFunction) (outer : Outer) → MayBeOpen function rows outer → is_some function ≡ (place_in [] outer).in_function
    outside None (InProgram done) h = refl
    outside None (InFunction done front body) h = absurd h
    outside (Some f) (InProgram done) h = absurd h
    outside (Some f) (InFunction done front body) h = refl
function-inside function rows (InBlock o done ∷ os) outer b h e = function-inside function rows os outer b h e
function-inside function rows (InHead head ∷ os) outer b h e = function-inside function rows os outer b h e ∙ behind head (place_in os outer)
  where
    behind : (h : Head) (p : Setting) → p.in_function ≡ (behind_head h p).in_function
    behind (If word open_mark test close_mark) p = refl
    behind (While word open_mark test close_mark) p = refl
    behind (For word open_mark first semicolon test second_semicolon step close_mark) p = refl
    behind (ForIn word open_mark visitor in_word object close_mark) p = refl
function-inside function rows (InElse head body else_word ∷ os) outer b h e = function-inside function rows os outer b h e
