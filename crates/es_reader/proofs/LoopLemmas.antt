-- The steps of the reader's loop.
use Rattle.std.proofs.Common.{◌≡◌, ℕ, ◌+◌, ◌≤◌, Bool, true, false, List, [], ◌∷◌, ◌++◌, length, Option, Some, None, refl, sym, ◌∙◌, ap, subst, arith, drop, min, max, append_assoc, append-nil}
use Rattle.std.specs.Prelude.{map, is_some, slice_index_or, Result, Ok, Err, OnOk}
use Rattle.std.proofs.lemmas.Option.{slice_get_within, get_or_from_slice_get}
use Rattle.std.proofs.Math.ListN.{drop_of_length-le}
use Rattle.es_lexer.specs.declared.words.ReservedWord.TheVariants.{Else}
use Rattle.es_lexer.specs.declared.punctuators.Punctuator.TheVariants.{OpenBrace, CloseBrace}
use Rattle.es_expressions.specs.Trees.{Trees}
use Rattle.es_expressions.specs.Trees.Trees.{NoTrees}
use Rattle.es_expressions.specs.Meaning.{node, one, two}
use Rattle.es_expressions.specs.Nodes.{NodeRow, IsTreeAt}
use Rattle.es_expressions.specs.declared.lexemes.Lexeme.{Lexeme}
use Rattle.es_expressions.specs.declared.nodes.Form.{Form}
use Rattle.es_expressions.specs.declared.nodes.Form.TheVariants.{If as IfForm, Block as BlockForm}
use Rattle.es_reader.specs.Statements.{Head, Simple, Statement, Statements, Item, Declared}
use Rattle.es_reader.specs.Statements.Head.{If, While, For, ForIn}
use Rattle.es_reader.specs.Statements.Statement.{Alone, Block, Headed, IfElse}
use Rattle.es_reader.specs.Statements.Statements.{NoStatements}
use Rattle.es_reader.specs.Statements.Item.{Function, Single}
use Rattle.es_reader.specs.Grammar.{Setting, setting, IsMark, IsWord, behind_head, is_if, NoElse, parameter_names, IsProgram}
use Rattle.es_reader.specs.Meaning.{head_form, head_start, with_head, statement_tree, statement_trees, statement_end}
use Rattle.es_reader.specs.Levels.{program_levels}
use Rattle.es_reader.specs.Programs.{AreTreesOf, AreFunctionsOf, IsFunctionOf, Tells, ToldFunction, ToldProgram, top_trees, functions_of, var_names, all_var_names, outer_names, head_names, simple_names}
use Rattle.es_reader.specs.Openings.{Opening, Front, Outer, place_in}
use Rattle.es_reader.specs.Openings.Opening.{InBlock, InHead, InElse}
use Rattle.es_reader.specs.Openings.Outer.{InProgram, InFunction}
use Rattle.es_reader.specs.ExpressionFacts.{ExpressionFacts}
use Rattle.es_reader.specs.Parts.{IsThere, MayGrow}
use Rattle.es_reader.specs.Simples.{IsSimpleAt}
use Rattle.es_reader.specs.Heads.{IsHeadAt}
use Rattle.es_reader.specs.Fronts.{IsFrontAt}
use Rattle.es_reader.specs.Standing.{FormsStand, FunctionStands, MayBeOpen, NamesStand, names_inside, Keeps, in_loop_of, items_of_outer, Stands, Ended, ReadsTo, Holds, GoesTo, IsKept, OpensHead, EndsForm, Puts, HasOneMore, IsOutcome}
use Rattle.es_reader.specs.Told.{told_function, with_names}
use Rattle.es_reader.specs.declared.function_fronts.FrontRead.{FrontRead}
use Rattle.es_reader.specs.declared.heads.HeadRead.{HeadRead}
use Rattle.es_reader.specs.declared.openings.OpenForm.{OpenForm}
use Rattle.es_reader.specs.declared.openings.OpenKind.TheVariants.{Block as BlockKind, Head as HeadKind, Else as ElseKind}
use Rattle.es_reader.specs.declared.programs.FunctionDecl.{FunctionDecl}
use Rattle.es_reader.specs.declared.reader.OpenFunction.{OpenFunction}
use Rattle.es_reader.specs.declared.reader.Reading.{Reading}
use Rattle.es_reader.specs.declared.reader.Reading.TheVariants.{Whole, TooDeep}
use Rattle.es_reader.specs.declared.reader.Reader.{Reader}
use Rattle.es_reader.specs.declared.simples.Stated.{Stated}
use Rattle.es_reader.proofs.Steps.{and_then, place-behind}
use Rattle.es_reader.proofs.Uniqueness.{declared_of}
use Rattle.es_reader.proofs.Standing.{stands-first, ended-simple, stands-head, stands-block, ended-block, stands-front, stands-function, stands-in-block, stands-in-function, stands-in-program, ended-head, stands-else, ended-else, is-program}
use Rattle.es_reader.proofs.RangeLemmas.{drop-there, there-of}
use Rattle.es_reader.proofs.TreeLemmas.{row, pushed-tree, trees-grow}
use Rattle.es_reader.proofs.NameLemmas.{locals-are, names-once}
use Rattle.es_reader.proofs.KeepLemmas.{forms-grow, open-grows, functions-grow, statements-then, with-head-then, tops-then, top-function, functions-single, functions-then, all-levels-then, program-levels-then, names-then, names-same, all-names-then, outer-single, outer-function, loop-inside}

pub reads-first : (tokens : List Lexeme) (reader : Reader) → reader.forms ≡ [] → reader.function ≡ None → reader.names ≡ [] → reader.top.items ≡ [] → reader.functions.items ≡ [] → reader.height ≡ 0 → ReadsTo tokens 0 reader
reads-first tokens reader f o n t g h = record {
  within = omega arith;
  openings = [];
  outer = InProgram [];
  stands = λ facts. stands-first tokens;
  keeps = record {
    forms = subst (λ (x : List OpenForm). FormsStand x reader.nodes [] (InProgram [])) (sym f) tt;
    function = subst (λ (x : Option OpenFunction). MayBeOpen x reader.nodes (InProgram [])) (sym o) tt;
    names = n;
    top = subst (λ (x : List ℕ). AreTreesOf (top_trees []) reader.nodes x) (sym t) tt;
    functions = subst (λ (x : List FunctionDecl). AreFunctionsOf (functions_of []) reader.nodes (map told_function x)) (sym g) tt;
    height = h;
  };
}

-- what is kept where only nodes were added, and names

pub keeps-on : (before after : Reader) (os : List Opening) (outer : Outer) (more : List (List ℕ)) → Keeps before os outer [] → MayGrow before.nodes after.nodes → after.forms ≡ before.forms → after.function ≡ before.function → after.names ≡ with_names before.names more → after.top ≡ before.top → after.functions ≡ before.functions → after.height ≡ before.height → Keeps after os outer more
keeps-on before after os outer more k g f o n t fs h = record {
  forms = subst (λ (x : List OpenForm). FormsStand x after.nodes os outer) (sym f) (forms-grow before.forms before.nodes after.nodes os outer g k.forms);
  function = subst (λ (x : Option OpenFunction). MayBeOpen x after.nodes outer) (sym o) (open-grows before.function before.nodes after.nodes outer g k.function);
  names = names-then before.names after.names os outer more k.names n;
  top = subst (λ x. AreTreesOf (top_trees (items_of_outer outer)) after.nodes x.items) (sym t) (trees-grow (top_trees (items_of_outer outer)) before.nodes after.nodes before.top.items g k.top);
  functions = subst (λ x. AreFunctionsOf (functions_of (items_of_outer outer)) after.nodes (map told_function x.items)) (sym fs) (functions-grow (functions_of (items_of_outer outer)) before.nodes after.nodes (map told_function before.functions.items) g k.functions);
  height = h ∙ k.height;
}

pub simple-held : (tokens : List Lexeme) (place : ℕ) (in_loop in_function : Bool) (before after : Reader) (stated : Stated) (r : ReadsTo tokens place before)
    → (x : Simple) × IsSimpleAt (place_in r.openings r.outer) tokens place after.nodes x before.names after.names stated → MayGrow before.nodes after.nodes
    → after.forms ≡ before.forms → after.function ≡ before.function → after.top ≡ before.top → after.functions ≡ before.functions → after.height ≡ before.height → Holds tokens stated after
simple-held tokens place in_loop in_function before after stated r xs g f o t fs h =
    let x = xs.1 in
    record {
      within = x.within;
      openings = r.openings;
      outer = r.outer;
      statement = Alone xs.0;
      ends = λ facts. ended-simple facts r.openings r.outer tokens place stated.behind xs.0 (r.stands facts) x.within x.is x.is_spelled;
      keeps = keeps-on before after r.openings r.outer (simple_names xs.0) r.keeps g f o x.names t fs h;
      tree = x.tree;
      height = x.height;
      stops = x.stops;
    }

-- a head

loop-behind : (h : Head) (form : OpenForm) (p : Setting) (which : Form) (c : Bool) → which ≡ head_form h → c ≡ p.in_loop → (which ≡ IfForm → form.in_loop ≡ c) → ((which ≡ IfForm → ⊥) → form.in_loop ≡ true) → form.in_loop ≡ (behind_head h p).in_loop
loop-behind (If word open_mark test close_mark) form p which c f l g k = g f ∙ l
loop-behind (While word open_mark test close_mark) form p which c f l g k = k (λ e. absurd (cc))
loop-behind (For word open_mark first semicolon test second_semicolon step close_mark) form p which c f l g k = k (λ e. absurd (cc))
loop-behind (ForIn word open_mark visitor in_word object close_mark) form p which c f l g k = k (λ e. absurd (cc))

pub head-opened : (tokens : List Lexeme) (place : ℕ) (before middle after : Reader) (head : HeadRead) → ReadsTo tokens place before
    → (h : Head) × IsHeadAt tokens place middle.nodes h before.names middle.names head → MayGrow before.nodes middle.nodes
    → middle.forms ≡ before.forms → middle.function ≡ before.function → middle.top ≡ before.top → middle.functions ≡ before.functions → middle.height ≡ before.height
    → OpensHead head middle after → GoesTo tokens place head.behind after
head-opened tokens place before middle after head r hs g f o t fs tall p =
    let h = hs.0 in
    let x = hs.1 in
    let k = keeps-on before middle r.openings r.outer (head_names h) r.keeps g f o x.names t fs tall in
    let loop : in_loop_of middle.forms ≡ (place_in r.openings r.outer).in_loop = loop-inside middle.forms middle.nodes r.openings r.outer k.forms in
    record {
      further = x.from;
      reads = record {
        within = x.within;
        openings = InHead h ∷ r.openings;
        outer = r.outer;
        stands = λ facts. stands-head facts r.openings r.outer tokens place head.behind h (r.stands facts) x.within x.is x.is_spelled;
        keeps = record {
          forms = subst (λ (fs : List OpenForm). FormsStand fs after.nodes (InHead h ∷ r.openings) r.outer) (sym p.pushed)
              (subst (λ (rows : List NodeRow). FormsStand (p.form ∷ middle.forms) rows (InHead h ∷ r.openings) r.outer) (sym p.nodes) (
                record {
                  kind = p.kind;
                  is = p.is ∙ x.form;
                  start = p.start ∙ x.start;
                  trees = subst (λ (ns : List ℕ). AreTreesOf (with_head h NoTrees) middle.nodes ns) (sym p.children) x.trees;
                  height = p.height ∙ x.height;
                  in_loop = loop-behind h p.form (place_in r.openings r.outer) head.form (in_loop_of middle.forms) x.form loop p.in_if p.in_loop;
                },
                k.forms,
              ));
          function = subst (λ (fn : Option OpenFunction). MayBeOpen fn after.nodes r.outer) (sym p.function) (subst (λ (rows : List NodeRow). MayBeOpen middle.function rows r.outer) (sym p.nodes) k.function);
          names = names-same after.names r.openings (InHead h ∷ r.openings) r.outer (head_names h) [] (λ names. sym (append-nil (names_inside r.openings names ++ head_names h)))
              (subst (λ (ns : List (List ℕ)). NamesStand ns r.openings r.outer (head_names h)) (sym p.names) k.names);
          top = subst (λ x. AreTreesOf (top_trees (items_of_outer r.outer)) after.nodes x.items) (sym p.top) (subst (λ (rows : List NodeRow). AreTreesOf (top_trees (items_of_outer r.outer)) rows middle.top.items) (sym p.nodes) k.top);
          functions = subst (λ x. AreFunctionsOf (functions_of (items_of_outer r.outer)) after.nodes (map told_function x.items)) (sym p.functions) (subst (λ (rows : List NodeRow). AreFunctionsOf (functions_of (items_of_outer r.outer)) rows (map told_function middle.functions.items)) (sym p.nodes) k.functions);
          height = p.tall ∙ k.height;
        };
      };
    }

-- a block

pub block-opened : (tokens : List Lexeme) (place : ℕ) (before after : Reader) (form : OpenForm) (t : Lexeme) → ReadsTo tokens place before → IsThere (IsMark OpenBrace) tokens place
    → after.forms ≡ form ∷ before.forms → form.kind ≡ BlockKind → form.form ≡ BlockForm → form.start ≡ (slice_index_or tokens place t).start → form.children.items ≡ [] → form.height ≡ 0 → form.in_loop ≡ in_loop_of before.forms
    → after.nodes ≡ before.nodes → after.function ≡ before.function → after.names ≡ before.names → after.top ≡ before.top → after.functions ≡ before.functions → after.height ≡ before.height
    → GoesTo tokens place (place + 1) after
block-opened tokens place before after form t r there pushed fk ff fs fc fh fl n o m tp fns tall =
    let k = r.keeps in
    let token = there.0 in
    let within : place + 1 ≤ length tokens = let l = slice_get_within tokens place token there.1 in omega arith in
    record {
      further = omega arith;
      reads = record {
        within = within;
        openings = InBlock token NoStatements ∷ r.openings;
        outer = r.outer;
        stands = λ facts. stands-block facts r.openings r.outer tokens place (place + 1) token (r.stands facts) within there.2 (sym (drop-there tokens place token there.1));
        keeps = record {
          forms = subst (λ (xs : List OpenForm). FormsStand xs after.nodes (InBlock token NoStatements ∷ r.openings) r.outer) (sym pushed)
              (subst (λ (rows : List NodeRow). FormsStand (form ∷ before.forms) rows (InBlock token NoStatements ∷ r.openings) r.outer) (sym n) (
                record {
                  kind = fk;
                  is = ff;
                  start = fs ∙ ap (λ x. x.start) (get_or_from_slice_get tokens place token t there.1);
                  trees = subst (λ (ns : List ℕ). AreTreesOf (statement_trees NoStatements) before.nodes ns) (sym fc) tt;
                  height = fh;
                  in_loop = fl ∙ loop-inside before.forms before.nodes r.openings r.outer k.forms;
                },
                k.forms,
              ));
          function = subst (λ (fn : Option OpenFunction). MayBeOpen fn after.nodes r.outer) (sym o) (subst (λ (rows : List NodeRow). MayBeOpen before.function rows r.outer) (sym n) k.function);
          names = names-same after.names r.openings (InBlock token NoStatements ∷ r.openings) r.outer [] [] (λ names. sym (append-nil (names_inside r.openings names ++ [])))
              (subst (λ (ns : List (List ℕ)). NamesStand ns r.openings r.outer []) (sym m) k.names);
          top = subst (λ x. AreTreesOf (top_trees (items_of_outer r.outer)) after.nodes x.items) (sym tp) (subst (λ (rows : List NodeRow). AreTreesOf (top_trees (items_of_outer r.outer)) rows before.top.items) (sym n) k.top);
          functions = subst (λ x. AreFunctionsOf (functions_of (items_of_outer r.outer)) after.nodes (map told_function x.items)) (sym fns) (subst (λ (rows : List NodeRow). AreFunctionsOf (functions_of (items_of_outer r.outer)) rows (map told_function before.functions.items)) (sym n) k.functions);
          height = tall ∙ k.height;
        };
      };
    }

-- functions

pub function-opened : (tokens : List Lexeme) (place : ℕ) (before after : Reader) (function : OpenFunction) (front : FrontRead) → ReadsTo tokens place before → before.forms ≡ [] → is_some before.function ≡ false
    → (f : Front) × IsFrontAt tokens place f front → after.function ≡ Some function → function.name ≡ front.name → function.parameters ≡ front.parameters → function.body.items ≡ [] → function.outer ≡ before.names → after.names ≡ front.names
    → after.nodes ≡ before.nodes → after.forms ≡ before.forms → after.top ≡ before.top → after.functions ≡ before.functions → after.height ≡ before.height → GoesTo tokens place front.behind after
function-opened tokens place before after function front r none closed fs fn nm ps bd ou ns nd fo tp fc tall = of r.openings r.outer r.stands r.keeps
  where
    of : (os : List Opening) (outer : Outer) → (ExpressionFacts → Stands os outer tokens place) → Keeps before os outer [] → GoesTo tokens place front.behind after
    of (o ∷ os) outer s k = absurd (subst (λ (x : List OpenForm). FormsStand x before.nodes (o ∷ os) outer) none k.forms)
    of [] (InFunction done g body) s k = absurd (inside before.function k.function closed)
      where
        inside : (f : Option OpenFunction) → MayBeOpen f before.nodes (InFunction done g body) → is_some f ≡ false → ⊥
        inside None h e = h
        inside (Some f) h e = absurd (cc)
    of [] (InProgram done) s k =
        let f = fs.0 in
        let x = fs.1 in
        record {
          further = x.from;
          reads = record {
            within = x.within;
            openings = [];
            outer = InFunction done f NoStatements;
            stands = λ facts. stands-front facts done tokens place front.behind f (s facts) x.within x.is x.is_spelled;
            keeps = record {
              forms = subst (λ (y : List OpenForm). FormsStand y after.nodes [] (InFunction done f NoStatements)) (sym (fo ∙ none)) tt;
              function = subst (λ (y : Option OpenFunction). MayBeOpen y after.nodes (InFunction done f NoStatements)) (sym fn)
                  (record {
                    name = nm ∙ x.name;
                    parameters = ps ∙ x.parameters;
                    differ = x.is.differ;
                    body = subst (λ (y : List ℕ). AreTreesOf (statement_trees NoStatements) after.nodes y) (sym bd) tt;
                    outer = ou ∙ (k.names ∙ ap (λ xs. with_names [] xs) (append-nil (outer_names done)));
                  });
              names = ns ∙ x.names;
              top = subst (λ y. AreTreesOf (top_trees done) after.nodes y.items) (sym tp) (subst (λ (rows : List NodeRow). AreTreesOf (top_trees done) rows before.top.items) (sym nd) k.top);
              functions = subst (λ y. AreFunctionsOf (functions_of done) after.nodes (map told_function y.items)) (sym fc) (subst (λ (rows : List NodeRow). AreFunctionsOf (functions_of done) rows (map told_function before.functions.items)) (sym nd) k.functions);
              height = tall ∙ (k.height ∙ ap (λ n. min 65 n) (none-more (program_levels done)));
            };
          };
        }
      where
        none-more : (n : ℕ) → n ≡ max n 0
        none-more n = omega arith

map-more : (xs : List FunctionDecl) (x : FunctionDecl) → map told_function (xs ++ (x ∷ [])) ≡ map told_function xs ++ (told_function x ∷ [])
map-more [] x = refl
map-more (y ∷ xs) x = ap (λ z. told_function y ∷ z) (map-more xs x)

pub function-closed : (tokens : List Lexeme) (place : ℕ) (before after : Reader) (function : OpenFunction) (decl : FunctionDecl) → ReadsTo tokens place before → IsThere (IsMark CloseBrace) tokens place → before.forms ≡ [] → before.function ≡ Some function
    → after.function ≡ None → after.functions.items ≡ before.functions.items ++ (decl ∷ []) → decl.name ≡ function.name → decl.locals.items ≡ before.names → decl.parameters ≡ function.parameters → decl.body ≡ function.body → after.names ≡ function.outer
    → after.nodes ≡ before.nodes → after.forms ≡ before.forms → after.top ≡ before.top → after.height ≡ before.height → GoesTo tokens place (place + 1) after
function-closed tokens place before after function decl r there none opened fn fd nm lc ps bd ou nd fo tp tall = of r.openings r.outer r.stands r.keeps
  where
    of : (os : List Opening) (outer : Outer) → (ExpressionFacts → Stands os outer tokens place) → Keeps before os outer [] → GoesTo tokens place (place + 1) after
    of (o ∷ os) outer s k = absurd (subst (λ (x : List OpenForm). FormsStand x before.nodes (o ∷ os) outer) none k.forms)
    of [] (InProgram done) s k = absurd (subst (λ (x : Option OpenFunction). MayBeOpen x before.nodes (InProgram done)) opened k.function)
    of [] (InFunction done front body) s k =
        let token = there.0 in
        let declared : Declared = declared_of front body token in
        let within : place + 1 ≤ length tokens = let l = slice_get_within tokens place token there.1 in omega arith in
        let f : FunctionStands function before.nodes done front body = subst (λ (x : Option OpenFunction). MayBeOpen x before.nodes (InFunction done front body)) opened k.function in
        let is : IsFunctionOf declared before.nodes (told_function decl) = record {
          name = nm ∙ f.name;
          locals = lc ∙ (k.names ∙ (ap (λ xs. with_names (parameter_names front.parameters) xs) (append-nil (all_var_names body)) ∙ locals-are (parameter_names front.parameters) (all_var_names body) f.differ));
          parameters = ps ∙ f.parameters;
          body = subst (λ x. AreTreesOf (statement_trees body) before.nodes x.items) (sym bd) f.body;
        } in
        record {
          further = omega arith;
          reads = record {
            within = within;
            openings = [];
            outer = InProgram (done ++ (Function declared ∷ []));
            stands = λ facts. stands-function facts done front body tokens place (place + 1) token (s facts) within there.2 (sym (drop-there tokens place token there.1));
            keeps = record {
              forms = subst (λ (y : List OpenForm). FormsStand y after.nodes [] (InProgram (done ++ (Function declared ∷ [])))) (sym (fo ∙ none)) tt;
              function = subst (λ (y : Option OpenFunction). MayBeOpen y after.nodes (InProgram (done ++ (Function declared ∷ [])))) (sym fn) tt;
              names = ou ∙ (f.outer ∙ ap (λ xs. with_names [] xs) (sym (append-nil (outer_names (done ++ (Function declared ∷ []))) ∙ outer-function done declared)));
              top = subst (λ (x : Trees). AreTreesOf x after.nodes after.top.items) (sym (top-function done declared)) (subst (λ y. AreTreesOf (top_trees done) after.nodes y.items) (sym tp) (subst (λ (rows : List NodeRow). AreTreesOf (top_trees done) rows before.top.items) (sym nd) k.top));
              functions = subst (λ (y : List ToldFunction). AreFunctionsOf (functions_of (done ++ (Function declared ∷ []))) after.nodes y) (sym (ap (λ x. map told_function x) fd ∙ map-more before.functions.items decl))
                  (subst (λ (rows : List NodeRow). AreFunctionsOf (functions_of (done ++ (Function declared ∷ []))) rows (map told_function before.functions.items ++ (told_function decl ∷ []))) (sym nd) (functions-then done declared before.nodes (map told_function before.functions.items) (told_function decl) k.functions is));
              height = tall ∙ (k.height ∙ ap (λ n. min 65 n) (sym (program-levels-then done (Function declared))));
            };
          };
        }

-- a whole statement in the function or the program

pub put-in : (tokens : List Lexeme) (stated : Stated) (held before after : Reader) → Holds tokens stated held → held.forms ≡ [] → before.forms ≡ [] → Puts stated.node stated.height before after
    → before.nodes ≡ held.nodes → before.function ≡ held.function → before.names ≡ held.names → before.top ≡ held.top → before.functions ≡ held.functions → before.height ≡ held.height → ReadsTo tokens stated.behind after
put-in tokens stated held before after h none empty p nd fn nm tp fc tall = of h.openings h.outer h.ends h.keeps
  where
    s : Statement
    s = h.statement

    same-nodes : after.nodes ≡ held.nodes
    same-nodes = p.nodes ∙ nd

    tree : IsTreeAt (statement_tree s) after.nodes stated.node
    tree = subst (λ (rows : List NodeRow). IsTreeAt (statement_tree s) rows stated.node) (sym same-nodes) h.tree

    inside : (done : List Item) (front : Front) (body : Statements) (one other third : Option OpenFunction) → one ≡ third → MayBeOpen third held.nodes (InFunction done front body) → HasOneMore stated.node one other before.top.items after.top.items
        → MayBeOpen other after.nodes (InFunction done front (and_then body s)) × (after.top.items ≡ before.top.items)
    inside done front body None None third e m x = absurd (subst (λ (y : Option OpenFunction). MayBeOpen y held.nodes (InFunction done front body)) (sym e) m)
    inside done front body None (Some f) third e m x = absurd x
    inside done front body (Some g) None third e m x = absurd x
    inside done front body (Some g) (Some f) third e m x =
        let w : FunctionStands g held.nodes done front body = subst (λ (y : Option OpenFunction). MayBeOpen y held.nodes (InFunction done front body)) (sym e) m in (
          record {
            name = x.0 ∙ w.name;
            parameters = x.1 ∙ w.parameters;
            differ = w.differ;
            body = subst (λ (ns : List ℕ). AreTreesOf (statement_trees (and_then body s)) after.nodes ns) (sym x.2)
                (statements-then body s after.nodes g.body.items stated.node (subst (λ (rows : List NodeRow). AreTreesOf (statement_trees body) rows g.body.items) (sym same-nodes) w.body) tree);
            outer = x.3 ∙ w.outer;
          },
          x.4,
        )

    outside : (done : List Item) (one other third : Option OpenFunction) → one ≡ third → MayBeOpen third held.nodes (InProgram done) → HasOneMore stated.node one other before.top.items after.top.items
        → MayBeOpen other after.nodes (InProgram (done ++ (Single s ∷ []))) × (after.top.items ≡ before.top.items ++ (stated.node ∷ []))
    outside done None None third e m x = (tt, x)
    outside done None (Some f) third e m x = absurd x
    outside done (Some g) other third e m x = absurd (subst (λ (y : Option OpenFunction). MayBeOpen y held.nodes (InProgram done)) (sym e) m)

    of : (os : List Opening) (outer : Outer) → (ExpressionFacts → Ended os outer tokens s stated.behind) → Keeps held os outer (var_names s) → ReadsTo tokens stated.behind after
    of (o ∷ os) outer e k = absurd (subst (λ (x : List OpenForm). FormsStand x held.nodes (o ∷ os) outer) none k.forms)
    of [] (InProgram done) e k =
        let x = outside done before.function after.function held.function fn k.function p.one_more in
        record {
          within = h.within;
          openings = [];
          outer = InProgram (done ++ (Single s ∷ []));
          stands = λ facts. stands-in-program done tokens stated.behind s (e facts);
          keeps = record {
            forms = subst (λ (y : List OpenForm). FormsStand y after.nodes [] (InProgram (done ++ (Single s ∷ [])))) (sym (p.forms ∙ empty)) tt;
            function = x.0;
            names = p.names ∙ (nm ∙ (k.names ∙ ap (λ ns. with_names [] ns) (sym (append-nil (outer_names (done ++ (Single s ∷ []))) ∙ outer-single done s))));
            top = subst (λ (ns : List ℕ). AreTreesOf (top_trees (done ++ (Single s ∷ []))) after.nodes ns) (sym (x.1 ∙ ap (λ y. y.items ++ (stated.node ∷ [])) tp))
                (tops-then done s after.nodes held.top.items stated.node (subst (λ (rows : List NodeRow). AreTreesOf (top_trees done) rows held.top.items) (sym same-nodes) k.top) tree);
            functions = subst (λ (ds : List Declared). AreFunctionsOf ds after.nodes (map told_function after.functions.items)) (sym (functions-single done s))
                (subst (λ y. AreFunctionsOf (functions_of done) after.nodes (map told_function y.items)) (sym (p.functions ∙ fc)) (subst (λ (rows : List NodeRow). AreFunctionsOf (functions_of done) rows (map told_function held.functions.items)) (sym same-nodes) k.functions));
            height = let a = k.height in let b = h.height in let c = p.tall in let d = program-levels-then done (Single s) in omega arith;
          };
        }
    of [] (InFunction done front body) e k =
        let x = inside done front body before.function after.function held.function fn k.function p.one_more in
        record {
          within = h.within;
          openings = [];
          outer = InFunction done front (and_then body s);
          stands = λ facts. stands-in-function done front body tokens stated.behind s (e facts);
          keeps = record {
            forms = subst (λ (y : List OpenForm). FormsStand y after.nodes [] (InFunction done front (and_then body s))) (sym (p.forms ∙ empty)) tt;
            function = x.0;
            names = p.names ∙ (nm ∙ (k.names ∙ ap (λ ns. with_names (parameter_names front.parameters) ns) (sym (append-nil (all_var_names (and_then body s)) ∙ all-names-then body s))));
            top = subst (λ (ns : List ℕ). AreTreesOf (top_trees done) after.nodes ns) (sym (x.1 ∙ ap (λ y. y.items) tp)) (subst (λ (rows : List NodeRow). AreTreesOf (top_trees done) rows held.top.items) (sym same-nodes) k.top);
            functions = subst (λ y. AreFunctionsOf (functions_of done) after.nodes (map told_function y.items)) (sym (p.functions ∙ fc)) (subst (λ (rows : List NodeRow). AreFunctionsOf (functions_of done) rows (map told_function held.functions.items)) (sym same-nodes) k.functions);
            height = let a = k.height in let b = h.height in let c = p.tall in let d = all-levels-then body s in omega arith;
          };
        }

pub on-ok : {A E : Type 0} (r : Result A E) (P Q : Type 0) → (P → Q) → OnOk r P → OnOk r Q
on-ok (Ok x) P Q h p = h p
on-ok (Err e) P Q h p = tt

-- a whole statement and its form

same-form : (f g : Form) (a b c d : ℕ) → f ≡ g → a ≡ b → c ≡ d → node f a c None ≡ node g b d None
same-form f g a b c d p q r = ap (λ x. node x a c None) p ∙ (ap (λ x. node g x c None) q ∙ ap (λ x. node g b x None) r)

keeps-as : (held after : Reader) (os now : List Opening) (outer : Outer) (more less : List (List ℕ)) → Keeps held os outer more → MayGrow held.nodes after.nodes → FormsStand after.forms after.nodes now outer
    → ((front : List (List ℕ)) → names_inside os front ++ more ≡ names_inside now front ++ less) → after.function ≡ held.function → after.names ≡ held.names → after.top ≡ held.top → after.functions ≡ held.functions → after.height ≡ held.height → Keeps after now outer less
keeps-as held after os now outer more less k g forms names o n t fs h = record {
  forms = forms;
  function = subst (λ (x : Option OpenFunction). MayBeOpen x after.nodes outer) (sym o) (open-grows held.function held.nodes after.nodes outer g k.function);
  names = names-same after.names os now outer more less names (subst (λ (ns : List (List ℕ)). NamesStand ns os outer more) (sym n) k.names);
  top = subst (λ x. AreTreesOf (top_trees (items_of_outer outer)) after.nodes x.items) (sym t) (trees-grow (top_trees (items_of_outer outer)) held.nodes after.nodes held.top.items g k.top);
  functions = subst (λ x. AreFunctionsOf (functions_of (items_of_outer outer)) after.nodes (map told_function x.items)) (sym fs) (functions-grow (functions_of (items_of_outer outer)) held.nodes after.nodes (map told_function held.functions.items) g k.functions);
  height = h ∙ k.height;
}

grows-same : (a b : List NodeRow) → b ≡ a → MayGrow a b
grows-same a b e = record { more = []; added = e ∙ sym (append-nil a) }

names-block : (a b c d : List (List ℕ)) → d ≡ b ++ c → (a ++ b) ++ c ≡ (a ++ d) ++ []
names-block a b c d e = append_assoc a b c ∙ (ap (λ x. a ++ x) (sym e) ∙ sym (append-nil (a ++ d)))

pub in-block : (tokens : List Lexeme) (stated : Stated) (held after : Reader) (form now : OpenForm) (rest : List OpenForm) → Holds tokens stated held → held.forms ≡ form ∷ rest → form.kind ≡ BlockKind → after.forms ≡ now ∷ rest
    → now.kind ≡ form.kind → now.form ≡ form.form → now.start ≡ form.start → now.children.items ≡ form.children.items ++ (stated.node ∷ []) → now.height ≡ max form.height stated.height → now.in_loop ≡ form.in_loop
    → after.nodes ≡ held.nodes → after.function ≡ held.function → after.names ≡ held.names → after.top ≡ held.top → after.functions ≡ held.functions → after.height ≡ held.height → ReadsTo tokens stated.behind after
in-block tokens stated held after form now rest h fs block grew fk ff st fc fh fl nd fn nm tp fns tall = of h.openings h.outer h.ends h.keeps
  where
    s : Statement
    s = h.statement

    of : (os : List Opening) (outer : Outer) → (ExpressionFacts → Ended os outer tokens s stated.behind) → Keeps held os outer (var_names s) → ReadsTo tokens stated.behind after
    of [] outer e k = absurd (subst (λ (x : List OpenForm). FormsStand x held.nodes [] outer) fs k.forms)
    of (InHead head ∷ os) outer e k = let f = (subst (λ (x : List OpenForm). FormsStand x held.nodes (InHead head ∷ os) outer) fs k.forms).0 in let g = f.kind in absurd (cc)
    of (InElse head body w ∷ os) outer e k = let f = (subst (λ (x : List OpenForm). FormsStand x held.nodes (InElse head body w ∷ os) outer) fs k.forms).0 in let g = f.kind in absurd (cc)
    of (InBlock o done ∷ os) outer e k =
        let all : FormsStand (form ∷ rest) held.nodes (InBlock o done ∷ os) outer = subst (λ (x : List OpenForm). FormsStand x held.nodes (InBlock o done ∷ os) outer) fs k.forms in
        let f = all.0 in
        record {
          within = h.within;
          openings = InBlock o (and_then done s) ∷ os;
          outer = outer;
          stands = λ facts. stands-in-block os outer tokens stated.behind o done s (e facts);
          keeps = keeps-as held after (InBlock o done ∷ os) (InBlock o (and_then done s) ∷ os) outer (var_names s) [] k (grows-same held.nodes after.nodes nd)
              (subst (λ (x : List OpenForm). FormsStand x after.nodes (InBlock o (and_then done s) ∷ os) outer) (sym grew)
              (subst (λ (rows : List NodeRow). FormsStand (now ∷ rest) rows (InBlock o (and_then done s) ∷ os) outer) (sym nd) (
                record {
                  kind = fk ∙ f.kind;
                  is = ff ∙ f.is;
                  start = st ∙ f.start;
                  trees = subst (λ (ns : List ℕ). AreTreesOf (statement_trees (and_then done s)) held.nodes ns) (sym fc) (statements-then done s held.nodes form.children.items stated.node f.trees h.tree);
                  height = let a = f.height in let b = h.height in let d = all-levels-then done s in omega arith;
                  in_loop = fl ∙ f.in_loop;
                },
                all.1,
              )))
              (λ names. names-block (names_inside os names) (all_var_names done) (var_names s) (all_var_names (and_then done s)) (all-names-then done s)) fn nm tp fns tall;
        }

if-of : (h : Head) → head_form h ≡ IfForm → is_if h ≡ true
if-of (If word open_mark test close_mark) e = refl
if-of (While word open_mark test close_mark) e = absurd (cc)
if-of (For word open_mark first semicolon test second_semicolon step close_mark) e = absurd (cc)
if-of (ForIn word open_mark visitor in_word object close_mark) e = absurd (cc)

no-else : (h : Head) (tokens : List Lexeme) (place : ℕ) (rest : List Lexeme) → rest ≡ drop place tokens → (head_form h ≡ IfForm → IsThere (IsWord Else) tokens place → ⊥) → NoElse h rest
no-else (If word open_mark test close_mark) tokens place [] e f = tt
no-else (If word open_mark test close_mark) tokens place (t ∷ more) e f = λ w. f refl (t, there-of tokens place t more (sym e), w)
no-else (While word open_mark test close_mark) tokens place rest e f = tt
no-else (For word open_mark first semicolon test second_semicolon step close_mark) tokens place rest e f = tt
no-else (ForIn word open_mark visitor in_word object close_mark) tokens place rest e f = tt

pub else-opened : (tokens : List Lexeme) (stated : Stated) (held after : Reader) (form now : OpenForm) (rest : List OpenForm) → Holds tokens stated held → held.forms ≡ form ∷ rest → form.kind ≡ HeadKind → form.form ≡ IfForm → IsThere (IsWord Else) tokens stated.behind → after.forms ≡ now ∷ rest
    → now.kind ≡ ElseKind → now.form ≡ form.form → now.start ≡ form.start → now.children.items ≡ form.children.items ++ (stated.node ∷ []) → now.height ≡ min 65 (max form.height stated.height + 1) → now.in_loop ≡ form.in_loop
    → after.nodes ≡ held.nodes → after.function ≡ held.function → after.names ≡ held.names → after.top ≡ held.top → after.functions ≡ held.functions → after.height ≡ held.height → ReadsTo tokens (stated.behind + 1) after
else-opened tokens stated held after form now rest h fs block if_form there grew fk ff st fc fh fl nd fn nm tp fns tall = of h.openings h.outer h.ends h.keeps
  where
    s : Statement
    s = h.statement

    of : (os : List Opening) (outer : Outer) → (ExpressionFacts → Ended os outer tokens s stated.behind) → Keeps held os outer (var_names s) → ReadsTo tokens (stated.behind + 1) after
    of [] outer e k = absurd (subst (λ (x : List OpenForm). FormsStand x held.nodes [] outer) fs k.forms)
    of (InBlock o done ∷ os) outer e k = let f = (subst (λ (x : List OpenForm). FormsStand x held.nodes (InBlock o done ∷ os) outer) fs k.forms).0 in let g = f.kind in absurd (cc)
    of (InElse head body w ∷ os) outer e k = let f = (subst (λ (x : List OpenForm). FormsStand x held.nodes (InElse head body w ∷ os) outer) fs k.forms).0 in let g = f.kind in absurd (cc)
    of (InHead head ∷ os) outer e k =
        let all : FormsStand (form ∷ rest) held.nodes (InHead head ∷ os) outer = subst (λ (x : List OpenForm). FormsStand x held.nodes (InHead head ∷ os) outer) fs k.forms in
        let f = all.0 in
        let token = there.0 in
        let is : is_if head ≡ true = if-of head (sym f.is ∙ if_form) in
        let within : stated.behind + 1 ≤ length tokens = let l = slice_get_within tokens stated.behind token there.1 in omega arith in
        record {
          within = within;
          openings = InElse head s token ∷ os;
          outer = outer;
          stands = λ facts. stands-else os outer tokens stated.behind (stated.behind + 1) head s token (e facts) within is there.2 (sym (drop-there tokens stated.behind token there.1));
          keeps = keeps-as held after (InHead head ∷ os) (InElse head s token ∷ os) outer (var_names s) [] k (grows-same held.nodes after.nodes nd)
              (subst (λ (x : List OpenForm). FormsStand x after.nodes (InElse head s token ∷ os) outer) (sym grew)
              (subst (λ (rows : List NodeRow). FormsStand (now ∷ rest) rows (InElse head s token ∷ os) outer) (sym nd) (
                record {
                  kind = fk;
                  is = ff ∙ f.is;
                  start = st ∙ f.start;
                  trees = subst (λ (ns : List ℕ). AreTreesOf (with_head head (one (statement_tree s))) held.nodes ns) (sym fc) (with-head-then head NoTrees (statement_tree s) held.nodes form.children.items stated.node f.trees h.tree);
                  height = let a = f.height in let b = h.height in omega arith;
                  in_loop = fl ∙ (f.in_loop ∙ ap (λ x. x.in_loop) (place-behind head (place_in os outer) is));
                },
                all.1,
              )))
              (λ names. names-block (names_inside os names) (head_names head) (var_names s) (head_names head ++ var_names s) refl) fn nm tp fns tall;
        }

pub head-ended : (tokens : List Lexeme) (stated whole : Stated) (held middle after : Reader) (form now : OpenForm) (rest : List OpenForm) → Holds tokens stated held → held.forms ≡ form ∷ rest → form.kind ≡ HeadKind → (form.form ≡ IfForm → IsThere (IsWord Else) tokens stated.behind → ⊥)
    → now.form ≡ form.form → now.start ≡ form.start → now.children.items ≡ form.children.items ++ (stated.node ∷ []) → now.height ≡ min 65 (max form.height stated.height + 1)
    → EndsForm now stated.«end» stated.behind middle after whole → middle.forms ≡ rest → middle.nodes ≡ held.nodes → middle.function ≡ held.function → middle.names ≡ held.names → middle.top ≡ held.top → middle.functions ≡ held.functions → middle.height ≡ held.height
    → (whole.behind ≡ stated.behind) × (after.forms ≡ middle.forms) × Holds tokens whole after
head-ended tokens stated whole held middle after form now rest h fs block nothing ff st fc fh p mf nd fn nm tp fns tall = (p.behind_is, p.forms, of h.openings h.outer h.ends h.keeps)
  where
    s : Statement
    s = h.statement

    of : (os : List Opening) (outer : Outer) → (ExpressionFacts → Ended os outer tokens s stated.behind) → Keeps held os outer (var_names s) → Holds tokens whole after
    of [] outer e k = absurd (subst (λ (x : List OpenForm). FormsStand x held.nodes [] outer) fs k.forms)
    of (InBlock o done ∷ os) outer e k = let f = (subst (λ (x : List OpenForm). FormsStand x held.nodes (InBlock o done ∷ os) outer) fs k.forms).0 in let g = f.kind in absurd (cc)
    of (InElse head body w ∷ os) outer e k = let f = (subst (λ (x : List OpenForm). FormsStand x held.nodes (InElse head body w ∷ os) outer) fs k.forms).0 in let g = f.kind in absurd (cc)
    of (InHead head ∷ os) outer e k =
        let all : FormsStand (form ∷ rest) held.nodes (InHead head ∷ os) outer = subst (λ (x : List OpenForm). FormsStand x held.nodes (InHead head ∷ os) outer) fs k.forms in
        let f = all.0 in
        let grown : after.nodes ≡ held.nodes ++ (row (node now.form now.start stated.«end» None) now.children.items ∷ []) = p.nodes ∙ ap (λ x. x ++ (row (node now.form now.start stated.«end» None) now.children.items ∷ [])) nd in
        record {
          within = subst (λ n. n ≤ length tokens) (sym p.behind_is) h.within;
          openings = os;
          outer = outer;
          statement = Headed head s;
          ends = λ facts. subst (λ n. Ended os outer tokens (Headed head s) n) (sym p.behind_is) (ended-head os outer tokens stated.behind head s (e facts) (no-else head tokens stated.behind (drop stated.behind tokens) refl (λ i. nothing (f.is ∙ i))));
          keeps = keeps-as held after (InHead head ∷ os) os outer (var_names s) (head_names head ++ var_names s) k (record { more = _; added = grown })
              (subst (λ (x : List OpenForm). FormsStand x after.nodes os outer) (sym (p.forms ∙ mf)) (forms-grow rest held.nodes after.nodes os outer (record { more = _; added = grown }) all.1))
              (λ names. append_assoc (names_inside os names) (head_names head) (var_names s)) (p.function ∙ fn) (p.names ∙ nm) (p.top ∙ tp) (p.functions ∙ fns) (p.tall ∙ tall);
          tree = pushed-tree held.nodes after.nodes (node now.form now.start stated.«end» None) (node (head_form head) (head_start head) (statement_end s) None) (with_head head (one (statement_tree s))) now.children.items whole.node
              (subst (λ (ns : List ℕ). AreTreesOf (with_head head (one (statement_tree s))) held.nodes ns) (sym fc) (with-head-then head NoTrees (statement_tree s) held.nodes form.children.items stated.node f.trees h.tree))
              (p.node ∙ ap (λ x. length x) nd) grown (same-form now.form (head_form head) now.start (head_start head) stated.«end» (statement_end s) (ff ∙ f.is) (st ∙ f.start) h.stops);
          height = let a = f.height in let b = h.height in let c = p.height in omega arith;
          stops = p.stops ∙ h.stops;
        }

pub else-ended : (tokens : List Lexeme) (stated whole : Stated) (held middle after : Reader) (form now : OpenForm) (rest : List OpenForm) → Holds tokens stated held → held.forms ≡ form ∷ rest → form.kind ≡ ElseKind
    → now.form ≡ form.form → now.start ≡ form.start → now.children.items ≡ form.children.items ++ (stated.node ∷ []) → now.height ≡ max form.height stated.height
    → EndsForm now stated.«end» stated.behind middle after whole → middle.forms ≡ rest → middle.nodes ≡ held.nodes → middle.function ≡ held.function → middle.names ≡ held.names → middle.top ≡ held.top → middle.functions ≡ held.functions → middle.height ≡ held.height
    → (whole.behind ≡ stated.behind) × (after.forms ≡ middle.forms) × Holds tokens whole after
else-ended tokens stated whole held middle after form now rest h fs block ff st fc fh p mf nd fn nm tp fns tall = (p.behind_is, p.forms, of h.openings h.outer h.ends h.keeps)
  where
    s : Statement
    s = h.statement

    of : (os : List Opening) (outer : Outer) → (ExpressionFacts → Ended os outer tokens s stated.behind) → Keeps held os outer (var_names s) → Holds tokens whole after
    of [] outer e k = absurd (subst (λ (x : List OpenForm). FormsStand x held.nodes [] outer) fs k.forms)
    of (InBlock o done ∷ os) outer e k = let f = (subst (λ (x : List OpenForm). FormsStand x held.nodes (InBlock o done ∷ os) outer) fs k.forms).0 in let g = f.kind in absurd (cc)
    of (InHead head ∷ os) outer e k = let f = (subst (λ (x : List OpenForm). FormsStand x held.nodes (InHead head ∷ os) outer) fs k.forms).0 in let g = f.kind in absurd (cc)
    of (InElse head body w ∷ os) outer e k =
        let all : FormsStand (form ∷ rest) held.nodes (InElse head body w ∷ os) outer = subst (λ (x : List OpenForm). FormsStand x held.nodes (InElse head body w ∷ os) outer) fs k.forms in
        let f = all.0 in
        let grown : after.nodes ≡ held.nodes ++ (row (node now.form now.start stated.«end» None) now.children.items ∷ []) = p.nodes ∙ ap (λ x. x ++ (row (node now.form now.start stated.«end» None) now.children.items ∷ [])) nd in
        record {
          within = subst (λ n. n ≤ length tokens) (sym p.behind_is) h.within;
          openings = os;
          outer = outer;
          statement = IfElse head body w s;
          ends = λ facts. subst (λ n. Ended os outer tokens (IfElse head body w s) n) (sym p.behind_is) (ended-else os outer tokens stated.behind head body w s (e facts));
          keeps = keeps-as held after (InElse head body w ∷ os) os outer (var_names s) (head_names head ++ (var_names body ++ var_names s)) k (record { more = _; added = grown })
              (subst (λ (x : List OpenForm). FormsStand x after.nodes os outer) (sym (p.forms ∙ mf)) (forms-grow rest held.nodes after.nodes os outer (record { more = _; added = grown }) all.1))
              (λ b. append_assoc (names_inside os b) (head_names head ++ var_names body) (var_names s) ∙ ap (λ x. names_inside os b ++ x) (append_assoc (head_names head) (var_names body) (var_names s))) (p.function ∙ fn) (p.names ∙ nm) (p.top ∙ tp) (p.functions ∙ fns) (p.tall ∙ tall);
          tree = pushed-tree held.nodes after.nodes (node now.form now.start stated.«end» None) (node (head_form head) (head_start head) (statement_end s) None) (with_head head (two (statement_tree body) (statement_tree s))) now.children.items whole.node
              (subst (λ (ns : List ℕ). AreTreesOf (with_head head (two (statement_tree body) (statement_tree s))) held.nodes ns) (sym fc) (with-head-then head (one (statement_tree body)) (statement_tree s) held.nodes form.children.items stated.node f.trees h.tree))
              (p.node ∙ ap (λ x. length x) nd) grown (same-form now.form (head_form head) now.start (head_start head) stated.«end» (statement_end s) (ff ∙ f.is) (st ∙ f.start) h.stops);
          height = let a = f.height in let b = h.height in let c = p.height in omega arith;
          stops = p.stops ∙ h.stops;
        }

-- a `}` behind a block

pub block-ended : (tokens : List Lexeme) (place : ℕ) (whole : Stated) (held middle after : Reader) (form now : OpenForm) (rest : List OpenForm) (t : Lexeme) → ReadsTo tokens place held → IsThere (IsMark CloseBrace) tokens place → held.forms ≡ form ∷ rest → form.kind ≡ BlockKind
    → now.form ≡ form.form → now.start ≡ form.start → now.children.items ≡ form.children.items → now.height ≡ min 65 (form.height + 1)
    → EndsForm now (slice_index_or tokens place t).«end» (place + 1) middle after whole → middle.forms ≡ rest → middle.nodes ≡ held.nodes → middle.function ≡ held.function → middle.names ≡ held.names → middle.top ≡ held.top → middle.functions ≡ held.functions → middle.height ≡ held.height
    → Holds tokens whole after
block-ended tokens place whole held middle after form now rest t r there fs block ff st fc fh p mf nd fn nm tp fns tall = of r.openings r.outer r.stands r.keeps
  where
    of : (os : List Opening) (outer : Outer) → (ExpressionFacts → Stands os outer tokens place) → Keeps held os outer [] → Holds tokens whole after
    of [] outer e k = absurd (subst (λ (x : List OpenForm). FormsStand x held.nodes [] outer) fs k.forms)
    of (InHead head ∷ os) outer e k = let f = (subst (λ (x : List OpenForm). FormsStand x held.nodes (InHead head ∷ os) outer) fs k.forms).0 in let g = f.kind in absurd (cc)
    of (InElse head body w ∷ os) outer e k = let f = (subst (λ (x : List OpenForm). FormsStand x held.nodes (InElse head body w ∷ os) outer) fs k.forms).0 in let g = f.kind in absurd (cc)
    of (InBlock o done ∷ os) outer e k =
        let all : FormsStand (form ∷ rest) held.nodes (InBlock o done ∷ os) outer = subst (λ (x : List OpenForm). FormsStand x held.nodes (InBlock o done ∷ os) outer) fs k.forms in
        let f = all.0 in
        let token = there.0 in
        let stop : (slice_index_or tokens place t).«end» ≡ token.«end» = ap (λ x. x.«end») (get_or_from_slice_get tokens place token t there.1) in
        let within : place + 1 ≤ length tokens = let l = slice_get_within tokens place token there.1 in omega arith in
        let grown : after.nodes ≡ held.nodes ++ (row (node now.form now.start (slice_index_or tokens place t).«end» None) now.children.items ∷ []) = p.nodes ∙ ap (λ x. x ++ (row (node now.form now.start (slice_index_or tokens place t).«end» None) now.children.items ∷ [])) nd in
        record {
          within = subst (λ n. n ≤ length tokens) (sym p.behind_is) within;
          openings = os;
          outer = outer;
          statement = Block o done token;
          ends = λ facts. subst (λ n. Ended os outer tokens (Block o done token) n) (sym p.behind_is) (ended-block facts os outer tokens place (place + 1) o done token (e facts) within there.2 (sym (drop-there tokens place token there.1)));
          keeps = keeps-as held after (InBlock o done ∷ os) os outer [] (all_var_names done) k (record { more = _; added = grown })
              (subst (λ (x : List OpenForm). FormsStand x after.nodes os outer) (sym (p.forms ∙ mf)) (forms-grow rest held.nodes after.nodes os outer (record { more = _; added = grown }) all.1))
              (λ names. append-nil (names_inside os names ++ all_var_names done)) (p.function ∙ fn) (p.names ∙ nm) (p.top ∙ tp) (p.functions ∙ fns) (p.tall ∙ tall);
          tree = pushed-tree held.nodes after.nodes (node now.form now.start (slice_index_or tokens place t).«end» None) (node BlockForm o.start token.«end» None) (statement_trees done) now.children.items whole.node
              (subst (λ (ns : List ℕ). AreTreesOf (statement_trees done) held.nodes ns) (sym fc) f.trees)
              (p.node ∙ ap (λ x. length x) nd) grown (same-form now.form BlockForm now.start o.start (slice_index_or tokens place t).«end» token.«end» (ff ∙ f.is) (st ∙ f.start) stop);
          height = let a = f.height in let c = p.height in omega arith;
          stops = p.stops ∙ stop;
        }

-- the end

pub kept-at : (tokens : List Lexeme) (place : ℕ) (held after : Reader) → ReadsTo tokens place held → length tokens ≤ place → held.forms ≡ [] → is_some held.function ≡ false
    → after.forms ≡ held.forms → after.nodes ≡ held.nodes → after.function ≡ held.function → after.names ≡ held.names → after.top ≡ held.top → after.functions ≡ held.functions → after.height ≡ held.height → IsKept tokens after
kept-at tokens place held after r past none closed fo nd fn nm tp fns tall = of r.openings r.outer r.stands r.keeps
  where
    of : (os : List Opening) (outer : Outer) → (ExpressionFacts → Stands os outer tokens place) → Keeps held os outer [] → IsKept tokens after
    of (o ∷ os) outer s k = absurd (subst (λ (x : List OpenForm). FormsStand x held.nodes (o ∷ os) outer) none k.forms)
    of [] (InFunction done g body) s k = absurd (inside held.function k.function closed)
      where
        inside : (f : Option OpenFunction) → MayBeOpen f held.nodes (InFunction done g body) → is_some f ≡ false → ⊥
        inside None h e = h
        inside (Some f) h e = absurd (cc)
    of [] (InProgram done) s k = record {
      items = done;
      is = λ facts. is-program done tokens place (s facts) (drop_of_length-le tokens past);
      keeps = keeps-as held after [] [] (InProgram done) [] [] k (grows-same held.nodes after.nodes nd)
          (subst (λ (y : List OpenForm). FormsStand y after.nodes [] (InProgram done)) (sym (fo ∙ none)) tt) (λ names. refl) fn nm tp fns tall;
    }

pub setting-is : (a b : Bool) (p : Setting) → a ≡ p.in_loop → b ≡ p.in_function → setting a b ≡ p
setting-is a b p e f = ap (λ x. setting x b) e ∙ ap (λ y. setting p.in_loop y) f

-- the outcome

pub whole-told : (tokens : List Lexeme) (reader : Reader) (outcome : Reading) → IsKept tokens reader → IsOutcome reader outcome → (program : ToldProgram) → outcome ≡ Whole program → (items : List Item) × (ExpressionFacts → IsProgram tokens items) × (program_levels items ≤ 64) × Tells items program
whole-told tokens reader outcome k o program e =
    let w : IsOutcome reader (Whole program) = subst (λ (x : Reading). IsOutcome reader x) e o in
    let h = k.keeps.height in (
      k.items,
      k.is,
      (omega (arith, w.0)),
      record {
        top = subst (λ (rows : List NodeRow). AreTreesOf (top_trees k.items) rows program.top) (sym w.1) (subst (λ (ns : List ℕ). AreTreesOf (top_trees k.items) reader.nodes ns) (sym w.2) k.keeps.top);
        functions = subst (λ (rows : List NodeRow). AreFunctionsOf (functions_of k.items) rows program.functions) (sym w.1) (subst (λ (fs : List ToldFunction). AreFunctionsOf (functions_of k.items) reader.nodes fs) (sym w.3) k.keeps.functions);
        variables = w.4 ∙ (k.keeps.names ∙ (ap (λ xs. with_names [] xs) (append-nil (outer_names k.items)) ∙ names-once (outer_names k.items)));
      },
    )

pub deep-told : (tokens : List Lexeme) (reader : Reader) (outcome : Reading) → IsKept tokens reader → IsOutcome reader outcome → outcome ≡ TooDeep → (items : List Item) × (ExpressionFacts → IsProgram tokens items) × (65 ≤ program_levels items)
deep-told tokens reader outcome k o e =
    let w : IsOutcome reader TooDeep = subst (λ (x : Reading). IsOutcome reader x) e o in
    let h = k.keeps.height in
    (k.items, k.is, omega (arith, w))
