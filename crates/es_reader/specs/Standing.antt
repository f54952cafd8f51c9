-- A device of the proofs: what is kept of a program that is read up to a place.
use Rattle.std.specs.Prelude.{◌≡◌, ℕ, suc, max, min, ◌≤◌, ◌<◌, Bool, true, false, List, [], ◌∷◌, ◌++◌, Option, Some, None, length, take, drop, map}
use Rattle.std.specs.List.{IsDistinct}
use Rattle.bml_bytes.specs.Words.{is_same}
use Rattle.es_lexer.specs.declared.words.ReservedWord.TheVariants.{For as ForWord, Function as FunctionWord, If as IfWord, While as WhileWord}
use Rattle.es_lexer.specs.declared.punctuators.Punctuator.TheVariants.{OpenBrace, CloseBrace}
use Rattle.es_expressions.specs.Trees.{Trees}
use Rattle.es_expressions.specs.Trees.Trees.{NoTrees}
use Rattle.es_expressions.specs.Meaning.{one}
use Rattle.es_expressions.specs.Nodes.{NodeRow, IsTreeAt}
use Rattle.es_expressions.specs.declared.lexemes.Lexeme.{Lexeme}
use Rattle.es_expressions.specs.declared.nodes.Form.{Form}
use Rattle.es_expressions.specs.declared.nodes.Form.TheVariants.{Block as BlockForm, If as IfForm}
use Rattle.es_reader.specs.Statements.{Statement, Statements, Item, spelled}
use Rattle.es_reader.specs.Grammar.{Setting, name_of, parameter_names, IsWord, IsMark, IsStatement, IsProgram}
use Rattle.es_reader.specs.Meaning.{head_form, head_start, with_head, statement_tree, statement_trees, statement_end}
use Rattle.es_reader.specs.Levels.{head_levels, levels, all_levels, program_levels}
use Rattle.es_reader.specs.Programs.{head_names, var_names, all_var_names, outer_names, AreTreesOf, AreFunctionsOf, top_trees, functions_of}
use Rattle.es_reader.specs.Openings.{Opening, Front, Outer, place_in, written, AreRead, MayCome, MayFollow, Leads}
use Rattle.es_reader.specs.Openings.Opening.{InBlock, InHead, InElse}
use Rattle.es_reader.specs.Openings.Outer.{InProgram, InFunction}
use Rattle.es_reader.specs.ExpressionFacts.{ExpressionFacts}
use Rattle.es_reader.specs.Told.{told_function, with_names}
use Rattle.es_reader.specs.declared.openings.OpenForm.{OpenForm}
use Rattle.es_reader.specs.declared.openings.OpenKind.{OpenKind}
use Rattle.es_reader.specs.declared.openings.OpenKind.TheVariants.{Block, Head as HeadKind, Else as ElseKind}
use Rattle.es_reader.specs.declared.reader.OpenFunction.{OpenFunction}
use Rattle.es_reader.specs.declared.reader.Reader.{Reader}
use Rattle.es_reader.specs.declared.heads.HeadRead.{HeadRead}
use Rattle.es_reader.specs.declared.reader.Joined.{Joined}
use Rattle.es_reader.specs.declared.reader.Joined.TheVariants.{Open, Ended as EndedForm}
use Rattle.es_reader.specs.declared.reader.Reading.{Reading}
use Rattle.es_reader.specs.declared.reader.Reading.TheVariants.{Whole, TooDeep, Bad}
use Rattle.es_reader.specs.declared.simples.Stated.{Stated}

abbrev pub kind_of_opening : Opening → OpenKind
kind_of_opening (InBlock open_mark done) = Block
kind_of_opening (InHead head) = HeadKind
kind_of_opening (InElse head body else_word) = ElseKind

abbrev pub form_of_opening : Opening → Form
form_of_opening (InBlock open_mark done) = BlockForm
form_of_opening (InHead head) = head_form head
form_of_opening (InElse head body else_word) = head_form head

abbrev pub start_of_opening : Opening → ℕ
start_of_opening (InBlock open_mark done) = open_mark.start
start_of_opening (InHead head) = head_start head
start_of_opening (InElse head body else_word) = head_start head

abbrev pub trees_of_opening : Opening → Trees
trees_of_opening (InBlock open_mark done) = statement_trees done
trees_of_opening (InHead head) = with_head head NoTrees
trees_of_opening (InElse head body else_word) = with_head head (one (statement_tree body))

abbrev pub levels_of_opening : Opening → ℕ
levels_of_opening (InBlock open_mark done) = all_levels done
levels_of_opening (InHead head) = head_levels head
levels_of_opening (InElse head body else_word) = suc (max (head_levels head) (levels body))

abbrev pub names_of_opening : Opening → List (List ℕ)
names_of_opening (InBlock open_mark done) = all_var_names done
names_of_opening (InHead head) = head_names head
names_of_opening (InElse head body else_word) = head_names head ++ var_names body

-- what is kept of an open form; what it holds stands in this setting
pub record FormStands (form : OpenForm) (rows : List NodeRow) (inside : Setting) (opening : Opening) : Type 0 where
  pub kind : form.kind ≡ kind_of_opening opening
  pub is : form.form ≡ form_of_opening opening
  pub start : form.start ≡ start_of_opening opening
  pub trees : AreTreesOf (trees_of_opening opening) rows form.children.items
  pub height : form.height ≡ min 65 (levels_of_opening opening)
  pub in_loop : form.in_loop ≡ inside.in_loop

abbrev pub FormsStand : List OpenForm → List NodeRow → List Opening → Outer → Type 0
FormsStand [] rows [] outer = Unit {0}
FormsStand (form ∷ forms) rows (opening ∷ openings) outer =
    FormStands form rows (place_in (opening ∷ openings) outer) opening × FormsStand forms rows openings outer
FormsStand [] rows (opening ∷ openings) outer = ⊥
FormsStand (form ∷ forms) rows [] outer = ⊥

abbrev pub in_loop_of : List OpenForm → Bool
in_loop_of [] = false
in_loop_of (form ∷ forms) = form.in_loop

abbrev pub items_of_outer : Outer → List Item
items_of_outer (InProgram done) = done
items_of_outer (InFunction done front body) = done

abbrev pub levels_of_outer : Outer → ℕ
levels_of_outer (InProgram done) = program_levels done
levels_of_outer (InFunction done front body) = max (program_levels done) (all_levels body)

-- what is kept of the open function, and of the names in front of it
pub record FunctionStands (function : OpenFunction) (rows : List NodeRow) (done : List Item) (front : Front) (statements : Statements) : Type 0 where
  pub name : function.name ≡ name_of front.name.symbol
  pub parameters : function.parameters ≡ length (parameter_names front.parameters)
  pub differ : IsDistinct is_same (parameter_names front.parameters)
  pub body : AreTreesOf (statement_trees statements) rows function.body.items
  pub outer : function.outer ≡ with_names [] (outer_names done)

abbrev pub MayBeOpen : Option OpenFunction → List NodeRow → Outer → Type 0
MayBeOpen None rows (InProgram done) = Unit {0}
MayBeOpen (Some function) rows (InFunction done front body) = FunctionStands function rows done front body
MayBeOpen None rows (InFunction done front body) = ⊥
MayBeOpen (Some function) rows (InProgram done) = ⊥

-- the names that are declared in front of the open forms, and then in them
abbrev pub names_inside : List Opening → List (List ℕ) → List (List ℕ)
names_inside [] front = front
names_inside (opening ∷ openings) front = names_inside openings front ++ names_of_opening opening

-- the names are those of the open function, or where none is open of the program, and these more
abbrev pub NamesStand : List (List ℕ) → List Opening → Outer → List (List ℕ) → Type 0
NamesStand names openings (InProgram done) more =
    names ≡ with_names [] (names_inside openings (outer_names done) ++ more)
NamesStand names openings (InFunction done front body) more =
    names ≡ with_names (parameter_names front.parameters) (names_inside openings (all_var_names body) ++ more)

-- what is kept of a program
pub record Keeps (reader : Reader) (openings : List Opening) (outer : Outer) (more : List (List ℕ)) : Type 0 where
  pub forms : FormsStand reader.forms reader.nodes openings outer
  pub function : MayBeOpen reader.function reader.nodes outer
  pub names : NamesStand reader.names openings outer more
  pub top : AreTreesOf (top_trees (items_of_outer outer)) reader.nodes reader.top.items
  pub functions : AreFunctionsOf (functions_of (items_of_outer outer)) reader.nodes (map told_function reader.functions.items)
  pub height : reader.height ≡ min 65 (levels_of_outer outer)

-- what is read up to the place, where a statement is to come or, in a block, a function or the program, may come
pub record Stands (os : List Opening) (outer : Outer) (tokens : List Lexeme) (place : ℕ) : Type 0 where
  pub within : place ≤ length tokens
  pub is_written : written os outer [] ≡ take place tokens
  pub read : AreRead os outer (drop place tokens)
  pub leads : Leads (MayCome os outer) (take place tokens) (drop place tokens)

-- the same where a statement is whole that is the next one in the innermost form
pub record Ended (os : List Opening) (outer : Outer) (tokens : List Lexeme) (statement : Statement) (place : ℕ) : Type 0 where
  pub within : place ≤ length tokens
  pub is_written : written os outer (spelled statement []) ≡ take place tokens
  pub is : IsStatement (place_in os outer) statement (drop place tokens)
  pub read : AreRead os outer (spelled statement (drop place tokens))
  pub leads : Leads (MayFollow os outer) (take place tokens) (drop place tokens)

-- a program is read up to the place, and kept
pub record ReadsTo (tokens : List Lexeme) (place : ℕ) (reader : Reader) : Type 0 where
  pub within : place ≤ length tokens
  pub openings : List Opening
  pub outer : Outer
  pub stands : ExpressionFacts → Stands openings outer tokens place
  pub keeps : Keeps reader openings outer []

-- the same, with a whole statement behind it that isn't put into its form yet
pub record Holds (tokens : List Lexeme) (stated : Stated) (reader : Reader) : Type 0 where
  pub within : stated.behind ≤ length tokens
  pub openings : List Opening
  pub outer : Outer
  pub statement : Statement
  pub ends : ExpressionFacts → Ended openings outer tokens statement stated.behind
  pub keeps : Keeps reader openings outer (var_names statement)
  pub tree : IsTreeAt (statement_tree statement) reader.nodes stated.node
  pub height : stated.height ≡ min 65 (levels statement)
  pub stops : stated.«end» ≡ statement_end statement

-- the same, behind a place
pub record GoesTo (tokens : List Lexeme) (place next : ℕ) (reader : Reader) : Type 0 where
  pub further : place < next
  pub reads : ReadsTo tokens next reader

-- the statement is put into its form, which stays open, or is a whole statement
abbrev pub JoinsAs : List Lexeme → Stated → Reader → Reader → Joined → Type 0
JoinsAs tokens stated before after (Open next) = (stated.behind ≤ next) × ReadsTo tokens next after
JoinsAs tokens stated before after (EndedForm whole) =
    (whole.behind ≡ stated.behind) × (after.forms ≡ before.forms) × Holds tokens whole after

-- the whole program is read, and kept
pub record IsKept (tokens : List Lexeme) (reader : Reader) : Type 0 where
  pub items : List Item
  pub is : ExpressionFacts → IsProgram tokens items
  pub keeps : Keeps reader [] (InProgram items) []

-- one step of the code

pub record OpensHead (head : HeadRead) (before after : Reader) : Type 0 where
  pub form : OpenForm
  pub pushed : after.forms ≡ form ∷ before.forms
  pub kind : form.kind ≡ HeadKind
  pub is : form.form ≡ head.form
  pub start : form.start ≡ head.start
  pub children : form.children.items ≡ head.children.items
  pub height : form.height ≡ head.height
  pub in_if : head.form ≡ IfForm → form.in_loop ≡ in_loop_of before.forms
  pub in_loop : (head.form ≡ IfForm → ⊥) → form.in_loop ≡ true
  pub nodes : after.nodes ≡ before.nodes
  pub function : after.function ≡ before.function
  pub names : after.names ≡ before.names
  pub top : after.top ≡ before.top
  pub functions : after.functions ≡ before.functions
  pub tall : after.height ≡ before.height

pub record EndsForm (form : OpenForm) (stop behind : ℕ) (before after : Reader) (stated : Stated) : Type 0 where
  pub node : stated.node ≡ length before.nodes
  pub height : stated.height ≡ form.height
  pub stops : stated.«end» ≡ stop
  pub behind_is : stated.behind ≡ behind
  pub nodes : after.nodes ≡ before.nodes ++ (record {
    node = record { form = form.form; start = form.start; «end» = stop; symbol = None };
    children = form.children.items;
  } ∷ [])
  pub forms : after.forms ≡ before.forms
  pub function : after.function ≡ before.function
  pub names : after.names ≡ before.names
  pub top : after.top ≡ before.top
  pub functions : after.functions ≡ before.functions
  pub tall : after.height ≡ before.height

-- a function with one statement more
abbrev pub HasOneMore : ℕ → Option OpenFunction → Option OpenFunction → List ℕ → List ℕ → Type 0
HasOneMore node None None before after = after ≡ before ++ (node ∷ [])
HasOneMore node (Some one) (Some other) before after =
    (other.name ≡ one.name) × (other.parameters ≡ one.parameters)
    × (other.body.items ≡ one.body.items ++ (node ∷ [])) × (other.outer ≡ one.outer) × (after ≡ before)
HasOneMore node (Some one) None before after = ⊥
HasOneMore node None (Some other) before after = ⊥

pub record Puts (node height : ℕ) (before after : Reader) : Type 0 where
  pub one_more : HasOneMore node before.function after.function before.top.items after.top.items
  pub tall : after.height ≡ max before.height height
  pub nodes : after.nodes ≡ before.nodes
  pub forms : after.forms ≡ before.forms
  pub names : after.names ≡ before.names
  pub functions : after.functions ≡ before.functions

abbrev pub IsOutcome : Reader → Reading → Type 0
IsOutcome reader (Whole program) =
    (reader.height ≤ 64) × (program.rows ≡ reader.nodes) × (program.top ≡ reader.top.items)
    × (program.functions ≡ map told_function reader.functions.items) × (program.variables ≡ reader.names)
IsOutcome reader TooDeep = 65 ≤ reader.height
IsOutcome reader (Bad place) = ⊥

-- a token that begins a statement that holds no other, if any
pub record IsAlone (token : Lexeme) : Type 0 where
  pub no_open : IsMark OpenBrace token → ⊥
  pub no_close : IsMark CloseBrace token → ⊥
  pub no_if : IsWord IfWord token → ⊥
  pub no_while : IsWord WhileWord token → ⊥
  pub no_for : IsWord ForWord token → ⊥
  pub no_function : IsWord FunctionWord token → ⊥
