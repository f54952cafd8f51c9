-- Rows of `typeof`, `delete`, calls and targets, by what a node is found to be.
use Rattle.std.proofs.Common.{◌≡◌, ◌∙◌, ◌+◌, ℕ, false, List, [], ap, sym, refl}
use Rattle.std.specs.Prelude.{Option, Some, None}
use Rattle.std.specs.Option.{option_map_or, unwrap_or}
use Rattle.es_expressions.specs.Trees.Trees.{NoTrees, OneMore as OneMoreTree}
use Rattle.bml_bytes.specs.Codes.{codes}
use Rattle.es_reader.specs.Programs.{ToldProgram}
use Rattle.es_values.specs.declared.values.Value.{Value}
use Rattle.es_values.specs.declared.values.Value.TheVariants.{Undefined, Null, Bool as Boolean, Number, Str, Object, Function, Host}
use Rattle.es_values.specs.Values.{type_name}
use Rattle.es_shapes.specs.declared.codes.Code.{Code}
use Rattle.es_shapes.specs.declared.shapes.Shape.{Shape}
use Rattle.es_shapes.specs.declared.shapes.Shape.TheVariants as shape
use Rattle.es_eval.specs.Actions.{Action, behind, gives}
use Rattle.es_eval.specs.Calls.{Body, call_value}
use Rattle.es_eval.specs.declared.works.Given.TheVariants as given
use Rattle.es_eval.specs.declared.works.Now.{Now}
use Rattle.es_eval.specs.declared.works.Now.TheVariants as now
use Rattle.es_eval.specs.devices.Machines.{GoesOn, MachineState, rest, run_from, world_of}
use Rattle.es_eval.specs.Members.{named}
use Rattle.es_eval.specs.devices.Works.{as_value}
use Rattle.es_shapes.specs.Operators.{type_text}
use Rattle.es_eval.specs.Rows.{Evaluation, call_row, delete_row, expression_row, typeof_name, values}
use Rattle.es_shapes.specs.devices.Shapes.{shaped}
use Rattle.es_shapes.specs.devices.Parts.{expression_at, parts_from, tree_of, trees_from}
use Rattle.es_shapes.specs.Sources.{expressions_of, target_of}
use Rattle.es_shapes.specs.Syntax.{Expression, Expressions, Function as Declared}
use Rattle.es_shapes.specs.Syntax.Expression.{Typeof}
use Rattle.es_shapes.specs.Syntax.Expressions.{NoExpressions, OneMore}
use Rattle.es_shapes.specs.Syntax.Target.{NameTarget}

-- the codes of an ASCII word are its bytes
pub plain-type_name : (value : Value) → codes (type_name value) ≡ type_name value
unfolding codes
plain-type_name Undefined = refl
plain-type_name Null = refl
plain-type_name (Boolean truth) = refl
plain-type_name (Number number) = refl
plain-type_name (Str text) = refl
plain-type_name (Object object) = refl
plain-type_name (Function number) = refl
plain-type_name (Host reference) = refl

-- ---- what is neither a name nor a member

pub other-row : (row other : Expression → Action Value) (e found : Expression) → e ≡ found
    → row found ≡ other found → row e ≡ other e
other-row row other e found is same = ap row is ∙ same ∙ sym (ap other is)

pub callee-other : (programs : List ToldProgram) (code : Code) (found : Shape)
    (functions : List Declared) (body : Body) (ev : Evaluation) (arguments : Expressions)
    → ((base key : Code) → found ≡ shape.Index base key → ⊥)
    → ((base : Code) (name : List ℕ) → found ≡ shape.Member base name → ⊥)
    → call_row functions body ev (shaped programs code found) arguments
    ≡ behind (ev (shaped programs code found)) (λ callee. behind (values ev arguments) (λ given.
    call_value functions body callee given))
unfolding shaped
callee-other programs code (shape.Index base key) functions body ev arguments index member =
    absurd (index base key refl)
callee-other programs code (shape.Member base name) functions body ev arguments index member =
    absurd (member base name refl)
callee-other programs code other functions body ev arguments index member = refl

pub typeof-other : (programs : List ToldProgram) (code : Code) (found : Shape)
    (functions : List Declared) (body : Body) (ev : Evaluation)
    → ((name : List ℕ) → found ≡ shape.Name name → ⊥)
    → expression_row functions body ev (Typeof (shaped programs code found))
    ≡ behind (ev (shaped programs code found)) (λ value. gives (type_text value))
unfolding shaped
typeof-other programs code (shape.Name name) functions body ev differs =
    absurd (differs name refl)
typeof-other programs code other functions body ev differs = refl

pub delete-other : (programs : List ToldProgram) (code : Code) (found : Shape) (ev : Evaluation)
    → ((name : List ℕ) → found ≡ shape.Name name → ⊥)
    → ((base key : Code) → found ≡ shape.Index base key → ⊥)
    → ((base : Code) (name : List ℕ) → found ≡ shape.Member base name → ⊥)
    → delete_row ev (shaped programs code found)
    ≡ behind (ev (shaped programs code found)) (λ value. gives (Boolean false))
unfolding shaped
delete-other programs code (shape.Name name) ev named index member = absurd (named name refl)
delete-other programs code (shape.Index base key) ev named index member =
    absurd (index base key refl)
delete-other programs code (shape.Member base name) ev named index member =
    absurd (member base name refl)
delete-other programs code other ev named index member = refl

pub target-other : (programs : List ToldProgram) (code : Code) (found : Shape)
    → ((name : List ℕ) → found ≡ shape.Name name → ⊥)
    → ((base key : Code) → found ≡ shape.Index base key → ⊥)
    → ((base : Code) (name : List ℕ) → found ≡ shape.Member base name → ⊥)
    → target_of (shaped programs code found) ≡ NameTarget []
unfolding shaped
target-other programs code (shape.Name name) named index member = absurd (named name refl)
target-other programs code (shape.Index base key) named index member =
    absurd (index base key refl)
target-other programs code (shape.Member base name) named index member =
    absurd (member base name refl)
target-other programs code other named index member = refl

-- ---- parts of a node

pub parts-more : (programs : List ToldProgram) (code : Code) (place : ℕ) (found : Option Code)
    (part : Code)
    → trees_from programs code place ≡ option_map_or
    (λ part. OneMoreTree (tree_of programs part) (trees_from programs code (place + 1))) found
    NoTrees → found ≡ Some part
    → parts_from programs code place
    ≡ OneMore (expression_at programs part) (parts_from programs code (place + 1))
unfolding expressions_of
parts-more programs code place found part trees some =
    ap expressions_of (trees ∙ ap (λ (o : Option Code). option_map_or
    (λ part. OneMoreTree (tree_of programs part) (trees_from programs code (place + 1))) o
    NoTrees) some)

pub parts-none : (programs : List ToldProgram) (code : Code) (place : ℕ) (found : Option Code)
    → trees_from programs code place ≡ option_map_or
    (λ part. OneMoreTree (tree_of programs part) (trees_from programs code (place + 1))) found
    NoTrees → found ≡ None → parts_from programs code place ≡ NoExpressions
unfolding expressions_of
parts-none programs code place found trees none =
    ap expressions_of (trees ∙ ap (λ (o : Option Code). option_map_or
    (λ part. OneMoreTree (tree_of programs part) (trees_from programs code (place + 1))) o
    NoTrees) none)

-- ---- `typeof` of a name

typeof-is : (found : Option Value)
    → type_text (unwrap_or found Undefined) ≡ option_map_or type_text found (type_text Undefined)
typeof-is None = refl
typeof-is (Some value) = refl

pub typeof-run : (programs : List ToldProgram) (m : MachineState) (name : List ℕ)
    (found : Option Value) (next : Now) → found ≡ named (world_of programs m) name
    → next ≡ now.Gives (given.Value (type_text (unwrap_or found Undefined)))
    → GoesOn programs m (as_value (typeof_name name)) m next
typeof-run programs m name found next is gives =
    ap (run_from programs m) gives
    ∙ ap (λ (text : Value). rest programs m.frames (given.Value text) (world_of programs m))
    (typeof-is found ∙ ap (λ (o : Option Value). option_map_or type_text o (type_text Undefined)) is)
