-- Names that become globals one behind the other.
use Rattle.std.proofs.Common.{◌≡◌, ◌∙◌, ◌+◌, ◌<◌, ◌≤◌, ℕ, Bool, true, false, List, [], ◌∷◌, length, drop, get_or, ap, sym, refl, arith}
use Rattle.std.specs.Prelude.{if◌then◌else◌, is_some, map, Some, slice_get, take}
use Rattle.std.specs.List.{flat_map}
use Rattle.std.specs.Map.{lookup}
use Rattle.std.specs.Option.{option_map_or}
use Rattle.std.proofs.lemmas.List.{length-map}
use Rattle.std.proofs.lemmas.List.Folds.{length-flat_map-take}
use Rattle.bml_bytes.specs.Words.{is_same}
use Rattle.es_reader.specs.Programs.{ToldProgram}
use Rattle.es_expressions.specs.Nodes.{NodeRow}
use Rattle.es_reader.specs.Told.{told_function}
use Rattle.es_reader.specs.declared.programs.FunctionDecl.{FunctionDecl}
use Rattle.es_values.specs.declared.values.Value.{Value}
use Rattle.es_values.specs.declared.values.Value.TheVariants.{Undefined, Function as FunctionValue}
use Rattle.es_values.specs.Heaps.{with_value}
use Rattle.es_shapes.specs.Functions.{first_function}
use Rattle.es_shapes.specs.Codes.{declared_by, function_at}
use Rattle.es_shapes.specs.Syntax.{Function}
use Rattle.es_eval.specs.devices.Declaring.{with_new, with_new_one, with_numbered}
use Rattle.es_eval.specs.Evaluation.{with_functions, with_new_name, with_variables}
use Rattle.es_eval.specs.devices.Machines.{variables_of, with_declared}
use Rattle.es_eval.specs.Worlds.{World}
use Rattle.es_eval.proofs.TurnLemmas.{drop-at}

-- ---- functions

-- those before a place, and those of the program there, are at most all
pub count-within : (programs : List ToldProgram) (i : ℕ) (told : ToldProgram)
    → i < length programs → told ≡ get_or programs i told
    → length (declared_by (take i programs)) + length told.functions
    ≤ length (declared_by programs)
unfolding declared_by
count-within programs i told h is =
    let f : ToldProgram → List Function = λ told. map (function_at told.rows) told.functions in
    let within : length (flat_map f (take i programs)) + length (f (get_or programs i told))
    ≤ length (flat_map f programs) = length-flat_map-take f programs i told h in
    let same : length (f (get_or programs i told)) ≡ length told.functions =
    ap (λ x. length (f x)) (sym is) ∙ length-map told.functions (function_at told.rows) in
    omega arith

abbrev pub names_of_all : List FunctionDecl → List (List ℕ)
names_of_all functions = map (λ (f : FunctionDecl). f.name) functions

pub numbered-more : (functions : List FunctionDecl) (place number : ℕ) (f : FunctionDecl)
    (old new : List (List ℕ × Value)) → place < length functions
    → f ≡ get_or functions place f → new ≡ with_value old f.name (FunctionValue number)
    → with_numbered (number + 1) (names_of_all (drop (place + 1) functions)) new
    ≡ with_numbered number (names_of_all (drop place functions)) old
numbered-more functions place number f old new inside is put =
    ap (with_numbered (number + 1) (names_of_all (drop (place + 1) functions))) put
    ∙ sym (ap (λ fs. with_numbered number (names_of_all fs) old) (drop-at functions place f inside is))

numbered-told : (rows : List NodeRow) (number : ℕ) (functions : List FunctionDecl)
    (globals : List (List ℕ × Value))
    → with_functions number (map (function_at rows) (map told_function functions)) globals
    ≡ with_numbered number (names_of_all functions) globals
unfolding function_at
numbered-told rows number [] globals = refl
numbered-told rows number (f ∷ functions) globals =
    numbered-told rows (number + 1) functions (with_value globals f.name (FunctionValue number))

-- ---- variables

pub new-more : (names : List (List ℕ)) (place : ℕ) (name : List ℕ)
    (old new : List (List ℕ × Value)) → place < length names → name ≡ get_or names place name
    → new ≡ with_new_one old name
    → with_new (drop (place + 1) names) new ≡ with_new (drop place names) old
new-more names place name old new inside is put =
    ap (with_new (drop (place + 1) names)) put
    ∙ sym (ap (λ ns. with_new ns old) (drop-at names place name inside is))

new-one-world : (w : World) (name : List ℕ)
    → with_new_name w name ≡ record w { globals = with_new_one w.globals name }
new-one-world w name = by (is_some (lookup (is_same name) w.globals))
  where
    by : (found : Bool)
        → (if found then w else record w { globals = with_value w.globals name Undefined })
        ≡ record w { globals = if found then w.globals else with_value w.globals name Undefined }
    by true = refl
    by false = refl

pub new-world : (names : List (List ℕ)) (w : World)
    → with_variables names w ≡ record w { globals = with_new names w.globals }
new-world [] w = refl
new-world (name ∷ names) w =
    ap (with_variables names) (new-one-world w name)
    ∙ new-world names (record w { globals = with_new_one w.globals name })

-- ---- what is declared of a program among programs

pub declared-world : (programs : List ToldProgram) (which : ℕ) (told : ToldProgram)
    (functions : List FunctionDecl) (number : ℕ) (w : World) (new : List (List ℕ × Value))
    → slice_get programs which ≡ Some told → map told_function functions ≡ told.functions
    → number ≡ 16 + length (declared_by (take which programs))
    → new ≡ with_numbered number (names_of_all functions) w.globals
    → record w { globals = new } ≡ with_declared programs which w
unfolding with_declared first_function
declared-world programs which told functions number w new is same count put =
    let all : ℕ = 16 + length (declared_by (take which programs)) in
    ap (λ (g : List (List ℕ × Value)). record w { globals = g })
    (put
    ∙ sym (numbered-told told.rows number functions w.globals)
    ∙ ap (λ fs. with_functions number (map (function_at told.rows) fs) w.globals) same
    ∙ ap (λ n. with_functions n (map (function_at told.rows) told.functions) w.globals) count
    ∙ sym (ap (λ found. with_functions all
    (option_map_or (λ (t : ToldProgram). map (function_at t.rows) t.functions) found []) w.globals) is))

pub variables-world : (programs : List ToldProgram) (which : ℕ) (told : ToldProgram)
    (names : List (List ℕ)) (w : World) (new : List (List ℕ × Value))
    → slice_get programs which ≡ Some told → names ≡ told.variables
    → new ≡ with_new names w.globals
    → record w { globals = new } ≡ with_variables (variables_of programs which) w
variables-world programs which told names w new is same put =
    ap (λ (g : List (List ℕ × Value)). record w { globals = g }) put
    ∙ sym (new-world names w)
    ∙ ap (λ ns. with_variables ns w) same
    ∙ sym (ap (λ found. with_variables (option_map_or (λ (t : ToldProgram). t.variables) found []) w) is)
