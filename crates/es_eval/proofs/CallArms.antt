-- How the arms of calls make the runs of their rows.
use Rattle.std.proofs.Common.{◌≡◌, ◌∙◌, ◌+◌, ◌-◌, ◌<◌, ◌≤◌, ℕ, Bool, true, false, List, [], ◌∷◌, ◌++◌, length, ap, sym, subst, refl, append_assoc, arith}
use Rattle.std.specs.Prelude.{All, Option, Some, None, if◌then◌else◌, nat_lt, slice_get, drop}
use Rattle.std.specs.List.{sum_by}
use Rattle.std.specs.Option.{option_and_then, option_map, option_map_or}
use Rattle.std.proofs.Math.Path.{fun_ext}
use Rattle.std.proofs.lemmas.Bool.Decides.{nat_tests}
use Rattle.std.proofs.lemmas.List.{append-nil}
use Rattle.std.proofs.lemmas.List.Elements.{All-cons, All-head, All-nil, All-tail}
use Rattle.std.proofs.lemmas.Option.{same_Some}
use Rattle.es_expressions.specs.Trees.Trees.{NoTrees, OneMore}
use Rattle.es_builtins.specs.declared.built.Built.{Built}
use Rattle.es_builtins.specs.Functions.{construction_row, function_row}
use Rattle.es_builtins.specs.Methods.{method_row}
use Rattle.es_builtins.specs.Rows.{Row}
use Rattle.es_eval.specs.devices.OpenCalls.{Call, names_at}
use Rattle.es_values.specs.Charges.{conversion_charge}
use Rattle.es_values.specs.Heaps.{object_at, value_of}
use Rattle.es_values.specs.Objects.{ObjectState}
use Rattle.es_reader.specs.Programs.{ToldFunction, ToldProgram}
use Rattle.es_values.specs.declared.values.HostRef.{HostRef}
use Rattle.es_values.specs.declared.values.Value.{Value}
use Rattle.es_values.specs.declared.values.Value.TheVariants.{Undefined, Null, Bool as Boolean, Number, Str, Object, Function as FunctionValue, Host}
use Rattle.es_shapes.specs.declared.codes.Code.{Code}
use Rattle.es_shapes.specs.declared.codes.Listing.TheVariants.{Body as BodyListing}
use Rattle.es_shapes.specs.declared.functions.Declared.{Declared}
use Rattle.es_eval.specs.declared.outcomes.Outcome.TheVariants.{Stopped}
use Rattle.es_eval.specs.declared.outcomes.StopCause.TheVariants.{Budget, Depth}
use Rattle.es_eval.specs.declared.works.Callee.{Callee}
use Rattle.es_eval.specs.declared.works.CallWork.TheVariants.{Argument, Constructed}
use Rattle.es_eval.specs.declared.works.Given.{Given}
use Rattle.es_eval.specs.declared.works.Given.TheVariants as given
use Rattle.es_eval.specs.declared.works.Now.{Now}
use Rattle.es_eval.specs.declared.works.Now.TheVariants as now
use Rattle.es_eval.specs.declared.works.OpenCall.{OpenCall}
use Rattle.es_eval.specs.declared.works.Work.TheVariants.{Call as CallItem}
use Rattle.es_eval.specs.Actions.{Action, Next, answered, behind, by_row, charged}
use Rattle.es_frames.specs.Depth.{most_calls}
use Rattle.es_eval.specs.Calls.{Body, bound, call_member, call_number, call_property, construct, enter, inside, new_value, object_or, outside, with_new_object}
use Rattle.es_shapes.specs.Functions.{declared_function}
use Rattle.es_shapes.specs.devices.Parts.{declared_at, function_trees, listed, parts_from, statements_from, tree_of, trees_from}
use Rattle.es_shapes.specs.Codes.{declared_by, function_at, trees_at}
use Rattle.es_eval.specs.Evaluation.{returned}
use Rattle.es_eval.specs.devices.Machines.{built_run, value_rest, GoesOn, MachineState, Stays, behind_frame, outside_of, rest, run_from, value_of_call, world_of}
use Rattle.es_eval.specs.Rows.{Completion, statements, values}
use Rattle.es_eval.specs.Rows.Completion.{Normal, Broke, Continued, Returned}
use Rattle.es_shapes.specs.Sources.{expressions_of, statements_of}
use Rattle.es_shapes.specs.Syntax.{Function, Statements}
use Rattle.es_eval.specs.Unbounded.{called}
use Rattle.es_eval.specs.devices.Works.{as_completion, as_value, calls_callee, calls_with, completed, does, enters, evaluates, runs}
use Rattle.es_eval.specs.Worlds.{Run, World}
use Rattle.es_eval.specs.Worlds.Run.{Calls, Over}
use Rattle.es_eval.proofs.UnboundedLemmas.{called-row}

-- ---- functions that are declared

-- where the function of a number is declared, it is entered
pub found-run : {A : Type 0} (P : A → Type 0) (enters : Function → A) (other : A)
    (found there : Option Function) → found ≡ there → (there ≡ None → ⊥)
    → ((function : Function) → there ≡ Some function → P (enters function))
    → P (option_map_or enters found other)
found-run P enters other found None is some arm = absurd (some refl)
found-run P enters other found (Some function) is some arm =
    subst (λ o. P (option_map_or enters o other)) (sym is) (arm function refl)

pub missing-run : {A : Type 0} (P : A → Type 0) (enters : Function → A) (other : A)
    (found : Option Function) → found ≡ None → P other → P (option_map_or enters found other)
missing-run P enters other found is arm =
    subst (λ o. P (option_map_or enters o other)) (sym is) arm

-- what a function at a place is
pub record IsDeclared (programs : List ToldProgram) (declared : Declared) (told : ToldFunction)
    (function : Function) : Type 0 where
  pub names : names_at programs declared ≡ told.locals
  pub locals : function.locals ≡ told.locals
  pub parameters : function.parameters ≡ told.parameters
  pub body : statements_of (function_trees programs declared.program declared.function 0)
      ≡ function.body

pub is_declared : (programs : List ToldProgram) (declared : Declared) (told : ToldFunction)
    (function : Function)
    → Some told ≡ option_and_then (λ found. slice_get found.functions declared.function)
    (slice_get programs declared.program)
    → declared_at programs declared ≡ Some function
    → IsDeclared programs declared told function
unfolding declared_at function_at
is_declared programs declared told function told_is at =
    by (slice_get programs declared.program) refl told_is at
  where
    place : ℕ
    place = declared.function

    named : (there : Option ToldFunction) → Some told ≡ there
        → option_map_or (λ told. told.locals) there [] ≡ told.locals
    named there is = ap (λ found. option_map_or (λ told. told.locals) found []) (sym is)

    parts : (found : ToldProgram) (there : Option ToldFunction) → Some told ≡ there
        → option_map (function_at found.rows) there ≡ Some function
        → (function.locals ≡ told.locals) × (function.parameters ≡ told.parameters)
        × (statements_of (option_map_or (λ told. trees_at found.rows (drop 0 told.body)) there NoTrees)
        ≡ function.body)
    parts found None is at = absurd (cc)
    parts found (Some other) is at =
        let same : told ≡ other = same_Some told other is in
        let whole : function_at found.rows other ≡ function =
        same_Some (function_at found.rows other) function at in (
          ap (λ f. f.locals) (sym whole) ∙ ap (λ t. t.locals) (sym same),
          ap (λ f. f.parameters) (sym whole) ∙ ap (λ t. t.parameters) (sym same),
          ap (λ f. f.body) whole,
        )

    by : (found : Option ToldProgram) → slice_get programs declared.program ≡ found
        → Some told ≡ option_and_then (λ found. slice_get found.functions place) found
        → option_and_then (λ found. option_map (function_at found.rows)
        (slice_get found.functions place)) found ≡ Some function
        → IsDeclared programs declared told function
    by None e is at = absurd (cc)
    by (Some found) e is at =
        let all = parts found (slice_get found.functions place) is at in
        record {
          names = named (option_and_then (λ found. slice_get found.functions declared.function)
              (slice_get programs declared.program)) told_is;
          locals = all.0;
          parameters = all.1;
          body = rw e all.2;
        }

pub not_declared : (programs : List ToldProgram) (declared : Declared) (function : Function)
    → None ≡ option_and_then (λ found. slice_get found.functions declared.function)
    (slice_get programs declared.program)
    → declared_at programs declared ≡ Some function → ⊥
unfolding declared_at
not_declared programs declared function none at =
    by (slice_get programs declared.program) none at
  where
    by : (found : Option ToldProgram)
        → None ≡ option_and_then (λ found. slice_get found.functions declared.function) found
        → option_and_then (λ found. option_map (function_at found.rows)
        (slice_get found.functions declared.function)) found ≡ Some function → ⊥
    by None none at = absurd (cc)
    by (Some found) none at = in_program (slice_get found.functions declared.function) none at
      where
        in_program : (there : Option ToldFunction) → None ≡ there
            → option_map (function_at found.rows) there ≡ Some function → ⊥
        in_program None none at = absurd (cc)
        in_program (Some told) none at = absurd (cc)

-- ---- what is entered

pub behind_call : (programs : List ToldProgram) (frames : List Call) → 1 ≤ length frames
    → behind_frame programs frames
    ≡ (λ handed w. rest programs frames (value_of_call handed) (outside_of programs frames w))
unfolding rest
behind_call programs [] some = absurd (omega arith)
behind_call programs (caller ∷ below) some = refl

returned-given : (completion : Completion)
    → value_of_call (completed completion) ≡ given.Value (returned completion)
returned-given Normal = refl
returned-given Broke = refl
returned-given Continued = refl
returned-given (Returned value) = refl

-- the statements of a body
pub body-run : (programs : List ToldProgram) (program function : ℕ) (body : Statements) (w : World)
    (next : Next Given) (more : Next Value)
    → statements_of (function_trees programs program function 0) ≡ body
    → ((completion : Completion) (after : World)
    → next (completed completion) after ≡ more (returned completion) after)
    → as_completion (statements (runs programs)
    (statements_from programs (BodyListing program function) 0)) w next
    ≡ called (declared_by programs) body w more
unfolding listed
body-run programs program function body w next more whole same =
    ap (statements (runs programs) (statements_from programs (BodyListing program function) 0) w)
    (fun_ext (λ completion. fun_ext (λ after. same completion after)))
    ∙ ap (λ inner. statements (runs programs) inner w
    (λ completion after. more (returned completion) after)) whole
    ∙ sym (called-row (declared_by programs) body w more)

-- a body, without what a call does where too many are open
abbrev pub enters_body : List ToldProgram → Function → Value → List Value → Action Value
enters_body programs function this arguments = λ caller after.
    called (declared_by programs) function.body (inside function this arguments caller)
    (λ value w. after value (outside caller w))

-- in the call, by what is told of its function
abbrev pub inside_told : ToldFunction → Value → List Value → World → World
inside_told told this arguments w = record w {
  locals = bound told.locals told.parameters arguments;
  this = this;
  depth = w.depth + 1;
}

told-inside : (told : ToldFunction) (function : Function) (this : Value) (arguments : List Value)
    (w : World) → function.locals ≡ told.locals → function.parameters ≡ told.parameters
    → inside_told told this arguments w ≡ inside function this arguments w
told-inside told function this arguments w locals parameters =
    ap (λ names. by (bound names told.parameters arguments)) (sym locals)
    ∙ ap (λ count. by (bound function.locals count arguments)) (sym parameters)
  where
    by : List (List ℕ × Value) → World
    by locals = record w { locals = locals; this = this; depth = w.depth + 1 }

pub entered-run : (programs : List ToldProgram) (old mid new : MachineState) (declared : Declared)
    (told : ToldFunction) (function : Function) (this : Value) (arguments : List Value)
    (next : Now) → IsDeclared programs declared told function → 1 ≤ length old.frames
    → world_of programs mid ≡ inside_told told this arguments (world_of programs old)
    → rest programs mid.frames ≡ behind_frame programs old.frames
    → GoesOn programs mid (as_completion (statements (runs programs)
    (statements_from programs (BodyListing declared.program declared.function) 0))) new next
    → GoesOn programs old (as_value (enters_body programs function this arguments)) new next
entered-run programs old mid new declared told function this arguments next is some at behind on =
    let back : rest programs mid.frames ≡ returns = behind ∙ behind_call programs old.frames some in
    on
    ∙ ap (λ w. body w (rest programs mid.frames))
    (at ∙ told-inside told function this arguments (world_of programs old) is.locals is.parameters)
    ∙ ap (body inner) back
    ∙ body-run programs declared.program declared.function function.body inner returns
    (λ value w. rest programs old.frames (given.Value value) (outside (world_of programs old) w)) is.body
    (λ completion after. ap (λ handed. rest programs old.frames handed (outside_of programs old.frames after))
    (returned-given completion))
  where
    body : Action Given
    body = as_completion (statements (runs programs)
        (statements_from programs (BodyListing declared.program declared.function) 0))

    inner : World
    inner = inside function this arguments (world_of programs old)

    returns : Next Given
    returns handed w =
        rest programs old.frames (value_of_call handed) (outside_of programs old.frames w)

-- ---- how deep calls are

pub too_deep : (frames : ℕ) → most_calls < frames → nat_lt (frames - 1) most_calls ≡ false
too_deep frames deep = grind (arith, nat_tests)

pub not_deep : (frames : ℕ) → frames ≤ most_calls → 1 ≤ frames → nat_lt (frames - 1) most_calls ≡ true
not_deep frames deep some = grind (arith, nat_tests)

pub shallow-run : (programs : List ToldProgram) (old new : MachineState) (function : Function)
    (this : Value) (arguments : List Value) (next : Now) → length old.frames ≤ most_calls
    → 1 ≤ length old.frames
    → GoesOn programs old (as_value (enters_body programs function this arguments)) new next
    → GoesOn programs old
    (as_value (enter (called (declared_by programs)) function this arguments)) new next
shallow-run programs old new function this arguments next shallow some on =
    rw (not_deep (length old.frames) shallow some) on

pub deep-run : (programs : List ToldProgram) (old : MachineState) (body : Body) (function : Function)
    (this : Value) (arguments : List Value) (next : Now) → most_calls < length old.frames
    → next ≡ now.Over (Stopped Depth)
    → GoesOn programs old (as_value (enter body function this arguments)) old next
deep-run programs old body function this arguments next deep over =
    ap (run_from programs old) over ∙ rw (too_deep (length old.frames) deep) refl

-- programs by another name
pub on_named : (programs now : List ToldProgram) (old new : MachineState) (declared : Declared)
    (this : Value) (arguments : List Value) (next : Now) → now ≡ programs
    → ((function : Function) → declared_at now declared ≡ Some function
    → GoesOn now old (as_value (enters_body now function this arguments)) new next)
    → (function : Function) → declared_at programs declared ≡ Some function
    → GoesOn programs old (as_value (enters_body programs function this arguments)) new next
on_named programs now old new declared this arguments next same on =
    subst (λ ps. (function : Function) → declared_at ps declared ≡ Some function
    → GoesOn ps old (as_value (enters_body ps function this arguments)) new next) same on

pub enter-run : (programs now : List ToldProgram) (old new : MachineState) (declared : Declared)
    (this : Value) (arguments : List Value) (next : Now) → now ≡ programs
    → length old.frames ≤ most_calls → 1 ≤ length old.frames
    → ((function : Function) → declared_at now declared ≡ Some function
    → GoesOn now old (as_value (enters_body now function this arguments)) new next)
    → (function : Function) → declared_at programs declared ≡ Some function
    → GoesOn programs old
    (as_value (enter (called (declared_by programs)) function this arguments)) new next
enter-run programs now old new declared this arguments next same shallow some on function at =
    shallow-run programs old new function this arguments next shallow some
    (on_named programs now old new declared this arguments next same on function at)

pub number-run : (programs now : List ToldProgram) (old new : MachineState) (number : ℕ)
    (declared : Declared) (this : Value) (arguments : List Value) (next : Now) → now ≡ programs
    → declared_function (declared_by programs) number ≡ declared_at programs declared
    → (declared_at programs declared ≡ None → ⊥)
    → ((function : Function) → declared_at now declared ≡ Some function
    → GoesOn now old (as_value (enter (called (declared_by now)) function this arguments)) new next)
    → GoesOn programs old (as_value
    (call_number (declared_by programs) (called (declared_by programs)) number this arguments)) new
    next
number-run programs now old new number declared this arguments next same is some on =
    found-run (λ action. GoesOn programs old (as_value action) new next)
    (λ function. enter (called (declared_by programs)) function this arguments)
    (by_row (λ heap. function_row heap number arguments))
    (declared_function (declared_by programs) number) (declared_at programs declared) is some
    (subst (λ ps. (function : Function) → declared_at ps declared ≡ Some function
    → GoesOn ps old (as_value (enter (called (declared_by ps)) function this arguments)) new next)
    same on)

pub new-run : (programs now : List ToldProgram) (old new : MachineState) (number : ℕ)
    (declared : Declared) (arguments : List Value) (next : Now) → now ≡ programs
    → declared_function (declared_by programs) number ≡ declared_at programs declared
    → (declared_at programs declared ≡ None → ⊥)
    → ((function : Function) → declared_at now declared ≡ Some function
    → GoesOn now old (as_value (construct (called (declared_by now)) function arguments)) new next)
    → GoesOn programs old (as_value
    (new_value (declared_by programs) (called (declared_by programs)) (FunctionValue number)
    arguments)) new next
new-run programs now old new number declared arguments next same is some on =
    found-run (λ action. GoesOn programs old (as_value action) new next)
    (λ function. construct (called (declared_by programs)) function arguments)
    (by_row (λ heap. construction_row heap number arguments))
    (declared_function (declared_by programs) number) (declared_at programs declared) is some
    (subst (λ ps. (function : Function) → declared_at ps declared ≡ Some function
    → GoesOn ps old (as_value (construct (called (declared_by ps)) function arguments)) new next)
    same on)

-- ---- `new`

pub deep-construct : (programs : List ToldProgram) (old : MachineState) (body : Body)
    (function : Function) (arguments : List Value) (next : Now) → most_calls < length old.frames
    → next ≡ now.Over (Stopped Depth)
    → GoesOn programs old (as_value (construct body function arguments)) old next
deep-construct programs old body function arguments next deep over =
    ap (run_from programs old) over ∙ rw (too_deep (length old.frames) deep) refl

module _ (programs : List ToldProgram) (old : MachineState) (function : Function)
    (arguments : List Value) (shallow : length old.frames ≤ most_calls) (some : 1 ≤ length old.frames)
  where
    fs : List Function
    fs = declared_by programs

    -- with the new object at a number, and what comes behind
    constructs : ℕ → World → Next Given → Run
    constructs object w go =
        called fs function.body (inside function (Object object) arguments w)
        (λ value after. go (given.Value (object_or (Object object) value)) (outside w after))

    shallow-construct : (new : MachineState) (next : Now)
        → run_from programs new next
        ≡ constructs (length old.heap) (with_new_object (world_of programs old)) (rest programs old.frames)
        → GoesOn programs old (as_value (construct (called fs) function arguments)) new next
    unfolding constructs fs
    shallow-construct new next on = rw (not_deep (length old.frames) shallow some) on

    pub construct-run : (mid put new : MachineState) (object : ℕ) (next : Now)
        → object ≡ length old.heap → world_of programs mid ≡ with_new_object (world_of programs old)
        → Stays old mid → world_of programs put ≡ world_of programs mid
        → rest programs put.frames
        ≡ (λ handed w. does programs (CallItem (Constructed (Object object))) handed w
        (rest programs mid.frames))
        → GoesOn programs put (as_value (enters_body programs function (Object object) arguments))
        new next
        → GoesOn programs old (as_value (construct (called (declared_by programs)) function arguments))
        new next
    unfolding constructs fs
    construct-run mid put new object next at world stays same behind on =
        let back : rest programs put.frames ≡ (λ handed w.
        does programs (CallItem (Constructed (Object object))) handed w (rest programs old.frames)) =
        behind ∙ ap (λ go. (λ handed w. does programs (CallItem (Constructed (Object object))) handed w
        go)) (stays.rest programs) in
        shallow-construct new next
        (on
        ∙ ap (λ w. called fs function.body (inside function (Object object) arguments w)
        (λ value after. rest programs put.frames (given.Value value) (outside w after))) (same ∙ world)
        ∙ ap (λ go. called fs function.body (inside function (Object object) arguments
        (with_new_object (world_of programs old))) (λ value after. go (given.Value value)
        (outside (with_new_object (world_of programs old)) after))) back
        ∙ ap (λ number. constructs number (with_new_object (world_of programs old)) (rest programs old.frames)) at)

-- ---- what is built in

pub built-call : (programs : List ToldProgram) (old new : MachineState)
    (row : List ObjectState → Row) (built : Built) (next : Now)
    → ((told : List ToldProgram) (go : Next Value)
    → by_row row (world_of told old) go ≡ built_run built (world_of told new) go)
    → Stays old new
    → run_from programs new next ≡ built_run built (world_of programs new) (value_rest programs new.frames)
    → GoesOn programs old (as_value (by_row row)) new next
built-call programs old new row built next called stays on =
    on
    ∙ ap (λ go. built_run built (world_of programs new) (λ value w. go (given.Value value) w))
    (stays.rest programs)
    ∙ sym (called programs (value_rest programs old.frames))

-- a property that is no function
property-run : (functions : List Function) (body : Body) (object : ℕ) (key : List ℕ)
    (arguments : List Value) (value : Value)
    → ((number : ℕ) → value ≡ FunctionValue number → ⊥)
    → call_property functions body object key arguments value
    ≡ by_row (λ heap. method_row heap (Object object) key arguments)
property-run functions body object key arguments Undefined other = refl
property-run functions body object key arguments Null other = refl
property-run functions body object key arguments (Boolean truth) other = refl
property-run functions body object key arguments (Number number) other = refl
property-run functions body object key arguments (Str text) other = refl
property-run functions body object key arguments (Object inner) other = refl
property-run functions body object key arguments (FunctionValue number) other =
    absurd (other number refl)
property-run functions body object key arguments (Host reference) other = refl

pub member-run : (programs : List ToldProgram) (old new : MachineState) (base value : Value)
    (object : ℕ) (key : List ℕ) (arguments : List Value) (next : Now) → base ≡ Object object
    → value ≡ value_of (object_at old.heap object) key
    → ((number : ℕ) → value ≡ FunctionValue number → ⊥)
    → GoesOn programs old
    (as_value (by_row (λ heap. method_row heap (Object object) key arguments))) new next
    → GoesOn programs old (as_value
    (call_member (declared_by programs) (called (declared_by programs)) base key arguments)) new next
member-run programs old new base value object key arguments next at is other on =
    on
    ∙ ap (λ action. as_value action w go)
    (sym (property-run functions (called functions) object key arguments value other)
    ∙ ap (call_property functions (called functions) object key arguments) is)
    ∙ ap (λ base. as_value (call_member functions (called functions) base key arguments) w go) (sym at)
  where
    functions : List Function
    functions = declared_by programs

    w : World
    w = world_of programs old

    go : Next Given
    go = rest programs old.frames

-- ---- the host

-- what charges for arguments makes of each action
abbrev pub ChargesAll : MachineState → List Value → Bool → MachineState → Type 0
ChargesAll old arguments taken new =
    (programs : List ToldProgram) (action : Action Value) (next : Next Value)
    → charged (λ heap. sum_by (conversion_charge heap) arguments) action (world_of programs old) next
    ≡ (if taken then action (world_of programs new) next
    else Over (Stopped Budget) (world_of programs new))

abbrev pub asks : HostRef → List ℕ → List Value → Action Value
asks base key arguments =
    charged (λ heap. sum_by (conversion_charge heap) arguments)
    (λ w next. Calls base key arguments w.heap (answered w next))

pub host-run : (programs : List ToldProgram) (old new : MachineState) (base : HostRef)
    (key : List ℕ) (arguments values : List Value) (taken : Bool) → values ≡ arguments
    → ChargesAll old values taken new → taken ≡ true → Stays old new
    → Calls base key arguments new.heap (answered (world_of programs new)
    (λ value after. rest programs new.frames (given.Value value) after))
    ≡ as_value (asks base key arguments) (world_of programs old) (rest programs old.frames)
host-run programs old new base key arguments values taken same charges some stays =
    let charged_for : ChargesAll old arguments true new =
    subst (λ b. ChargesAll old arguments b new) some
    (subst (λ xs. ChargesAll old xs taken new) same charges) in
    ap (λ go. Calls base key arguments new.heap (answered (world_of programs new)
    (λ value after. go (given.Value value) after))) (stays.rest programs)
    ∙ sym (charged_for programs (λ w next. Calls base key arguments w.heap (answered w next))
    (λ value w. rest programs old.frames (given.Value value) w))

pub no_host-run : (programs : List ToldProgram) (old new : MachineState) (base : HostRef)
    (key : List ℕ) (arguments values : List Value) (taken : Bool) (next : Now)
    → values ≡ arguments → ChargesAll old values taken new → taken ≡ false
    → next ≡ now.Over (Stopped Budget)
    → GoesOn programs old (as_value (asks base key arguments)) new next
no_host-run programs old new base key arguments values taken next same charges none over =
    let charged_for : ChargesAll old arguments false new =
    subst (λ b. ChargesAll old arguments b new) none
    (subst (λ xs. ChargesAll old xs taken new) same charges) in
    ap (run_from programs new) over
    ∙ sym (charged_for programs (λ w next. Calls base key arguments w.heap (answered w next))
    (λ value w. rest programs old.frames (given.Value value) w))

-- ---- arguments

pub all_front : {A : Type 0} (P : A → Type 0) (xs ys : List A) → All P (xs ++ ys) → All P xs
all_front P [] ys all = All-nil P
all_front P (x ∷ xs) ys all =
    All-cons P x xs (All-head P x (xs ++ ys) all)
    (all_front P xs ys (All-tail P x (xs ++ ys) all))

pub all_behind : {A : Type 0} (P : A → Type 0) (xs ys : List A) → All P (xs ++ ys) → All P ys
all_behind P [] ys all = all
all_behind P (x ∷ xs) ys all = all_behind P xs ys (All-tail P x (xs ++ ys) all)

pub argument-run : (programs : List ToldProgram) (whole : OpenCall) (place : ℕ) (argument : Code)
    (w : World) (next : Next Given) → whole.next ≡ place + 1
    → trees_from programs whole.call place
    ≡ OneMore (tree_of programs argument) (trees_from programs whole.call (place + 1))
    → evaluates programs argument w
    (λ value after. does programs (CallItem (Argument whole)) (given.Value value) after next)
    ≡ as_value (calls_with programs whole.callee whole.given.items whole.call place) w next
unfolding expressions_of
argument-run programs whole place argument w next at trees =
    ap (evaluates programs argument w) (fun_ext (λ value. fun_ext (λ after. by value after)))
    ∙ sym (ap (λ parts. values (enters programs) (expressions_of parts) w
    (λ others after. calls_callee programs whole.callee (whole.given.items ++ others) after
    (λ value after. next (given.Value value) after))) trees)
  where
    done : List Value → World → Run
    done arguments after = calls_callee programs whole.callee arguments after
        (λ value after. next (given.Value value) after)

    by : (value : Value) (after : World)
        → does programs (CallItem (Argument whole)) (given.Value value) after next
        ≡ values (enters programs) (parts_from programs whole.call (place + 1)) after
        (λ others after. done (whole.given.items ++ value ∷ others) after)
    by value after =
        ap (λ from. values (enters programs) (parts_from programs whole.call from) after
        (λ others after. done ((whole.given.items ++ value ∷ []) ++ others) after)) at
        ∙ ap (values (enters programs) (parts_from programs whole.call (place + 1)) after)
        (fun_ext (λ others. fun_ext (λ after. ap (λ arguments. done arguments after)
        (append_assoc whole.given.items (value ∷ []) others))))

pub arguments-end : (programs : List ToldProgram) (callee : Callee) (there : List Value)
    (call : Code) (place : ℕ) (w : World) (next : Next Given)
    → trees_from programs call place ≡ NoTrees
    → as_value (calls_callee programs callee there) w next
    ≡ as_value (calls_with programs callee there call place) w next
unfolding expressions_of
arguments-end programs callee there call place w next trees =
    ap (λ arguments. calls_callee programs callee arguments w
    (λ value after. next (given.Value value) after)) (sym (append-nil there))
    ∙ sym (ap (λ parts. values (enters programs) (expressions_of parts) w
    (λ others after. calls_callee programs callee (there ++ others) after
    (λ value after. next (given.Value value) after))) trees)
