-- That what is found makes the run of the action that is handed it.
use Rattle.std.proofs.Common.{◌≡◌, ◌∙◌, ℕ, ℤ, ◌-◌, ◌≤◌, Bool, true, false, List, Bor, ap, arith, refl, sym, subst}
use Rattle.std.specs.Prelude.{Option, Some, None, IfSome, nat_le, if◌then◌else◌}
use Rattle.std.specs.List.{position}
use Rattle.std.specs.Map.{lookup}
use Rattle.std.specs.Option.{option_copied, option_map_or}
use Rattle.std.proofs.lemmas.Bool.{false≢true, le-leb, leb-true}
use Rattle.bml_bytes.specs.Words.{is_same}
use Rattle.es_builtins.specs.Functions.{value_named}
use Rattle.es_reader.specs.Programs.{ToldProgram}
use Rattle.es_values.specs.declared.numbers.Num.{Num}
use Rattle.es_values.specs.declared.numbers.Num.TheVariants.{Whole}
use Rattle.es_values.specs.declared.values.Value.{Value}
use Rattle.es_values.specs.declared.values.Value.TheVariants.{Number}
use Rattle.es_values.specs.Charges.{Charges}
use Rattle.es_values.specs.Objects.{ObjectState}
use Rattle.es_shapes.specs.declared.codes.Code.{Code}
use Rattle.es_shapes.specs.declared.operators.Operator.{Operator}
use Rattle.es_shapes.specs.declared.shapes.Shape.{Shape}
use Rattle.es_shapes.specs.declared.shapes.Shape.TheVariants as shape
use Rattle.es_shapes.specs.Operators.{operated, operation_charge, stepped}
use Rattle.es_shapes.specs.Sources.{target_of}
use Rattle.es_shapes.specs.Syntax.{Expression, Target}
use Rattle.es_shapes.specs.Syntax.Expression.{Name}
use Rattle.es_shapes.specs.Syntax.Target.{NameTarget}
use Rattle.es_shapes.specs.devices.Parts.{expression_at}
use Rattle.es_eval.specs.declared.outcomes.Outcome.TheVariants.{Stopped}
use Rattle.es_eval.specs.declared.outcomes.StopCause.TheVariants.{Budget, Unresolved}
use Rattle.es_eval.specs.declared.found.Found.{Found}
use Rattle.es_eval.specs.declared.found.Found.TheVariants as found_of
use Rattle.es_eval.specs.Actions.{Action, Next, and_then, behind, gives, step, takes}
use Rattle.es_eval.specs.Members.{Place, first_of, named, read_name, write_name}
use Rattle.es_eval.specs.Members.Place.{NamePlace}
use Rattle.es_eval.specs.Operations.{operates}
use Rattle.es_eval.specs.Rows.{entered_place, place_row, step_row}
use Rattle.es_eval.specs.Worlds.{World, global, with_name}
use Rattle.es_eval.specs.Worlds.Run.{Over}
use Rattle.es_eval.specs.devices.Machines.{CarriesOn, MachineState, Stays, world_of}
use Rattle.es_eval.specs.devices.OpenCalls.{function_of, names_in, value_at}
use Rattle.es_eval.specs.devices.Finding.{is_single, Finds}
use Rattle.es_eval.specs.devices.Works.{enters, evaluates, steps_from}
use Rattle.es_eval.proofs.ArmLemmas.{Steps}
use Rattle.es_eval.proofs.NameLemmas.{local_at, no_local}

-- ---- leaves

-- nothing else has no parts
pub no-other-single : (found : Shape) → is_single found ≡ true
    → (found ≡ shape.This → ⊥)
    → (found ≡ shape.Null → ⊥)
    → ((truth : Bool) → found ≡ shape.Truth truth → ⊥)
    → ((number : ℤ) → found ≡ shape.Number number → ⊥)
    → ((text : List ℕ) → found ≡ shape.Text text → ⊥)
    → ((name : List ℕ) → found ≡ shape.Name name → ⊥)
    → ⊥
no-other-single shape.This single never _ _ _ _ _ = never refl
no-other-single shape.Null single _ never _ _ _ _ = never refl
no-other-single (shape.Truth truth) single _ _ never _ _ _ = never truth refl
no-other-single (shape.Number number) single _ _ _ never _ _ = never number refl
no-other-single (shape.Text text) single _ _ _ _ never _ = never text refl
no-other-single (shape.Name name) single _ _ _ _ _ never = never name refl
no-other-single (shape.Signed sign operand) single _ _ _ _ _ _ = false≢true single
no-other-single (shape.Binary operator left right) single _ _ _ _ _ _ = false≢true single
no-other-single (shape.And left right) single _ _ _ _ _ _ = false≢true single
no-other-single (shape.Or left right) single _ _ _ _ _ _ = false≢true single
no-other-single (shape.Choice test first second) single _ _ _ _ _ _ = false≢true single
no-other-single (shape.Assign target right) single _ _ _ _ _ _ = false≢true single
no-other-single (shape.Update operator target right) single _ _ _ _ _ _ = false≢true single
no-other-single (shape.Index base key) single _ _ _ _ _ _ = false≢true single
no-other-single (shape.Member base name) single _ _ _ _ _ _ = false≢true single
no-other-single (shape.Call callee) single _ _ _ _ _ _ = false≢true single
no-other-single (shape.New callee) single _ _ _ _ _ _ = false≢true single
no-other-single (shape.Typeof operand) single _ _ _ _ _ _ = false≢true single
no-other-single (shape.Void operand) single _ _ _ _ _ _ = false≢true single
no-other-single (shape.Delete operand) single _ _ _ _ _ _ = false≢true single
no-other-single (shape.Stepped in_front down target) single _ _ _ _ _ _ = false≢true single
no-other-single shape.Comma single _ _ _ _ _ _ = false≢true single

-- ---- what stays

pub stays-on : (old mid new : MachineState) → Stays old mid → Stays mid new → Stays old new
stays-on old mid new first second = record {
  rest = λ programs. second.rest programs ∙ first.rest programs;
  less = let a = first.less in let b = second.less in omega arith;
  heap = let a = first.heap in let b = second.heap in omega arith;
}

-- ---- steps

-- no step was left
pub no-step-finds : (programs : List ToldProgram) (action : Action Value) (old new : MachineState)
    (taken : Bool) → Steps old taken new → taken ≡ false
    → Finds programs (step action) old new (found_of.Stopped Budget)
no-step-finds programs action old new taken steps none next =
    let stepped = subst (λ (b : Bool). Steps old b new) none steps in stepped programs action next

step-finds : (programs : List ToldProgram) (action : Action Value) (old mid new : MachineState)
    (taken : Bool) (found : Found) → Steps old taken mid → taken ≡ true
    → Finds programs action mid new found → Finds programs (step action) old new found
step-finds programs action old mid new taken found steps some finds next =
    let stepped = subst (λ (b : Bool). Steps old b mid) some steps in
    stepped programs action next ∙ finds next

-- a target that is a name, with its step
pub no-place-finds : (programs : List ToldProgram) (target : Target)
    (more : Place → Action Value) (old new : MachineState) (taken : Bool) → Steps old taken new
    → taken ≡ false
    → Finds programs (behind (entered_place (enters programs) target) more) old new
    (found_of.Stopped Budget)
no-place-finds programs target more old new taken steps none =
    no-step-finds programs (behind (place_row (enters programs) target) more) old new taken steps
    none

pub place-finds : (programs : List ToldProgram) (target : Code) (name : List ℕ)
    (more : Place → Action Value) (old mid new : MachineState) (taken : Bool) (found : Found)
    → Steps old taken mid → taken ≡ true → expression_at programs target ≡ Name name
    → Finds programs (more (NamePlace name)) mid new found
    → Finds programs (behind (entered_place (enters programs)
    (target_of (expression_at programs target))) more) old new found
place-finds programs target name more old mid new taken found steps some is finds =
    let stepped : Finds programs (behind (entered_place (enters programs) (NameTarget name)) more)
    old new found =
    step-finds programs (more (NamePlace name)) old mid new taken found steps some finds in
    subst (λ (e : Expression). Finds programs
    (behind (entered_place (enters programs) (target_of e)) more) old new found) (sym is) stepped

-- ---- one behind the other

-- what is charged
pub carried-finds : {A : Type 0} (programs : List ToldProgram) (first : Action A)
    (more : A → Action Value) (old mid new : MachineState) (carried : Option A) (x : A)
    (found : Found) → CarriesOn first old carried mid → carried ≡ Some x
    → Finds programs (more x) mid new found → Finds programs (behind first more) old new found
carried-finds {A} programs first more old mid new carried x found carries some on next =
    let given : CarriesOn first old (Some x) mid =
    subst (λ (o : Option A). CarriesOn first old o mid) some carries in
    given programs (λ y after. more y after next) ∙ on next

pub uncarried-finds : {A : Type 0} (programs : List ToldProgram) (first : Action A)
    (more : A → Action Value) (old new : MachineState) (carried : Option A)
    → CarriesOn first old carried new → carried ≡ None
    → Finds programs (behind first more) old new (found_of.Stopped Budget)
uncarried-finds {A} programs first more old new carried carries none next =
    let stops : CarriesOn first old None new =
    subst (λ (o : Option A). CarriesOn first old o new) none carries in
    stops programs (λ y after. more y after next)

pub carried-value : (programs : List ToldProgram) (action : Action Value) (old new : MachineState)
    (carried : Option Value) (value : Value) → CarriesOn action old carried new
    → carried ≡ Some value → Finds programs action old new (found_of.Value value)
carried-value programs action old new carried value carries some next =
    let given : CarriesOn action old (Some value) new =
    subst (λ (o : Option Value). CarriesOn action old o new) some carries in
    given programs next

pub uncarried-value : (programs : List ToldProgram) (action : Action Value)
    (old new : MachineState) (carried : Option Value) → CarriesOn action old carried new
    → carried ≡ None → Finds programs action old new (found_of.Stopped Budget)
uncarried-value programs action old new carried carries none next =
    let stops : CarriesOn action old None new =
    subst (λ (o : Option Value). CarriesOn action old o new) none carries in
    stops programs next

-- names
pub name-finds : (programs : List ToldProgram) (name : List ℕ) (more : Value → Action Value)
    (old new : MachineState) (held : Option Value) (value : Value) (found : Found)
    → held ≡ named (world_of programs old) name → held ≡ Some value
    → Finds programs (more value) old new found
    → Finds programs (behind (read_name name) more) old new found
name-finds programs name more old new held value found is some on next =
    ap (λ (o : Option Value). option_map_or (λ value. more value (world_of programs old) next) o
    (Over (Stopped Unresolved) (world_of programs old))) (sym is ∙ some)
    ∙ on next

pub no-name-finds : (programs : List ToldProgram) (name : List ℕ) (more : Value → Action Value)
    (old : MachineState) (held : Option Value)
    → held ≡ named (world_of programs old) name → held ≡ None
    → Finds programs (behind (read_name name) more) old old (found_of.Stopped Unresolved)
no-name-finds programs name more old held is none next =
    ap (λ (o : Option Value). option_map_or (λ value. more value (world_of programs old) next) o
    (Over (Stopped Unresolved) (world_of programs old))) (sym is ∙ none)

pub write-finds : (programs : List ToldProgram) (name : List ℕ) (value : Value)
    (old new : MachineState)
    → world_of programs new ≡ with_name name value (world_of programs old)
    → Finds programs (write_name name value) old new (found_of.Value value)
write-finds programs name value old new is next = ap (next value) (sym is)

-- one more or one less is written, and the number behind or before that is given
pub stepped-finds : (programs : List ToldProgram) (name : List ℕ) (in_front down : Bool)
    (number after kept : Num) (old new : MachineState) → after ≡ stepped down number
    → kept ≡ (if in_front then after else number)
    → world_of programs new ≡ with_name name (Number after) (world_of programs old)
    → Finds programs (and_then (write_name name (Number (stepped down number)))
    (gives (Number (if in_front then stepped down number else number)))) old new
    (found_of.Value (Number kept))
stepped-finds programs name in_front down number after kept old new is_after is_kept is_written =
    let written : Finds programs (and_then (write_name name (Number after))
    (gives (Number kept))) old new (found_of.Value (Number kept)) =
    λ next. ap (next (Number kept)) (sym is_written) in
    let both : (a : Num) → after ≡ a
    → Finds programs (and_then (write_name name (Number a))
    (gives (Number (if in_front then a else number)))) old new (found_of.Value (Number kept)) =
    λ a is. subst (λ (a : Num). Finds programs (and_then (write_name name (Number a))
    (gives (Number (if in_front then a else number)))) old new (found_of.Value (Number kept)))
    is
    (subst (λ (n : Num). Finds programs (and_then (write_name name (Number after))
    (gives (Number n))) old new (found_of.Value (Number kept))) is_kept written) in
    both (stepped down number) is_after

-- ---- whole numbers, which are read where they are held

-- what is held at the place of a local is its value
pub held-slot : (programs : List ToldProgram) (m : MachineState) (name : List ℕ) (place : ℕ)
    (held : Option (Bor Value))
    → position (is_same name) (names_in programs (function_of m.frames)) ≡ Some place
    → option_copied held ≡ value_at m.frames place
    → IfSome held (λ value. named (world_of programs m) name ≡ Some value.now)
held-slot programs m name place None at is = tt
held-slot programs m name place (Some value) at is =
    ap (λ (o : Option Value). first_of o
    (first_of (global (world_of programs m) name) (value_named name)))
    (sym (is ∙ local_at name programs m.frames place at))

-- and that of a global where there is no local of the name
pub held-global : (programs : List ToldProgram) (m : MachineState) (name : List ℕ)
    (held : Option (Bor Value))
    → position (is_same name) (names_in programs (function_of m.frames)) ≡ None
    → option_copied held ≡ lookup (is_same name) m.globals
    → IfSome held (λ value. named (world_of programs m) name ≡ Some value.now)
held-global programs m name None none is = tt
held-global programs m name (Some value) none is =
    ap (λ (o : Option Value). first_of o
    (first_of (global (world_of programs m) name) (value_named name)))
    (no_local name programs m.frames none)
    ∙ ap (λ (o : Option Value). first_of o (value_named name)) (sym is)

-- an expression gives this whole number behind its step, however many steps are left
abbrev pub GivesWhole : List ToldProgram → MachineState → Code → ℤ → Type 0
GivesWhole programs m code number =
    (left : ℕ) (next : Next Value)
    → evaluates programs code (record (world_of programs m) { left = left }) next
    ≡ step (gives (Number (Whole number))) (record (world_of programs m) { left = left }) next

-- a step is taken where one is left
one-taken : {A : Type 0} (more : Action A) (w : World) (next : Next A) → 1 ≤ w.left
    → step more w next ≡ more (record w { left = w.left - 1 }) next
one-taken {A} more w next some =
    ap (λ (b : Bool). if b then more (record w { left = w.left - 1 }) next
    else Over (Stopped Budget) w) (le-leb 1 w.left some)

-- and nothing where nothing is charged
none-taken : {A : Type 0} (more : Action A) (w : World) (next : Next A) (charge : ℕ)
    → charge ≡ 0 → takes charge more w next ≡ more w next
none-taken {A} more w next charge free =
    ap (λ (n : ℕ). takes n more w next) free
    ∙ ap (λ (b : Bool). if b then more (record w { left = w.left - 0 }) next
    else Over (Stopped Budget) w) (le-leb 0 w.left (omega arith))
    ∙ ap (λ (n : ℕ). more (record w { left = n }) next) (omega arith)

-- what an operator gives of whole numbers that are charged nothing
wholes-operate : (operator : Operator) (first second : ℤ) (value : Value)
    → ((heap : List ObjectState)
    → operated heap operator (Number (Whole first)) (Number (Whole second)) ≡ value)
    → ((heap : List ObjectState)
    → operation_charge heap operator (Number (Whole first)) (Number (Whole second)) ≡ 0)
    → (w : World) (next : Next Value)
    → operates operator (Number (Whole first)) (Number (Whole second)) w next ≡ next value w
unfolding operates
wholes-operate operator first second value is free w next =
    none-taken
    (λ w next. next (operated w.heap operator (Number (Whole first)) (Number (Whole second))) w)
    w next (operation_charge w.heap operator (Number (Whole first)) (Number (Whole second)))
    (free w.heap)
    ∙ ap (λ (value : Value). next value w) (is w.heap)

pub wholes-find : (programs : List ToldProgram) (m : MachineState) (operator : Operator)
    (left right : Code) (first second : ℤ) (value : Value) (after : ℕ) (taken : Bool)
    → GivesWhole programs m left first → GivesWhole programs m right second
    → Charges 2 (record { left = m.left }) taken (record { left = after }) → taken ≡ true
    → ((heap : List ObjectState)
    → operated heap operator (Number (Whole first)) (Number (Whole second)) ≡ value)
    → ((heap : List ObjectState)
    → operation_charge heap operator (Number (Whole first)) (Number (Whole second)) ≡ 0)
    → Finds programs (behind (evaluates programs left)
    (λ value. behind (evaluates programs right) (operates operator value))) m
    (record m { left = after }) (found_of.Value value)
wholes-find programs m operator left right first second value after taken whole other charges was_taken is free next =
    by (nat_le 2 m.left) refl charges.answer charges.left
  where
    with : ℕ → World
    with left = record (world_of programs m) { left = left }

    last : Next Value
    last value w = operates operator (Number (Whole first)) value w next

    second_of : Next Value
    second_of value w = behind (evaluates programs right) (operates operator value) w next

    by : (enough : Bool) → nat_le 2 m.left ≡ enough → taken ≡ enough
        → after ≡ (if enough then m.left - 2 else m.left)
        → evaluates programs left (with m.left) second_of ≡ next value (with after)
    by true some e is_after =
        let two = leb-true 2 m.left some in
        whole m.left second_of
        ∙ one-taken (gives (Number (Whole first))) (with m.left) second_of (omega arith)
        ∙ other (m.left - 1) last
        ∙ one-taken (gives (Number (Whole second))) (with (m.left - 1)) last (omega arith)
        ∙ wholes-operate operator first second value is free (with (m.left - 1 - 1)) next
        ∙ ap (λ (n : ℕ). next value (with n)) (omega arith)
    by false some e is_after = absurd (cc)

-- `++` and `--` of a name that is a whole number
pub whole-steps : (programs : List ToldProgram) (name : List ℕ) (in_front down : Bool)
    (number : ℤ) (old new : MachineState) (found : Found)
    → named (world_of programs old) name ≡ Some (Number (Whole number))
    → Finds programs (and_then (write_name name (Number (stepped down (Whole number))))
    (gives (Number (if in_front then stepped down (Whole number) else Whole number)))) old new found
    → Finds programs (step_row in_front down (NamePlace name)) old new found
whole-steps programs name in_front down number old new found held finds next =
    name-finds programs name (steps_from in_front down (NamePlace name)) old new
    (named (world_of programs old) name) (Number (Whole number)) found refl held
    (λ next. none-taken (λ w go. go (Whole number) w) (world_of programs old)
    (λ number after. and_then (write_name name (Number (stepped down number)))
    (gives (Number (if in_front then stepped down number else number))) after next)
    0 refl
    ∙ finds next) next
