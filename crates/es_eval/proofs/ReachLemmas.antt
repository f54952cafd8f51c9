-- What an expression is found to reach from what its parts reach.
use Rattle.std.proofs.Common.{◌≡◌, ◌∙◌, ◌+◌, ◌≤◌, ◌++◌, ◌∷◌, [], ℕ, List, Bool, true, false, ap, sym, refl, subst, arith}
use Rattle.std.specs.Prelude.{Option, Some, None, Result, Ok, Err, IfOk, OnOk, if◌then◌else◌}
use Rattle.std.specs.List.{sum_by}
use Rattle.std.specs.Option.{option_map_or}
use Rattle.std.proofs.Math.Path.{fun_ext}
use Rattle.std.proofs.lemmas.Bool.{false≢true}
use Rattle.std.proofs.lemmas.List.{append-nil}
use Rattle.std.proofs.lemmas.List.Elements.{All-cons, All-head, All-nil}
use Rattle.es_reader.specs.Programs.{ToldProgram}
use Rattle.es_values.specs.declared.values.Value.{Value}
use Rattle.es_values.specs.declared.values.HostRef.{HostRef}
use Rattle.es_values.specs.declared.values.Value.TheVariants.{Host}
use Rattle.es_values.specs.Heaps.{IsLive}
use Rattle.es_values.specs.Objects.{ObjectState}
use Rattle.es_values.specs.Values.{truth_of}
use Rattle.es_shapes.specs.declared.codes.Code.{Code}
use Rattle.es_shapes.specs.declared.operators.Operator.{Operator}
use Rattle.es_shapes.specs.declared.operators.Sign.{Sign}
use Rattle.es_shapes.specs.declared.shapes.Shape.{Shape}
use Rattle.es_shapes.specs.declared.shapes.Shape.TheVariants as shape
use Rattle.es_shapes.specs.Sources.{target_of}
use Rattle.es_shapes.specs.Codes.{declared_by}
use Rattle.es_shapes.specs.Syntax.{Expression, Function as Declared, Target}
use Rattle.es_shapes.specs.Syntax.Expression.{Name}
use Rattle.es_shapes.specs.Syntax.Target.{NameTarget}
use Rattle.es_shapes.specs.devices.Parts.{expression_at}
use Rattle.es_eval.specs.declared.held.Held.{Held}
use Rattle.es_eval.specs.declared.held.Reached.{Reached}
use Rattle.es_eval.specs.declared.held.Reached.TheVariants as reached_of
use Rattle.es_eval.specs.declared.outcomes.Outcome.TheVariants.{Stopped}
use Rattle.es_eval.specs.declared.outcomes.StopCause.{StopCause}
use Rattle.es_eval.specs.declared.outcomes.StopCause.TheVariants.{Budget, Unresolved}
use Rattle.es_eval.specs.declared.found.Found.{Found}
use Rattle.es_eval.specs.declared.found.Found.TheVariants as found_of
use Rattle.es_eval.specs.declared.works.Given.{Given}
use Rattle.es_eval.specs.declared.works.Given.TheVariants as given
use Rattle.es_eval.specs.declared.works.Now.{Now}
use Rattle.es_eval.specs.declared.works.Now.TheVariants as now
use Rattle.es_eval.specs.Members.{Place, named, read_name, write_to_host}
use Rattle.es_eval.specs.Members.Place.{NamePlace}
use Rattle.es_eval.specs.Rows.{entered_place, expression_row, place_row}
use Rattle.es_eval.specs.Unbounded.{called, entered, valued}
use Rattle.es_eval.specs.declared.works.OperandWork.TheVariants as operand
use Rattle.es_eval.specs.declared.works.TargetWork.TheVariants as target_of
use Rattle.es_eval.specs.declared.works.Work.{Work}
use Rattle.es_eval.specs.declared.works.CallWork.TheVariants as call_of
use Rattle.es_eval.specs.declared.works.Work.TheVariants as work
use Rattle.es_eval.specs.Actions.{Action, Next, behind, charged, gives, step}
use Rattle.es_eval.specs.Worlds.{Run, World}
use Rattle.es_eval.specs.Worlds.Run.{Over}
use Rattle.es_eval.specs.devices.Held.{Becomes, HoldsBranch, IsClear, Reaches, ReachesBehind, is_direct, reached_of_found}
use Rattle.es_eval.specs.devices.Machines.{AreLive, CarriesOn, IsWorkLive, MachineState, Stays, burden, turns_of, weight_of_next, world_of}
use Rattle.es_eval.specs.devices.Finding.{Finds, is_single, values_of_found}
use Rattle.es_eval.specs.devices.Works.{as_value, does, enters, evaluates}
use Rattle.es_eval.proofs.ArmLemmas.{Charges, Steps}
use Rattle.es_eval.proofs.HeldLemmas.{becomes_behind, held_more}
use Rattle.es_eval.proofs.MachineLemmas.{live-stays, work-stays}

-- what a value is handed to
abbrev with : (Value → Action Value) → Given → World → Next Given → Run
with more (given.Value v) w next = as_value (more v) w next
with more other w next = next other w

-- how many items may follow an item is little
pub few_turns : (item : Work) → turns_of item ≤ 8
few_turns (work.Target (target_of.IndexKey base purpose)) = omega arith
few_turns (work.Target (target_of.MemberBase name purpose)) = omega arith
few_turns (work.Target (target_of.StepRead in_front down place)) = omega arith
few_turns (work.Target (target_of.IndexBase key purpose)) = omega arith
few_turns (work.Target (target_of.Write place)) = omega arith
few_turns (work.Target (target_of.UpdateRead operator place right)) = omega arith
few_turns (work.Target (target_of.UpdateRight operator place before)) = omega arith
few_turns (work.Target (target_of.Visited visit)) = omega arith
few_turns (work.Operand item) = omega arith
few_turns (work.Member item) = omega arith
few_turns (work.Call (call_of.IndexBase key call)) = omega arith
few_turns (work.Call (call_of.IndexKey base call)) = omega arith
few_turns (work.Call (call_of.MemberBase name call)) = omega arith
few_turns (work.Call (call_of.Callee call)) = omega arith
few_turns (work.Call (call_of.Constructor call)) = omega arith
few_turns (work.Call (call_of.Argument opened)) = omega arith
few_turns (work.Call (call_of.Constructed new)) = omega arith
few_turns (work.Statement item) = omega arith

-- ---- behind a part

-- its value is there
pub part_value : (programs : List ToldProgram) (first : Action Value) (more : Value → Action Value)
    (old mid new : MachineState) (part : Reached) (held after : Held) (value : Value)
    (reached : Reached)
    → Reaches programs first old mid part held → part ≡ reached_of.Value value
    → ReachesBehind programs (more value) mid new reached after
    → ReachesBehind programs (behind first more) old new reached after
part_value programs first more old mid new part held after value reached reaches is onward =
    let there : Reaches programs first old mid (reached_of.Value value) held =
    subst (λ (r : Reached). Reaches programs first old mid r held) is reaches in
    record {
      becomes = record {
        run = λ next. there.becomes.run (λ handed w. with more handed w next) ∙ onward.becomes.run next;
        rest = λ told. onward.becomes.rest told ∙ there.becomes.rest told;
        heap = let a = there.becomes.heap in let b = onward.becomes.heap in omega arith;
        live = onward.becomes.live;
        kept = onward.becomes.kept;
      };
      clear = onward.clear;
      less = let a = there.less in let b = onward.less in omega arith;
    }

-- the script is stopped there
pub part_stopped : (programs : List ToldProgram) (first : Action Value)
    (more : Value → Action Value) (old new : MachineState) (part : Reached) (held : Held)
    (cause : StopCause)
    → Reaches programs first old new part held → part ≡ reached_of.Stopped cause
    → ReachesBehind programs (behind first more) old new (reached_of.Stopped cause) held
part_stopped programs first more old new part held cause reaches is =
    let there : Reaches programs first old new (reached_of.Stopped cause) held =
    subst (λ (r : Reached). Reaches programs first old new r held) is reaches in
    record {
      becomes = record {
        run = λ next. there.becomes.run (λ handed w. with more handed w next);
        rest = there.becomes.rest;
        heap = there.becomes.heap;
        live = there.becomes.live;
        kept = there.becomes.kept;
      };
      clear = tt;
      less = let a = there.less in omega arith;
    }

-- an item waits for it
pub part_waits : (programs : List ToldProgram) (first : Action Value) (more : Value → Action Value)
    (old new : MachineState) (part : Reached) (held after : Held) (item : Work)
    (reached : Reached)
    → Reaches programs first old new part held → part ≡ reached_of.Waits
    → reached ≡ reached_of.Waits → after.next ≡ held.next
    → after.items.items ≡ held.items.items ++ item ∷ []
    → IsWorkLive old.heap item
    → ((value : Value) → does programs item (given.Value value) ≡ as_value (more value))
    → ReachesBehind programs (behind first more) old new reached after
part_waits programs first more old new part held after item reached reaches is waits next items live does_more =
    let there : Reaches programs first old new reached_of.Waits held =
    subst (λ (r : Reached). Reaches programs first old new r held) is reaches in
    let weighs = held_more held after item next items in
    let few = few_turns item in
    rw waits record {
      becomes = becomes_behind programs (as_value first) (as_value (behind first more)) old new
          held after item there.becomes
          (work-stays old.heap new.heap item there.becomes.heap live) next items
          (λ w k. ap (first w) (fun_ext (λ value. fun_ext (λ now.
          sym (ap (λ (action : Action Given). action now k) (does_more value))))));
      clear = tt;
      less = let a = there.less in omega arith;
    }

-- what is given in its place
pub part_given : (programs : List ToldProgram) (first : Action Value) (more : Value → Action Value)
    (old new : MachineState) (part : Reached) (held : Held) (value given_value : Value)
    → Reaches programs first old new part held → part ≡ reached_of.Value value
    → more value ≡ gives given_value → IsLive new.heap given_value
    → ReachesBehind programs (behind first more) old new (reached_of.Value given_value) held
part_given programs first more old new part held value given_value reaches is same live =
    part_value programs first more old new new part held held value (reached_of.Value given_value)
    reaches is record {
      becomes = record {
        run = λ next. ap (λ (action : Action Value). as_value action (world_of programs new) next) same;
        rest = λ told. refl;
        heap = omega arith;
        live = All-cons (IsLive new.heap) given_value [] live (All-nil (IsLive new.heap));
        kept = All-nil (IsWorkLive new.heap);
      };
      clear = (subst (λ (r : Reached). Reaches programs first old new r held) is reaches).clear;
      less = omega arith;
    }

-- ---- without parts

-- what is found at once
pub found_reached : (programs : List ToldProgram) (action : Action Value) (old new : MachineState)
    (found : Found) (reached : Reached) (held : Held)
    → Finds programs action old new found → AreLive new.heap (values_of_found found)
    → Stays old new → IsClear held → reached ≡ reached_of_found found
    → ReachesBehind programs action old new reached held
found_reached programs action old new (found_of.Value value) reached held finds live stays clear is = rw is record {
  becomes = record {
    run = λ next. finds (λ v w. next (given.Value v) w);
    rest = stays.rest;
    heap = stays.heap;
    live = live;
    kept = All-nil (IsWorkLive new.heap);
  };
  clear = clear;
  less = let a = stays.less in omega arith;
}
found_reached programs action old new (found_of.Stopped cause) reached held finds live stays clear is = rw is record {
  becomes = record {
    run = λ next. finds (λ v w. next (given.Value v) w);
    rest = stays.rest;
    heap = stays.heap;
    live = All-nil (IsLive new.heap);
    kept = All-nil (IsWorkLive new.heap);
  };
  clear = tt;
  less = let a = stays.less in omega arith;
}

-- the last part
pub part_last : (programs : List ToldProgram) (action : Action Value) (old new : MachineState)
    (reached : Reached) (held : Held) → Reaches programs action old new reached held
    → ReachesBehind programs action old new reached held
part_last programs action old new reached held reaches = record {
  becomes = reaches.becomes;
  clear = reaches.clear;
  less = let a = reaches.less in omega arith;
}

-- ---- behind what is charged

-- the stop for want of steps
pub stays_stopped : (programs : List ToldProgram) (action : Action Value) (old new : MachineState)
    (cause : StopCause) (held : Held) → Stays old new
    → ((next : Next Given) → as_value action (world_of programs old) next
    ≡ Over (Stopped cause) (world_of programs new))
    → ReachesBehind programs action old new (reached_of.Stopped cause) held
stays_stopped programs action old new cause held stays run = record {
  becomes = record {
    run = run;
    rest = stays.rest;
    heap = stays.heap;
    live = All-nil (IsLive new.heap);
    kept = All-nil (IsWorkLive new.heap);
  };
  clear = tt;
  less = let a = stays.less in omega arith;
}

-- what comes behind, in a later machine
pub stays_on : (programs : List ToldProgram) (first action : Action Value)
    (old mid new : MachineState) (reached : Reached) (held : Held) → Stays old mid
    → ((next : Next Given) → as_value action (world_of programs old) next
    ≡ as_value first (world_of programs mid) next)
    → ReachesBehind programs first mid new reached held
    → ReachesBehind programs action old new reached held
stays_on programs first action old mid new reached held stays run onward = record {
  becomes = record {
    run = λ next. run next ∙ onward.becomes.run next;
    rest = λ told. onward.becomes.rest told ∙ stays.rest told;
    heap = let a = stays.heap in let b = onward.becomes.heap in omega arith;
    live = onward.becomes.live;
    kept = onward.becomes.kept;
  };
  clear = onward.clear;
  less = let a = stays.less in let b = onward.less in omega arith;
}

pub charged_stopped : {A : Type 0} (programs : List ToldProgram) (first : Action A)
    (more : A → Action Value) (old new : MachineState) (carried : Option A) (held : Held)
    → CarriesOn first old carried new → carried ≡ None → Stays old new
    → ReachesBehind programs (behind first more) old new (reached_of.Stopped Budget) held
charged_stopped {A} programs first more old new carried held carries none stays =
    let stops : CarriesOn first old None new =
    subst (λ (o : Option A). CarriesOn first old o new) none carries in
    stays_stopped programs (behind first more) old new Budget held stays
    (λ next. stops programs (λ x after. more x after (λ v w. next (given.Value v) w)))

pub charged_on : {A : Type 0} (programs : List ToldProgram) (first : Action A)
    (more : A → Action Value) (old mid new : MachineState) (carried : Option A) (x : A)
    (reached : Reached) (held : Held)
    → CarriesOn first old carried mid → carried ≡ Some x → Stays old mid
    → ReachesBehind programs (more x) mid new reached held
    → ReachesBehind programs (behind first more) old new reached held
charged_on {A} programs first more old mid new carried x reached held carries some stays onward =
    let on : CarriesOn first old (Some x) mid =
    subst (λ (o : Option A). CarriesOn first old o mid) some carries in
    stays_on programs (more x) (behind first more) old mid new reached held stays
    (λ next. on programs (λ y after. more y after (λ v w. next (given.Value v) w))) onward

-- ---- steps

pub no_step : (programs : List ToldProgram) (action : Action Value) (old new : MachineState)
    (taken : Bool) (held : Held) → Steps old taken new → taken ≡ false → Stays old new
    → ReachesBehind programs (step action) old new (reached_of.Stopped Budget) held
no_step programs action old new taken held steps none stays =
    let stopped = subst (λ (b : Bool). Steps old b new) none steps in
    stays_stopped programs (step action) old new Budget held stays
    (λ next. stopped programs action (λ v w. next (given.Value v) w))

pub step_on : (programs : List ToldProgram) (action : Action Value) (old mid new : MachineState)
    (taken : Bool) (reached : Reached) (held : Held) → Steps old taken mid → taken ≡ true
    → Stays old mid → ReachesBehind programs action mid new reached held
    → ReachesBehind programs (step action) old new reached held
step_on programs action old mid new taken reached held steps some stays onward =
    let stepped = subst (λ (b : Bool). Steps old b mid) some steps in
    stays_on programs action (step action) old mid new reached held stays
    (λ next. stepped programs action (λ v w. next (given.Value v) w)) onward

-- ---- what is carried out

pub carried_stopped : (programs : List ToldProgram) (action : Action Value)
    (old new : MachineState) (carried : Option Value) (held : Held)
    → CarriesOn action old carried new → carried ≡ None → Stays old new
    → ReachesBehind programs action old new (reached_of.Stopped Budget) held
carried_stopped programs action old new carried held carries none stays =
    let stops : CarriesOn action old None new =
    subst (λ (o : Option Value). CarriesOn action old o new) none carries in
    stays_stopped programs action old new Budget held stays
    (λ next. stops programs (λ v w. next (given.Value v) w))

pub carried_value : (programs : List ToldProgram) (action : Action Value)
    (old new : MachineState) (carried : Option Value) (value : Value) (held : Held)
    → CarriesOn action old carried new → carried ≡ Some value → Stays old new
    → IsLive old.heap value → IsClear held
    → ReachesBehind programs action old new (reached_of.Value value) held
carried_value programs action old new carried value held carries some stays live clear =
    let gives_it : CarriesOn action old (Some value) new =
    subst (λ (o : Option Value). CarriesOn action old o new) some carries in
    record {
      becomes = record {
        run = λ next. gives_it programs (λ v w. next (given.Value v) w);
        rest = stays.rest;
        heap = stays.heap;
        live = All-cons (IsLive new.heap) value []
            (live-stays old.heap new.heap value stays.heap live) (All-nil (IsLive new.heap));
        kept = All-nil (IsWorkLive new.heap);
      };
      clear = clear;
      less = let a = stays.less in omega arith;
    }

-- an item is kept, where there is memory for it
pub kept_waits : {E : Type 0} (programs : List ToldProgram) (first : Action Value) (more : Value → Action Value)
    (old new : MachineState) (part : Reached) (held after : Held) (item : Work)
    (result : Result Reached E)
    → Reaches programs first old new part held → part ≡ reached_of.Waits
    → IfOk result (λ reached. reached ≡ reached_of.Waits) → after.next ≡ held.next
    → OnOk result (after.items.items ≡ held.items.items ++ item ∷ [])
    → IsWorkLive old.heap item
    → ((value : Value) → does programs item (given.Value value) ≡ as_value (more value))
    → IfOk result (λ reached. ReachesBehind programs (behind first more) old new reached after)
kept_waits {E} programs first more old new part held after item (Ok reached) reaches is waits next items live does_more =
    part_waits programs first more old new part held after item reached reaches is waits next items
    live does_more
kept_waits {E} programs first more old new part held after item (Err error) reaches is waits next items live does_more = tt

-- nothing waits where a value is there
pub cleared : (programs : List ToldProgram) (first : Action Value) (old new : MachineState)
    (part : Reached) (held : Held) (value : Value) → Reaches programs first old new part held
    → part ≡ reached_of.Value value → IsClear held
cleared programs first old new part held value reaches is =
    (subst (λ (r : Reached). Reaches programs first old new r held) is reaches).clear

-- ---- what the host is asked for, behind a charge

pub paid_stopped : (programs : List ToldProgram) (action : Action Value) (old new : MachineState)
    (charge : List ObjectState → ℕ) (taken : Bool) (held : Held) → Charges charge old taken new
    → taken ≡ false → Stays old new
    → ReachesBehind programs (charged charge action) old new (reached_of.Stopped Budget) held
paid_stopped programs action old new charge taken held charges none stays =
    let stopped = subst (λ (b : Bool). Charges charge old b new) none charges in
    stays_stopped programs (charged charge action) old new Budget held stays
    (λ next. stopped programs action (λ v w. next (given.Value v) w))

-- a write
pub paid_write : (programs : List ToldProgram) (old new : MachineState)
    (charge : List ObjectState → ℕ) (taken : Bool) (held : Held) (reference : HostRef)
    (key : List ℕ) (written : Value) → Charges charge old taken new → taken ≡ true
    → Stays old new → IsLive old.heap written → held.items.items ≡ []
    → held.next ≡ now.Writes reference key written
    → ReachesBehind programs (charged charge (write_to_host (Host reference) key written)) old new
    reached_of.Waits held
paid_write programs old new charge taken held reference key written charges some stays live clear is =
    let paid = subst (λ (b : Bool). Charges charge old b new) some charges in
    let action : Action Value = charged charge (write_to_host (Host reference) key written) in
    let writes : Becomes programs (as_value action) old new (now.Writes reference key written) [] = record {
      run = λ next. paid programs (write_to_host (Host reference) key written)
          (λ v w. next (given.Value v) w);
      rest = stays.rest;
      heap = stays.heap;
      live = All-cons (IsLive new.heap) written []
          (live-stays old.heap new.heap written stays.heap live) (All-nil (IsLive new.heap));
      kept = All-nil (IsWorkLive new.heap);
    } in
    let turns = ap (sum_by turns_of) clear in
    let weighs = ap weight_of_next is in
    record {
      becomes = subst (λ (items : List Work). Becomes programs (as_value action) old new held.next items)
          (sym clear) (subst (λ (next : Now). Becomes programs (as_value action) old new next [])
          (sym is) writes);
      clear = tt;
      less = let a = stays.less in omega arith;
    }

-- ---- branches

-- what a test chooses
abbrev pub chosen : List ToldProgram → Option Code → Option Code → Value → Action Value
chosen programs first second value =
    option_map_or (evaluates programs) (if truth_of value then first else second) (gives value)

pub branch_value : (programs : List ToldProgram) (test : Action Value) (first second : Option Code)
    (old mid new : MachineState) (part : Reached) (held after : Held) (value : Value)
    (taken : Option Code) (code : Code) (reached : Reached)
    → Reaches programs test old mid part held → part ≡ reached_of.Value value
    → taken ≡ (if truth_of value then first else second) → taken ≡ Some code
    → Reaches programs (evaluates programs code) mid new reached after
    → ReachesBehind programs (behind test (chosen programs first second)) old new reached after
branch_value programs test first second old mid new part held after value taken code reached reaches is chose some onward =
    part_value programs test (chosen programs first second) old mid new part held after value reached
    reaches is
    (subst (λ (o : Option Code). ReachesBehind programs
    (option_map_or (evaluates programs) o (gives value)) mid new reached after)
    (sym some ∙ chose)
    (part_last programs (evaluates programs code) mid new reached after onward))

pub branch_own : (programs : List ToldProgram) (test : Action Value) (first second : Option Code)
    (old new : MachineState) (part : Reached) (held : Held) (value : Value) (taken : Option Code)
    → Reaches programs test old new part held → part ≡ reached_of.Value value
    → taken ≡ (if truth_of value then first else second) → taken ≡ None
    → ReachesBehind programs (behind test (chosen programs first second)) old new
    (reached_of.Value value) held
branch_own programs test first second old new part held value taken reaches is chose none =
    let there : Reaches programs test old new (reached_of.Value value) held =
    subst (λ (r : Reached). Reaches programs test old new r held) is reaches in
    part_given programs test (chosen programs first second) old new part held value value reaches is
    (ap (λ (o : Option Code). option_map_or (evaluates programs) o (gives value)) (sym chose ∙ none))
    (All-head (IsLive new.heap) value [] there.becomes.live)

branch_rows : (programs : List ToldProgram) (b : Bool) (right : Code) (value : Value)
    → (if b then evaluates programs right else gives value)
    ≡ option_map_or (evaluates programs) (if b then Some right else None) (gives value)
branch_rows programs true right value = refl
branch_rows programs false right value = refl

other_rows : (programs : List ToldProgram) (b : Bool) (right : Code) (value : Value)
    → (if b then gives value else evaluates programs right)
    ≡ option_map_or (evaluates programs) (if b then None else Some right) (gives value)
other_rows programs true right value = refl
other_rows programs false right value = refl

both_rows : (programs : List ToldProgram) (b : Bool) (first second : Code) (value : Value)
    → (if b then evaluates programs first else evaluates programs second)
    ≡ option_map_or (evaluates programs) (if b then Some first else Some second) (gives value)
both_rows programs true first second value = refl
both_rows programs false first second value = refl

no_rows : (programs : List ToldProgram) (b : Bool) (value : Value)
    → gives value ≡ option_map_or (evaluates programs) (if b then None else None) (gives value)
no_rows programs true value = refl
no_rows programs false value = refl

-- what waits for the test
pub branch_kept : (programs : List ToldProgram) (test : Action Value) (first second : Option Code)
    (old new : MachineState) (part : Reached) (held after : Held) (reached : Reached)
    → Reaches programs test old new part held → part ≡ reached_of.Waits
    → HoldsBranch first second reached held after
    → ReachesBehind programs (behind test (chosen programs first second)) old new reached after
branch_kept programs test (Some first) (Some second) old new part held after reached reaches is holds =
    part_waits programs test (chosen programs (Some first) (Some second)) old new part held after
    (work.Operand (operand.Choice first second)) reached reaches is holds.waits holds.next holds.items
    (All-nil (IsLive old.heap)) (λ value. ap as_value (both_rows programs (truth_of value) first second value))
branch_kept programs test (Some right) None old new part held after reached reaches is holds =
    part_waits programs test (chosen programs (Some right) None) old new part held after
    (work.Operand (operand.And right)) reached reaches is holds.waits holds.next holds.items
    (All-nil (IsLive old.heap)) (λ value. ap as_value (branch_rows programs (truth_of value) right value))
branch_kept programs test None (Some right) old new part held after reached reaches is holds =
    part_waits programs test (chosen programs None (Some right)) old new part held after
    (work.Operand (operand.Or right)) reached reaches is holds.waits holds.next holds.items
    (All-nil (IsLive old.heap)) (λ value. ap as_value (other_rows programs (truth_of value) right value))
branch_kept programs test None None old new part held after reached reaches is holds =
    let there : Reaches programs test old new reached_of.Waits held =
    subst (λ (r : Reached). Reaches programs test old new r held) is reaches in
    let items : after.items.items ≡ held.items.items = holds.items ∙ append-nil held.items.items in
    let turns = ap (sum_by turns_of) items in
    let weighs = ap weight_of_next holds.next in
    rw holds.waits record {
      becomes = subst (λ (items : List Work). Becomes programs
          (as_value (behind test (chosen programs None None))) old new after.next items) (sym items)
          (subst (λ (next : Now). Becomes programs
          (as_value (behind test (chosen programs None None))) old new next held.items.items)
          (sym holds.next) record {
            run = λ next. ap (test (world_of programs old)) (fun_ext (λ value. fun_ext (λ w.
                ap (λ (action : Action Value). as_value action w next)
                (sym (no_rows programs (truth_of value) value)))))
                ∙ there.becomes.run next;
            rest = there.becomes.rest;
            heap = there.becomes.heap;
            live = there.becomes.live;
            kept = there.becomes.kept;
          });
      clear = tt;
      less = let a = there.less in omega arith;
    }

-- ---- shapes

-- what is evaluated at once otherwise has no parts
pub direct_single : (programs : List ToldProgram) (found : Shape)
    → is_direct programs found ≡ true
    → ((base key : Code) → found ≡ shape.Index base key → ⊥)
    → ((base : Code) (name : List ℕ) → found ≡ shape.Member base name → ⊥)
    → ((sign : Sign) (operand : Code) → found ≡ shape.Signed sign operand → ⊥)
    → ((in_front down : Bool) (target : Code) → found ≡ shape.Stepped in_front down target → ⊥)
    → ((operator : Operator) (left right : Code) → found ≡ shape.Binary operator left right → ⊥)
    → ((left right : Code) → found ≡ shape.And left right → ⊥)
    → ((left right : Code) → found ≡ shape.Or left right → ⊥)
    → ((test first second : Code) → found ≡ shape.Choice test first second → ⊥)
    → ((target right : Code) → found ≡ shape.Assign target right → ⊥)
    → ((operator : Operator) (target right : Code) → found ≡ shape.Update operator target right → ⊥)
    → ((callee : Code) → found ≡ shape.Call callee → ⊥)
    → ((callee : Code) → found ≡ shape.New callee → ⊥)
    → is_single found ≡ true
direct_single programs shape.This direct _ _ _ _ _ _ _ _ _ _ _ _ = refl
direct_single programs shape.Null direct _ _ _ _ _ _ _ _ _ _ _ _ = refl
direct_single programs (shape.Truth truth) direct _ _ _ _ _ _ _ _ _ _ _ _ = refl
direct_single programs (shape.Number number) direct _ _ _ _ _ _ _ _ _ _ _ _ = refl
direct_single programs (shape.Text text) direct _ _ _ _ _ _ _ _ _ _ _ _ = refl
direct_single programs (shape.Name name) direct _ _ _ _ _ _ _ _ _ _ _ _ = refl
direct_single programs (shape.Index base key) direct never _ _ _ _ _ _ _ _ _ _ _ = absurd (never base key refl)
direct_single programs (shape.Member base name) direct _ never _ _ _ _ _ _ _ _ _ _ = absurd (never base name refl)
direct_single programs (shape.Signed sign operand) direct _ _ never _ _ _ _ _ _ _ _ _ = absurd (never sign operand refl)
direct_single programs (shape.Stepped in_front down target) direct _ _ _ never _ _ _ _ _ _ _ _ = absurd (never in_front down target refl)
direct_single programs (shape.Binary operator left right) direct _ _ _ _ never _ _ _ _ _ _ _ = absurd (never operator left right refl)
direct_single programs (shape.And left right) direct _ _ _ _ _ never _ _ _ _ _ _ = absurd (never left right refl)
direct_single programs (shape.Or left right) direct _ _ _ _ _ _ never _ _ _ _ _ = absurd (never left right refl)
direct_single programs (shape.Choice test first second) direct _ _ _ _ _ _ _ never _ _ _ _ = absurd (never test first second refl)
direct_single programs (shape.Assign target right) direct _ _ _ _ _ _ _ _ never _ _ _ = absurd (never target right refl)
direct_single programs (shape.Update operator target right) direct _ _ _ _ _ _ _ _ _ never _ _ = absurd (never operator target right refl)
direct_single programs (shape.Call callee) direct _ _ _ _ _ _ _ _ _ _ never _ = absurd (never callee refl)
direct_single programs (shape.New callee) direct _ _ _ _ _ _ _ _ _ _ _ never = absurd (never callee refl)
direct_single programs (shape.Typeof operand) direct _ _ _ _ _ _ _ _ _ _ _ _ = absurd (false≢true direct)
direct_single programs (shape.Void operand) direct _ _ _ _ _ _ _ _ _ _ _ _ = absurd (false≢true direct)
direct_single programs (shape.Delete operand) direct _ _ _ _ _ _ _ _ _ _ _ _ = absurd (false≢true direct)
direct_single programs shape.Comma direct _ _ _ _ _ _ _ _ _ _ _ _ = absurd (false≢true direct)

-- ---- targets

pub no_place : (programs : List ToldProgram) (target : Target) (more : Place → Action Value)
    (old new : MachineState) (taken : Bool) (held : Held) → Steps old taken new → taken ≡ false
    → Stays old new
    → ReachesBehind programs (behind (entered_place (enters programs) target) more) old new
    (reached_of.Stopped Budget) held
no_place programs target more old new taken held steps none stays =
    no_step programs (behind (place_row (enters programs) target) more) old new taken held steps none stays

pub place_on : (programs : List ToldProgram) (target : Target) (more : Place → Action Value)
    (old mid new : MachineState) (taken : Bool) (reached : Reached) (held : Held)
    → Steps old taken mid → taken ≡ true → Stays old mid
    → ReachesBehind programs (behind (place_row (enters programs) target) more) mid new reached held
    → ReachesBehind programs (behind (entered_place (enters programs) target) more) old new reached
    held
place_on programs target more old mid new taken reached held steps some stays onward =
    step_on programs (behind (place_row (enters programs) target) more) old mid new taken reached held
    steps some stays onward

pub named_on : (programs : List ToldProgram) (target : Code) (name : List ℕ)
    (more : Place → Action Value) (old mid new : MachineState) (taken : Bool) (reached : Reached)
    (held : Held) → Steps old taken mid → taken ≡ true → Stays old mid
    → expression_at programs target ≡ Name name
    → ReachesBehind programs (more (NamePlace name)) mid new reached held
    → ReachesBehind programs (behind (entered_place (enters programs)
    (target_of (expression_at programs target))) more) old new reached held
named_on programs target name more old mid new taken reached held steps some stays is onward =
    subst (λ (e : Expression). ReachesBehind programs
    (behind (entered_place (enters programs) (target_of e)) more) old new reached held) (sym is)
    (place_on programs (NameTarget name) more old mid new taken reached held steps some stays onward)

-- a name before and behind what is read of it
pub read_on : (programs : List ToldProgram) (name : List ℕ) (more : Value → Action Value)
    (old new : MachineState) (found : Option Value) (value : Value) (reached : Reached) (held : Held)
    → found ≡ named (world_of programs old) name → found ≡ Some value
    → ReachesBehind programs (more value) old new reached held
    → ReachesBehind programs (behind (read_name name) more) old new reached held
read_on programs name more old new found value reached held is some onward = record {
  becomes = record {
    run = λ next. ap (λ (o : Option Value). option_map_or
        (λ value. as_value (more value) (world_of programs old) next) o
        (Over (Stopped Unresolved) (world_of programs old))) (sym is ∙ some)
        ∙ onward.becomes.run next;
    rest = onward.becomes.rest;
    heap = onward.becomes.heap;
    live = onward.becomes.live;
    kept = onward.becomes.kept;
  };
  clear = onward.clear;
  less = onward.less;
}

pub read_none : (programs : List ToldProgram) (name : List ℕ) (more : Value → Action Value)
    (old : MachineState) (found : Option Value) (held : Held)
    → found ≡ named (world_of programs old) name → found ≡ None
    → ReachesBehind programs (behind (read_name name) more) old old (reached_of.Stopped Unresolved)
    held
read_none programs name more old found held is none = record {
  becomes = record {
    run = λ next. ap (λ (o : Option Value). option_map_or
        (λ value. as_value (more value) (world_of programs old) next) o
        (Over (Stopped Unresolved) (world_of programs old))) (sym is ∙ none);
    rest = λ told. refl;
    heap = omega arith;
    live = All-nil (IsLive old.heap);
    kept = All-nil (IsWorkLive old.heap);
  };
  clear = tt;
  less = omega arith;
}

-- ---- a step that is taken

pub when_true : {A : Type 0} (b : Bool) (first second : A) → b ≡ true
    → first ≡ (if b then first else second)
when_true b first second is = rw is refl

pub when_false : {A : Type 0} (b : Bool) (first second : A) → b ≡ false
    → second ≡ (if b then first else second)
when_false b first second is = rw is refl

-- an expression with its step, which pays for what comes behind it
pub step_evaluates : (programs : List ToldProgram) (code : Code) (e : Expression)
    (old mid new : MachineState) (taken : Bool) (reached : Reached) (held : Held)
    → Steps old taken mid → taken ≡ true → (taken ≡ true → burden mid + 40 ≤ burden old)
    → Stays old mid
    → ((functions : List Declared) (e : Expression) (w : World) (next : Next Value)
    → valued functions e w next
    ≡ expression_row functions (called functions) (entered functions) e w next)
    → expression_at programs code ≡ e
    → ReachesBehind programs (expression_row (declared_by programs) (called (declared_by programs))
    (enters programs) e) mid new reached held
    → Reaches programs (evaluates programs code) old new reached held
step_evaluates programs code e old mid new taken reached held steps some paid stays unfolds is onward =
    let stepped = subst (λ (b : Bool). Steps old b mid) some steps in
    subst (λ (e : Expression). Reaches programs (enters programs e) old new reached held) (sym is)
    record {
      becomes = record {
        run = λ next. stepped programs (valued (declared_by programs) e) (λ v w. next (given.Value v) w)
            ∙ unfolds (declared_by programs) e (world_of programs mid) (λ v w. next (given.Value v) w)
            ∙ onward.becomes.run next;
        rest = λ told. onward.becomes.rest told ∙ stays.rest told;
        heap = let a = stays.heap in let b = onward.becomes.heap in omega arith;
        live = onward.becomes.live;
        kept = onward.becomes.kept;
      };
      clear = onward.clear;
      less = let a = paid some in let b = onward.less in omega arith;
    }
