-- What a call is found to reach: from its callee, from its arguments, and by built-in methods.
use Rattle.std.proofs.Common.{◌≡◌, ◌∙◌, ◌+◌, ◌++◌, ◌∷◌, [], ℕ, List, Bool, true, false, ap, sym, refl, subst, arith}
use Rattle.std.specs.Prelude.{Result, Ok, Err, IfOk, OnOk}
use Rattle.std.proofs.lemmas.List.Elements.{All-append, All-cons, All-head, All-nil, All-push, All-weaker}
use Rattle.es_expressions.specs.Trees.Trees.{NoTrees, OneMore}
use Rattle.es_builtins.specs.declared.built.Built.{Built}
use Rattle.es_builtins.specs.declared.built.Built.TheVariants as built_as
use Rattle.es_builtins.specs.Methods.{method_row}
use Rattle.es_reader.specs.Programs.{ToldProgram}
use Rattle.es_values.specs.declared.values.Value.{Value}
use Rattle.es_values.specs.Heaps.{IsLive}
use Rattle.es_shapes.specs.declared.codes.Code.{Code}
use Rattle.es_shapes.specs.declared.shapes.Shape.{Shape}
use Rattle.es_shapes.specs.declared.shapes.Shape.TheVariants as shape
use Rattle.es_shapes.specs.Codes.{declared_by}
use Rattle.es_shapes.specs.Syntax.{Expression}
use Rattle.es_shapes.specs.devices.Parts.{expression_at, parts_from, tree_of, trees_from}
use Rattle.es_shapes.specs.devices.Shapes.{shaped}
use Rattle.es_eval.specs.declared.applications.Gathered.{Gathered}
use Rattle.es_eval.specs.declared.applications.Gathered.TheVariants as gathered_of
use Rattle.es_eval.specs.declared.held.Held.{Held}
use Rattle.es_eval.specs.declared.held.Reached.{Reached}
use Rattle.es_eval.specs.declared.held.Reached.TheVariants as reached_of
use Rattle.es_eval.specs.declared.outcomes.Outcome.TheVariants.{Normal as AtEnd}
use Rattle.es_eval.specs.declared.outcomes.StopCause.{StopCause}
use Rattle.es_eval.specs.declared.outcomes.StopCause.TheVariants.{NotObject}
use Rattle.es_eval.specs.declared.found.Found.TheVariants as found_of
use Rattle.es_eval.specs.declared.works.Callee.{Callee}
use Rattle.es_eval.specs.declared.works.Callee.TheVariants as callee_of
use Rattle.es_eval.specs.declared.works.CallWork.TheVariants as call_work
use Rattle.es_eval.specs.declared.works.Given.{Given}
use Rattle.es_eval.specs.declared.works.Given.TheVariants as given
use Rattle.es_eval.specs.declared.works.Now.{Now}
use Rattle.es_eval.specs.declared.works.OpenCall.{OpenCall}
use Rattle.es_eval.specs.declared.works.Work.{Work}
use Rattle.es_eval.specs.declared.works.Work.TheVariants as work
use Rattle.es_eval.specs.Actions.{Action, Next, as_text, behind, by_row, step}
use Rattle.es_eval.specs.Rows.{call_row, with_members}
use Rattle.es_eval.specs.Unbounded.{called}
use Rattle.es_eval.specs.Worlds.Run.{Over}
use Rattle.es_eval.specs.devices.Held.{Becomes, Gathers, GathersAll, GathersNone, GathersSome, IsBuiltIn, IsClear, Reaches, ReachesBehind, reached_of_built}
use Rattle.es_eval.specs.devices.Machines.{AreLive, IsWorkLive, MachineState, Stays, built_run, next_run, values_of_built, values_of_callee, world_of}
use Rattle.es_eval.specs.devices.Finding.{Finds}
use Rattle.es_eval.specs.devices.Works.{as_value, calls_callee, calls_with, does, enters, evaluates, is_without_members}
use Rattle.es_eval.proofs.ArmLemmas.{members-more, members-stopped}
use Rattle.es_eval.proofs.CallArms.{argument-run, arguments-end}
use Rattle.es_eval.proofs.GivenLemmas.{are_live, argument-given, argument-stops, stays-behind}
use Rattle.es_eval.proofs.HeldLemmas.{held_more, items_behind}
use Rattle.es_eval.proofs.MachineLemmas.{live-stays}
use Rattle.es_eval.proofs.ReachLemmas.{stays_on, stays_stopped}
use Rattle.es_eval.proofs.ShapeRows.{callee-other}

-- ---- parts

-- what a value is handed to
abbrev handed_to : Next Value → Next Given
handed_to next (given.Value value) w = next value w
handed_to next other w = Over AtEnd w

pub part_finds : (programs : List ToldProgram) (action : Action Value) (old new : MachineState)
    (part : Reached) (held : Held) (value : Value)
    → Reaches programs action old new part held → part ≡ reached_of.Value value
    → Finds programs action old new (found_of.Value value)
part_finds programs action old new part held value reaches is =
    let there : Reaches programs action old new (reached_of.Value value) held =
    subst (λ (r : Reached). Reaches programs action old new r held) is reaches in
    λ next. there.becomes.run (handed_to next)

pub part_ends : (programs : List ToldProgram) (action : Action Value) (old new : MachineState)
    (part : Reached) (held : Held) (cause : StopCause)
    → Reaches programs action old new part held → part ≡ reached_of.Stopped cause
    → Finds programs action old new (found_of.Stopped cause)
part_ends programs action old new part held cause reaches is =
    let there : Reaches programs action old new (reached_of.Stopped cause) held =
    subst (λ (r : Reached). Reaches programs action old new r held) is reaches in
    λ next. there.becomes.run (handed_to next)

pub part_stays : (programs : List ToldProgram) (action : Action Value) (old new : MachineState)
    (part : Reached) (held : Held) (value : Value)
    → Reaches programs action old new part held → part ≡ reached_of.Value value → Stays old new
part_stays programs action old new part held value reaches is =
    let there : Reaches programs action old new (reached_of.Value value) held =
    subst (λ (r : Reached). Reaches programs action old new r held) is reaches in
    record {
      rest = there.becomes.rest;
      less = let a = there.less in omega arith;
      heap = there.becomes.heap;
    }

pub end_stays : (programs : List ToldProgram) (action : Action Value) (old new : MachineState)
    (part : Reached) (held : Held) (cause : StopCause)
    → Reaches programs action old new part held → part ≡ reached_of.Stopped cause → Stays old new
end_stays programs action old new part held cause reaches is =
    let there : Reaches programs action old new (reached_of.Stopped cause) held =
    subst (λ (r : Reached). Reaches programs action old new r held) is reaches in
    record {
      rest = there.becomes.rest;
      less = let a = there.less in omega arith;
      heap = there.becomes.heap;
    }

pub part_live : (programs : List ToldProgram) (action : Action Value) (old new : MachineState)
    (part : Reached) (held : Held) (value : Value)
    → Reaches programs action old new part held → part ≡ reached_of.Value value
    → IsLive new.heap value
part_live programs action old new part held value reaches is =
    let there : Reaches programs action old new (reached_of.Value value) held =
    subst (λ (r : Reached). Reaches programs action old new r held) is reaches in
    All-head (IsLive new.heap) value [] there.becomes.live

-- ---- arguments

-- those that are there, and the place of the next
pub record Gathering (programs : List ToldProgram) (old new : MachineState)
    (before later : OpenCall) (held : Held) : Type 0 where
  pub run : (next : Next Value)
      → calls_with programs before.callee before.given.items before.call before.next
      (world_of programs old) next
      ≡ calls_with programs later.callee later.given.items later.call later.next
      (world_of programs new) next
  pub live : AreLive new.heap later.given.items
  pub stays : Stays old new
  pub clear : IsClear held

pub gathering_more : (programs : List ToldProgram) (old mid new : MachineState)
    (before later more : OpenCall) (held after : Held) (argument : Code) (part : Reached)
    (value : Value) → Gathering programs old mid before later held
    → trees_from programs later.call later.next
    ≡ OneMore (tree_of programs argument) (trees_from programs later.call (later.next + 1))
    → Reaches programs (evaluates programs argument) mid new part after
    → part ≡ reached_of.Value value
    → more.callee ≡ later.callee → more.call ≡ later.call
    → more.given.items ≡ later.given.items ++ value ∷ [] → more.next ≡ later.next + 1
    → Gathering programs old new before more after
gathering_more programs old mid new before later more held after argument part value far trees reaches is callee call items next_is =
    let there : Reaches programs (evaluates programs argument) mid new (reached_of.Value value) after =
    subst (λ (r : Reached). Reaches programs (evaluates programs argument) mid new r after) is reaches in
    let stays = part_stays programs (evaluates programs argument) mid new part after value reaches is in
    record {
      run = λ next. far.run next
          ∙ argument-given programs later.callee later.given.items later.call later.next argument
          mid new (found_of.Value value) value next trees
          (part_finds programs (evaluates programs argument) mid new part after value reaches is) refl
          ∙ sym (rw (callee, call, items, next_is) refl);
      live = rw items (All-push (IsLive new.heap) later.given.items value
          (are_live mid new later.given.items stays far.live)
          (part_live programs (evaluates programs argument) mid new part after value reaches is));
      stays = stays-behind old mid new far.stays stays;
      clear = there.clear;
    }

pub gathered_all : (programs : List ToldProgram) (old new : MachineState)
    (before later : OpenCall) (held : Held) → Gathering programs old new before later held
    → later.callee ≡ before.callee → trees_from programs later.call later.next ≡ NoTrees
    → GathersAll programs old new before later held
gathered_all programs old new before later held far same none = record {
  run = λ next. far.run next
      ∙ sym (arguments-end programs later.callee later.given.items later.call later.next
      (world_of programs new) (handed_to next) none)
      ∙ ap (λ (callee : Callee). calls_callee programs callee later.given.items
      (world_of programs new) next) same;
  stays = far.stays;
  live = far.live;
  clear = far.clear;
}

pub gathered_none : (programs : List ToldProgram) (old mid new : MachineState)
    (before later : OpenCall) (held after : Held) (argument : Code) (part : Reached)
    (cause : StopCause) → Gathering programs old mid before later held
    → trees_from programs later.call later.next
    ≡ OneMore (tree_of programs argument) (trees_from programs later.call (later.next + 1))
    → Reaches programs (evaluates programs argument) mid new part after
    → part ≡ reached_of.Stopped cause
    → GathersNone programs old new before cause
gathered_none programs old mid new before later held after argument part cause far trees reaches is = record {
  run = λ next. far.run next
      ∙ argument-stops programs later.callee later.given.items later.call later.next argument
      mid new (found_of.Stopped cause) cause next trees
      (part_ends programs (evaluates programs argument) mid new part after cause reaches is) refl;
  stays = stays-behind old mid new far.stays
      (end_stays programs (evaluates programs argument) mid new part after cause reaches is);
}

pub gathered_some : (programs : List ToldProgram) (old mid new : MachineState)
    (before later whole : OpenCall) (held after : Held) (argument : Code) (part : Reached)
    → Gathering programs old mid before later held
    → trees_from programs later.call later.next
    ≡ OneMore (tree_of programs argument) (trees_from programs later.call (later.next + 1))
    → Reaches programs (evaluates programs argument) mid new part after
    → part ≡ reached_of.Waits → whole ≡ record later { next = later.next + 1 }
    → GathersSome programs old new before whole after
gathered_some programs old mid new before later whole held after argument part far trees reaches waits is =
    let there : Reaches programs (evaluates programs argument) mid new reached_of.Waits after =
    subst (λ (r : Reached). Reaches programs (evaluates programs argument) mid new r after) waits reaches in
    rw is record {
      run = λ next. far.run (λ value w. next (given.Value value) w)
          ∙ sym (argument-run programs (record later { next = later.next + 1 }) later.next argument
          (world_of programs mid) next refl trees)
          ∙ there.becomes.run (λ handed w. does programs
          (work.Call (call_work.Argument (record later { next = later.next + 1 }))) handed w next);
      rest = λ told. there.becomes.rest told ∙ far.stays.rest told;
      heap = let a = far.stays.heap in let b = there.becomes.heap in omega arith;
      given = All-weaker (IsLive mid.heap) (IsLive new.heap)
          (λ value. live-stays mid.heap new.heap value there.becomes.heap) later.given.items far.live;
      live = there.becomes.live;
      kept = there.becomes.kept;
      less = let a = far.stays.less in let b = there.less in omega arith;
    }

-- ---- a call with its arguments

-- all are there, and it is made
pub arguments_on : (programs : List ToldProgram) (old mid new : MachineState)
    (before after : OpenCall) (gathered : Gathered) (held later : Held) (reached : Reached)
    → Gathers programs old mid before after gathered held → gathered ≡ gathered_of.All
    → before.given.items ≡ [] → before.next ≡ 1 → after.callee ≡ before.callee
    → ReachesBehind programs (calls_callee programs after.callee after.given.items) mid new reached
    later
    → ReachesBehind programs (calls_with programs before.callee [] before.call 1) old new reached
    later
arguments_on programs old mid new before after gathered held later reached gathers is none first same onward =
    let all : GathersAll programs old mid before after held =
    subst (λ (g : Gathered). Gathers programs old mid before after g held) is gathers in
    stays_on programs (calls_callee programs after.callee after.given.items)
    (calls_with programs before.callee [] before.call 1) old mid new reached later all.stays
    (λ next.
    ap (λ (there : List Value). as_value (calls_with programs before.callee there before.call 1)
    (world_of programs old) next) (sym none)
    ∙ ap (λ (place : ℕ). as_value (calls_with programs before.callee before.given.items before.call
    place) (world_of programs old) next) (sym first)
    ∙ all.run (λ value w. next (given.Value value) w)
    ∙ ap (λ (callee : Callee). as_value (calls_callee programs callee after.given.items)
    (world_of programs mid) next) (sym same)) onward

-- the script is stopped at one
pub arguments_stopped : (programs : List ToldProgram) (old new : MachineState)
    (before after : OpenCall) (gathered : Gathered) (held : Held) (cause : StopCause)
    → Gathers programs old new before after gathered held → gathered ≡ gathered_of.Stopped cause
    → before.given.items ≡ [] → before.next ≡ 1
    → ReachesBehind programs (calls_with programs before.callee [] before.call 1) old new
    (reached_of.Stopped cause) held
arguments_stopped programs old new before after gathered held cause gathers is none first =
    let stops : GathersNone programs old new before cause =
    subst (λ (g : Gathered). Gathers programs old new before after g held) is gathers in
    stays_stopped programs (calls_with programs before.callee [] before.call 1) old new cause held
    stops.stays
    (λ next.
    ap (λ (there : List Value). as_value (calls_with programs before.callee there before.call 1)
    (world_of programs old) next) (sym none)
    ∙ ap (λ (place : ℕ). as_value (calls_with programs before.callee before.given.items before.call
    place) (world_of programs old) next) (sym first)
    ∙ stops.run (λ value w. next (given.Value value) w))

-- one waits, and the call with it
pub arguments_wait : (programs : List ToldProgram) (old new : MachineState)
    (before whole : OpenCall) (held after : Held)
    → GathersSome programs old new before whole held
    → before.given.items ≡ [] → before.next ≡ 1 → whole.callee ≡ before.callee
    → AreLive old.heap (values_of_callee before.callee) → after.next ≡ held.next
    → after.items.items ≡ held.items.items ++ work.Call (call_work.Argument whole) ∷ []
    → ReachesBehind programs (calls_with programs before.callee [] before.call 1) old new
    reached_of.Waits after
arguments_wait programs old new before whole held after some none first same live next items =
    let item : Work = work.Call (call_work.Argument whole) in
    let weighs = held_more held after item next items in
    let callee : AreLive new.heap (values_of_callee whole.callee) =
    subst (λ (callee : Callee). AreLive new.heap (values_of_callee callee)) (sym same)
    (All-weaker (IsLive old.heap) (IsLive new.heap)
    (λ value. live-stays old.heap new.heap value some.heap) (values_of_callee before.callee) live) in
    let kept : IsWorkLive new.heap item =
    All-append (IsLive new.heap) (values_of_callee whole.callee) whole.given.items callee some.given in
    let action : Action Given = as_value (calls_with programs before.callee [] before.call 1) in
    record {
      becomes = subst (λ (items : List Work). Becomes programs action old new after.next items)
          (sym items) (subst (λ (next : Now). Becomes programs action old new next
          (held.items.items ++ item ∷ [])) (sym next) record {
            run = λ next.
                ap (λ (there : List Value). as_value (calls_with programs before.callee there
                before.call 1) (world_of programs old) next) (sym none)
                ∙ ap (λ (place : ℕ). as_value (calls_with programs before.callee before.given.items
                before.call place) (world_of programs old) next) (sym first)
                ∙ some.run next
                ∙ sym (ap (next_run programs held.next (world_of programs new))
                (items_behind programs held.items.items item next));
            rest = some.rest;
            heap = some.heap;
            live = some.live;
            kept = All-append (IsWorkLive new.heap) held.items.items (item ∷ []) some.kept
                (All-cons (IsWorkLive new.heap) item [] kept (All-nil (IsWorkLive new.heap)));
          });
      clear = tt;
      less = let a = some.less in omega arith;
    }

pub arguments_kept : {E : Type 0} (programs : List ToldProgram) (old new : MachineState)
    (before whole : OpenCall) (gathered : Gathered) (held after : Held) (result : Result Reached E)
    → Gathers programs old new before whole gathered held → gathered ≡ gathered_of.Waits
    → before.given.items ≡ [] → before.next ≡ 1 → whole.callee ≡ before.callee
    → AreLive old.heap (values_of_callee before.callee)
    → IfOk result (λ reached. reached ≡ reached_of.Waits) → after.next ≡ held.next
    → OnOk result (after.items.items
    ≡ held.items.items ++ work.Call (call_work.Argument whole) ∷ [])
    → IfOk result (λ reached. ReachesBehind programs (calls_with programs before.callee []
    before.call 1) old new reached after)
arguments_kept {E} programs old new before whole gathered held after (Ok reached) gathers is none first same live waits next items =
    let some : GathersSome programs old new before whole held =
    subst (λ (g : Gathered). Gathers programs old new before whole g held) is gathers in
    subst (λ (r : Reached). ReachesBehind programs (calls_with programs before.callee []
    before.call 1) old new r after) (sym waits)
    (arguments_wait programs old new before whole held after some none first same live next items)
arguments_kept {E} programs old new before whole gathered held after (Err error) gathers is none first same live waits next items = tt

-- ---- bases

pub members_on : (programs : List ToldProgram) (base : Value) (more : Action Value)
    (old new : MachineState) (none : Bool) (reached : Reached) (held : Held)
    → none ≡ is_without_members base → none ≡ false
    → ReachesBehind programs more old new reached held
    → ReachesBehind programs (with_members base more) old new reached held
members_on programs base more old new none reached held tells is onward =
    subst (λ (action : Action Value). ReachesBehind programs action old new reached held)
    (sym (members-more base more (sym tells ∙ is))) onward

pub no_members : (programs : List ToldProgram) (base : Value) (more : Action Value)
    (m : MachineState) (none : Bool) (held : Held)
    → none ≡ is_without_members base → none ≡ true
    → ReachesBehind programs (with_members base more) m m (reached_of.Stopped NotObject) held
no_members programs base more m none held tells is =
    stays_stopped programs (with_members base more) m m NotObject held
    (record { rest = λ told. refl; less = omega arith; heap = omega arith })
    (λ next. ap (λ (action : Action Value). as_value action (world_of programs m) next)
    (members-stopped base more (sym tells ∙ is)))

-- ---- calls

-- a built-in method is called
pub built_reached : (programs : List ToldProgram) (base : Value) (key : List ℕ)
    (arguments : List Value) (old new : MachineState) (built : Built) (reached : Reached)
    (held : Held) → IsBuiltIn old.heap base key
    → ((told : List ToldProgram) (next : Next Value)
    → by_row (λ heap. method_row heap base key arguments) (world_of told old) next
    ≡ built_run built (world_of told new) next)
    → AreLive new.heap (values_of_built built) → Stays old new → IsClear held
    → reached ≡ reached_of_built built
    → ReachesBehind programs (calls_callee programs (callee_of.Member base key) arguments) old new
    reached held
built_reached programs base key arguments old new (built_as.Value value) reached held known calls live stays clear is = rw is record {
  becomes = record {
    run = λ next. known programs arguments (world_of programs old) (λ v w. next (given.Value v) w) refl
        ∙ calls programs (λ v w. next (given.Value v) w);
    rest = stays.rest;
    heap = stays.heap;
    live = live;
    kept = All-nil (IsWorkLive new.heap);
  };
  clear = clear;
  less = let a = stays.less in omega arith;
}
built_reached programs base key arguments old new built_as.NotCallable reached held known calls live stays clear is = rw is record {
  becomes = record {
    run = λ next. known programs arguments (world_of programs old) (λ v w. next (given.Value v) w) refl
        ∙ calls programs (λ v w. next (given.Value v) w);
    rest = stays.rest;
    heap = stays.heap;
    live = All-nil (IsLive new.heap);
    kept = All-nil (IsWorkLive new.heap);
  };
  clear = tt;
  less = let a = stays.less in omega arith;
}
built_reached programs base key arguments old new built_as.OverBudget reached held known calls live stays clear is = rw is record {
  becomes = record {
    run = λ next. known programs arguments (world_of programs old) (λ v w. next (given.Value v) w) refl
        ∙ calls programs (λ v w. next (given.Value v) w);
    rest = stays.rest;
    heap = stays.heap;
    live = All-nil (IsLive new.heap);
    kept = All-nil (IsWorkLive new.heap);
  };
  clear = tt;
  less = let a = stays.less in omega arith;
}

-- ---- callees

pub member_called : (programs : List ToldProgram) (call callee : Code) (found : Shape) (base : Code)
    (name : List ℕ) (old new : MachineState) (reached : Reached) (held : Held)
    → expression_at programs callee ≡ shaped programs callee found → found ≡ shape.Member base name
    → ReachesBehind programs (step (behind (evaluates programs base) (λ base. with_members base
    (calls_with programs (callee_of.Member base name) [] call 1)))) old new reached held
    → ReachesBehind programs (call_row (declared_by programs) (called (declared_by programs))
    (enters programs) (expression_at programs callee) (parts_from programs call 1)) old new reached
    held
unfolding shaped
member_called programs call callee found base name old new reached held at is onward =
    subst (λ (e : Expression). ReachesBehind programs (call_row (declared_by programs)
    (called (declared_by programs)) (enters programs) e (parts_from programs call 1)) old new
    reached held) (sym (at ∙ ap (shaped programs callee) is)) onward

pub index_called : (programs : List ToldProgram) (call callee : Code) (found : Shape)
    (base key : Code) (old new : MachineState) (reached : Reached) (held : Held)
    → expression_at programs callee ≡ shaped programs callee found → found ≡ shape.Index base key
    → ReachesBehind programs (step (behind (evaluates programs base) (λ base. behind
    (evaluates programs key) (λ key. with_members base (behind (as_text key)
    (λ key. calls_with programs (callee_of.Member base key) [] call 1)))))) old new reached held
    → ReachesBehind programs (call_row (declared_by programs) (called (declared_by programs))
    (enters programs) (expression_at programs callee) (parts_from programs call 1)) old new reached
    held
unfolding shaped
index_called programs call callee found base key old new reached held at is onward =
    subst (λ (e : Expression). ReachesBehind programs (call_row (declared_by programs)
    (called (declared_by programs)) (enters programs) e (parts_from programs call 1)) old new
    reached held) (sym (at ∙ ap (shaped programs callee) is)) onward

pub other_called : (programs : List ToldProgram) (call callee : Code) (found : Shape)
    (old new : MachineState) (reached : Reached) (held : Held)
    → expression_at programs callee ≡ shaped programs callee found
    → ((base key : Code) → found ≡ shape.Index base key → ⊥)
    → ((base : Code) (name : List ℕ) → found ≡ shape.Member base name → ⊥)
    → ReachesBehind programs (behind (evaluates programs callee)
    (λ value. calls_with programs (callee_of.Value value) [] call 1)) old new reached held
    → ReachesBehind programs (call_row (declared_by programs) (called (declared_by programs))
    (enters programs) (expression_at programs callee) (parts_from programs call 1)) old new reached
    held
other_called programs call callee found old new reached held at index member onward =
    subst (λ (action : Action Value). ReachesBehind programs action old new reached held)
    (sym (ap (λ (e : Expression). call_row (declared_by programs) (called (declared_by programs))
    (enters programs) e (parts_from programs call 1)) at
    ∙ callee-other programs callee found (declared_by programs) (called (declared_by programs))
    (enters programs) (parts_from programs call 1) index member
    ∙ ap (λ (e : Expression). behind (enters programs e)
    (λ value. calls_with programs (callee_of.Value value) [] call 1)) (sym at))) onward
