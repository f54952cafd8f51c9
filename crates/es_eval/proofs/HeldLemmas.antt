-- What is reached of an expression or a statement, and what comes behind it.
use Rattle.std.proofs.Common.{◌≡◌, ◌∙◌, ◌+◌, ◌*◌, ◌++◌, ◌∷◌, [], List, ap, sym, refl, subst, arith}
use Rattle.std.proofs.Math.Path.{fun_ext}
use Rattle.std.proofs.lemmas.List.Elements.{All-append, All-cons, All-nil}
use Rattle.std.proofs.lemmas.List.Sums.{sum_by-append, sum_by-cons}
use Rattle.es_reader.specs.Programs.{ToldProgram}
use Rattle.es_values.specs.declared.values.Value.{Value}
use Rattle.es_values.specs.Heaps.{IsLive}
use Rattle.es_eval.specs.declared.held.Held.{Held}
use Rattle.es_eval.specs.declared.held.Ran.{Ran}
use Rattle.es_eval.specs.declared.held.Ran.TheVariants as ran_of
use Rattle.es_eval.specs.declared.held.Reached.{Reached}
use Rattle.es_eval.specs.declared.held.Reached.TheVariants as reached_of
use Rattle.es_eval.specs.declared.outcomes.StopCause.{StopCause}
use Rattle.es_eval.specs.declared.works.Given.{Given}
use Rattle.es_eval.specs.declared.works.Given.TheVariants as given
use Rattle.es_eval.specs.declared.works.StatementWork.{StatementWork}
use Rattle.es_eval.specs.declared.works.Work.{Work}
use Rattle.es_eval.specs.declared.works.Work.TheVariants as work
use Rattle.es_eval.specs.Actions.{Action, Next, behind, gives}
use Rattle.es_eval.specs.Rows.{Completion}
use Rattle.es_eval.specs.Worlds.{Run, World}
use Rattle.es_eval.specs.devices.Held.{Becomes, Reaches, Runs, weight_of_held}
use Rattle.es_eval.specs.devices.Machines.{AreLive, IsWorkLive, MachineState, items_rest, next_run, turns_of, values_of_given, values_of_statement, world_of}
use Rattle.es_eval.specs.devices.Works.{as_completion, as_value, completed, does, statement_work_row}

-- ---- items

-- an item that waits behind others
pub items_behind : (programs : List ToldProgram) (items : List Work) (item : Work)
    (behind : Next Given)
    → items_rest programs (items ++ item ∷ []) behind
    ≡ items_rest programs items (λ handed w. does programs item handed w behind)
items_behind programs [] item behind = refl
items_behind programs (first ∷ others) item behind =
    ap (λ (more : Next Given). (λ (handed : Given) (w : World). does programs first handed w more))
    (items_behind programs others item behind)

-- what is held with an item more
pub held_more : (held more : Held) (item : Work) → more.next ≡ held.next
    → more.items.items ≡ held.items.items ++ item ∷ []
    → weight_of_held more ≡ weight_of_held held + 2 * turns_of item
held_more held more item next items =
    let sums = sum_by-append turns_of held.items.items (item ∷ []) in
    let one = sum_by-cons turns_of item [] in
    rw (next, items, sums) (omega arith)

-- An action came so far, and more of it is handed on to an item.
pub becomes_behind : (programs : List ToldProgram) (first action : Action Given)
    (old new : MachineState) (held more : Held) (item : Work)
    → Becomes programs first old new held.next held.items.items
    → IsWorkLive new.heap item → more.next ≡ held.next
    → more.items.items ≡ held.items.items ++ item ∷ []
    → ((w : World) (next : Next Given) → action w next
    ≡ first w (λ handed after. does programs item handed after next))
    → Becomes programs action old new more.next more.items.items
becomes_behind programs first action old new held more item came live next items same = rw (next, items) record {
  run = λ next. same (world_of programs old) next
      ∙ came.run (λ handed after. does programs item handed after next)
      ∙ sym (ap (next_run programs held.next (world_of programs new))
      (items_behind programs held.items.items item next));
  rest = came.rest;
  heap = came.heap;
  live = came.live;
  kept = All-append (IsWorkLive new.heap) held.items.items (item ∷ []) came.kept
      (All-cons (IsWorkLive new.heap) item [] live (All-nil (IsWorkLive new.heap)));
}

-- ---- statements behind an expression

-- the value is there
pub reached_run : (programs : List ToldProgram) (first : Action Value)
    (more : Value → Action Completion) (old mid new : MachineState) (reached : Reached)
    (held after : Held) (value : Value) (ran : Ran)
    → Reaches programs first old mid reached held → reached ≡ reached_of.Value value
    → Runs programs 12 (more value) mid new ran after
    → Runs programs 12 (behind first more) old new ran after
reached_run programs first more old mid new reached held after value ran reaches is runs =
    let there : Reaches programs first old mid (reached_of.Value value) held =
    subst (λ (r : Reached). Reaches programs first old mid r held) is reaches in
    record {
      becomes = record {
        run = λ next. there.becomes.run (λ handed w. with handed w next) ∙ runs.becomes.run next;
        rest = λ told. runs.becomes.rest told ∙ there.becomes.rest told;
        heap = let a = there.becomes.heap in let b = runs.becomes.heap in omega arith;
        live = runs.becomes.live;
        kept = runs.becomes.kept;
      };
      clear = runs.clear;
      less = let a = there.less in let b = runs.less in omega arith;
    }
  where
    with : Given → World → Next Given → Run
    with (given.Value v) w next = as_completion (more v) w next
    with other w next = next other w

-- what is completed with the value
pub reached_given : (programs : List ToldProgram) (first : Action Value)
    (more : Value → Action Completion) (old new : MachineState) (reached : Reached) (held : Held)
    (value : Value) (completion : Completion)
    → Reaches programs first old new reached held → reached ≡ reached_of.Value value
    → more value ≡ gives completion → AreLive new.heap (values_of_given (completed completion))
    → Runs programs 12 (behind first more) old new (ran_of.Given (completed completion)) held
reached_given programs first more old new reached held value completion reaches is same live =
    reached_run programs first more old new new reached held held value
    (ran_of.Given (completed completion)) reaches is record {
      becomes = record {
        run = λ next. ap (λ (action : Action Completion). as_completion action (world_of programs new) next) same;
        rest = λ told. refl;
        heap = omega arith;
        live = live;
        kept = All-nil (IsWorkLive new.heap);
      };
      clear = (subst (λ (r : Reached). Reaches programs first old new r held) is reaches).clear;
      less = omega arith;
    }

-- the script is stopped
pub reached_stop : (programs : List ToldProgram) (first : Action Value)
    (more : Value → Action Completion) (old new : MachineState) (reached : Reached) (held : Held)
    (cause : StopCause)
    → Reaches programs first old new reached held → reached ≡ reached_of.Stopped cause
    → Runs programs 12 (behind first more) old new (ran_of.Stopped cause) held
reached_stop programs first more old new reached held cause reaches is =
    let there : Reaches programs first old new (reached_of.Stopped cause) held =
    subst (λ (r : Reached). Reaches programs first old new r held) is reaches in
    record {
      becomes = record {
        run = λ next. there.becomes.run (λ handed w. with handed w next);
        rest = there.becomes.rest;
        heap = there.becomes.heap;
        live = there.becomes.live;
        kept = there.becomes.kept;
      };
      clear = tt;
      less = let a = there.less in omega arith;
    }
  where
    with : Given → World → Next Given → Run
    with (given.Value v) w next = as_completion (more v) w next
    with other w next = next other w

-- an item waits for the value
pub reached_wait : (programs : List ToldProgram) (first : Action Value)
    (more : Value → Action Completion) (old new : MachineState) (reached : Reached)
    (held after : Held) (item : StatementWork) (ran : Ran)
    → Reaches programs first old new reached held → reached ≡ reached_of.Waits
    → ran ≡ ran_of.Waits → after.next ≡ held.next
    → after.items.items ≡ held.items.items ++ work.Statement item ∷ []
    → ((value : Value)
    → statement_work_row programs item (given.Value value) ≡ as_completion (more value))
    → values_of_statement item ≡ []
    → Runs programs 12 (behind first more) old new ran after
reached_wait programs first more old new reached held after item ran reaches is waits next items does_more none =
    let there : Reaches programs first old new reached_of.Waits held =
    subst (λ (r : Reached). Reaches programs first old new r held) is reaches in
    let weighs = held_more held after (work.Statement item) next items in
    rw waits record {
      becomes = becomes_behind programs (as_value first) (as_completion (behind first more)) old new
          held after (work.Statement item) there.becomes
          (subst (λ (values : List Value). AreLive new.heap values) (sym none) (All-nil (IsLive new.heap)))
          next items
          (λ w k. ap (first w) (fun_ext (λ value. fun_ext (λ now.
          sym (ap (λ (action : Action Given). action now k) (does_more value))))));
      clear = tt;
      less = let a = there.less in omega arith;
    }
