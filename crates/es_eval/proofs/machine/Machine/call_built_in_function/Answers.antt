use Rattle.std.proofs.lemmas.Result.{IfOk-weaker}
use Rattle.es_builtins.specs.Functions.{function_row}
use Rattle.es_eval.specs.devices.Machines.{MachineState}
use Rattle.es_eval.proofs.BuiltLemmas.{answered-row, live_built, machine_with_heap}
use Rattle.es_eval.proofs.machine.Machine.call_built_in_function.Goals as goal

pub invariant_of-self : goal.invariant_of-self
invariant_of-self c =
    machine_with_heap _ c.call_function.new.heap c.call_function.new.budget.left c.self.invariant
    c.call_function.ensures.grows c.call_function.ensures.spends

pub returns-clause-run : goal.returns-clause-run
returns-clause-run c =
    let m : MachineState = record {
      globals = c.self.inside.globals;
      heap = c.self.inside.heap;
      frames = c.self.inside.frames;
      left = c.self.inside.steps.left;
    } in
    rw (← c.self.view_is)
    (IfOk-weaker c.call_function.result _ _ (λ built answers programs next.
    answered-row programs m (function_row c.self.inside.heap c.args.number c.args.args.now) built
    c.call_function.new.heap c.call_function.new.budget.left next answers) c.call_function.ensures.row)

pub returns-clause-live : goal.returns-clause-live
returns-clause-live c =
    IfOk-weaker c.call_function.result _ _ (λ built answers.
    live_built c.self.inside.heap c.args.args.now
    (function_row c.self.inside.heap c.args.number c.args.args.now) built c.call_function.new.heap
    c.self.inside.steps c.call_function.new.budget
    (c.law_of_rows.ensures.functions c.self.inside.heap c.args.number c.args.args.now
    c.is_sound.ensures (rw (← c.self.view_is) at c.requires)) answers) c.call_function.ensures.row
