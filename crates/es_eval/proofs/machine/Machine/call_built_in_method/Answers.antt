use Rattle.std.proofs.Common.{◌∷◌}
use Rattle.std.proofs.lemmas.Result.{IfOk-weaker}
use Rattle.es_builtins.specs.Methods.{method_row}
use Rattle.es_eval.specs.devices.Machines.{MachineState}
use Rattle.es_eval.proofs.BuiltLemmas.{answered-row, live_built, machine_with_heap}
use Rattle.es_eval.proofs.machine.Machine.call_built_in_method.Goals as goal

pub invariant_of-self : goal.invariant_of-self
invariant_of-self c =
    machine_with_heap _ c.call_method.new.heap c.call_method.new.budget.left c.self.invariant
    c.call_method.ensures.grows c.call_method.ensures.spends

pub returns-clause-run : goal.returns-clause-run
returns-clause-run c =
    let m : MachineState = record {
      globals = c.self.inside.globals;
      heap = c.self.inside.heap;
      frames = c.self.inside.frames;
      left = c.self.inside.steps.left;
    } in
    rw (← c.self.view_is)
    (IfOk-weaker c.call_method.result _ _ (λ built answers programs next.
    answered-row programs m
    (method_row c.self.inside.heap c.args.base.now c.args.name.now c.args.args.now) built
    c.call_method.new.heap c.call_method.new.budget.left next answers) c.call_method.ensures.row)

pub returns-clause-live : goal.returns-clause-live
returns-clause-live c =
    IfOk-weaker c.call_method.result _ _ (λ built answers.
    live_built c.self.inside.heap (c.args.base.now ∷ c.args.args.now)
    (method_row c.self.inside.heap c.args.base.now c.args.name.now c.args.args.now) built
    c.call_method.new.heap c.self.inside.steps c.call_method.new.budget
    (c.law_of_rows.ensures.methods c.self.inside.heap c.args.base.now c.args.name.now c.args.args.now
    c.is_sound.ensures (rw (← c.self.view_is) at c.requires.base)
    (rw (← c.self.view_is) at c.requires.args)) answers) c.call_method.ensures.row
