use Rattle.std.proofs.Common.{◌≤◌, length}
use Rattle.std.proofs.lemmas.Result.{IfOk-weaker}
use Rattle.es_reader.specs.Told.{told_function}
use Rattle.es_eval.proofs.CallArms.{entered-run, is_declared, not_declared}
use Rattle.es_eval.proofs.machine.Machine.enter_at.Goals as goal

pub returns-in_default-clause-run : goal.returns-in_default-clause-run
returns-in_default-clause-run c function at =
    absurd (not_declared c.args.programs.now c.args.declared function (rw c.in_default.is at c.declaration.ensures) at)

pub returns-clause-run : goal.returns-clause-run
returns-clause-run c =
    let programs = c.args.programs.now in
    let told = told_function c.in-Some.function.now in
    let some : 1 ≤ length c.args.self.now.frames = rw (← c.self.view_is) c.self.invariant.some in
    IfOk-weaker c.run_listed.result _ _ (λ next on function at.
    entered-run programs c.args.self.now c.open_function.new.self c.run_listed.new.self
    c.args.declared told function c.args.this c.args.args.items next
    (is_declared programs c.args.declared told function c.in-Some.ensures at) some
    (c.in_ok-open_function.ensures.world programs
    (is_declared programs c.args.declared told function c.in-Some.ensures at).names)
    (c.in_ok-open_function.ensures.rest programs) on) c.run_listed.ensures.run
