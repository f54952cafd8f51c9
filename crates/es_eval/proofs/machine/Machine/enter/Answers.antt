use Rattle.std.proofs.Common.{◌≤◌, ◌<◌, length, arith}
use Rattle.std.proofs.lemmas.Result.{IfOk-weaker}
use Rattle.es_frames.specs.Depth.{most_calls}
use Rattle.es_shapes.specs.Codes.{declared_by}
use Rattle.es_eval.specs.Unbounded.{called}
use Rattle.es_eval.proofs.CallArms.{deep-run, enter-run}
use Rattle.es_eval.proofs.machine.Machine.enter.Goals as goal

pub returns-then-depth-gt-MOST_CALLS-clause-run : goal.returns-then-depth-gt-MOST_CALLS-clause-run
returns-then-depth-gt-MOST_CALLS-clause-run c function at =
    let deep : most_calls < length c.args.self.now.frames = rw (← c.self.view_is) (omega arith) in
    deep-run c.args.programs.now c.args.self.now (called (declared_by c.args.programs.now)) function
    c.args.this c.args.args.items c.stopped.result deep c.stopped.ensures

pub returns-clause-run : goal.returns-clause-run
returns-clause-run c =
    let shallow : length c.args.self.now.frames ≤ most_calls = rw (← c.self.view_is) (omega arith) in
    let some : 1 ≤ length c.args.self.now.frames = rw (← c.self.view_is) c.self.invariant.some in
    IfOk-weaker c.enter_at.result _ _ (λ next on.
    enter-run c.args.programs.now c.list.result.now c.args.self.now c.enter_at.new.self
    c.args.declared c.args.this c.args.args.items next c.list.ensures shallow some on)
    c.enter_at.ensures.run
