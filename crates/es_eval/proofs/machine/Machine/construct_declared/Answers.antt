use Rattle.std.proofs.Common.{◌≡◌, ◌-◌, ◌≤◌, ◌<◌, length, ap, arith}
use Rattle.std.proofs.lemmas.Result.{IfOk-weaker}
use Rattle.es_frames.specs.Depth.{most_calls}
use Rattle.es_shapes.specs.Codes.{declared_by}
use Rattle.es_eval.specs.Unbounded.{called}
use Rattle.es_eval.specs.Worlds.{World}
use Rattle.es_eval.proofs.CallArms.{construct-run, deep-construct, on_named}
use Rattle.es_eval.proofs.machine.Machine.construct_declared.Goals as goal

pub returns-then-depth-gt-MOST_CALLS-clause-run : goal.returns-then-depth-gt-MOST_CALLS-clause-run
returns-then-depth-gt-MOST_CALLS-clause-run c function at =
    let deep : most_calls < length c.args.self.now.frames = rw (← c.self.view_is) (omega arith) in
    deep-construct c.args.programs.now c.args.self.now (called (declared_by c.args.programs.now))
    function c.args.args.items c.stopped.result deep c.stopped.ensures

pub enter_at-requires-clause-depth : goal.enter_at-requires-clause-depth
enter_at-requires-clause-depth c =
    let shallow : length c.args.self.now.frames ≤ most_calls = rw (← c.self.view_is) (omega arith) in
    let made : length c.add_object.new.self.frames - 1 ≡ length c.args.self.now.frames - 1 =
    ap (λ (w : World). w.depth) (c.in_ok-object.ensures.world.1 c.args.programs.now) in
    let same : length c.put.new.self.frames - 1 ≡ length c.add_object.new.self.frames - 1 =
    ap (λ (w : World). w.depth) (c.in_ok-put.ensures.world c.args.programs.now) in
    omega arith

pub returns-clause-run : goal.returns-clause-run
returns-clause-run c =
    let shallow : length c.args.self.now.frames ≤ most_calls = rw (← c.self.view_is) (omega arith) in
    let some : 1 ≤ length c.args.self.now.frames = rw (← c.self.view_is) c.self.invariant.some in
    IfOk-weaker c.enter_at.result _ _ (λ next on function at.
    construct-run c.args.programs.now c.args.self.now function c.args.args.items shallow some
    c.add_object.new.self c.put.new.self c.enter_at.new.self c.in_ok-object.object next
    c.in_ok-object.ensures.world.0 (c.in_ok-object.ensures.world.1 c.args.programs.now) c.add_object.ensures.stays
    (c.in_ok-put.ensures.world c.args.programs.now) (c.in_ok-put.ensures.rest c.args.programs.now)
    (on_named c.args.programs.now c.list.result.now c.put.new.self c.enter_at.new.self
    c.args.declared _ c.args.args.items next c.list.ensures on function at)) c.enter_at.ensures.run
