use Rattle.std.proofs.lemmas.Result.{IfOk-weaker}
use Rattle.es_eval.specs.devices.Works.{place_of}
use Rattle.es_eval.proofs.TargetLemmas.{instead-run}
use Rattle.es_eval.proofs.machine.Machine.write_step.Goals as goal

pub returns-in-Ok-clause-run : goal.returns-in-Ok-clause-run
returns-in-Ok-clause-run c =
    let programs = c.args.programs.now in
    IfOk-weaker c.write_place.result _ _
    (λ next run. instead-run programs c.args.self.now c.put.new.self
    c.write_place.new.self (place_of c.args.place) c.args.in_front c.args.down c.args.number
    c.stepped-behind.result c.if_in_front-given.result next c.stepped-behind.ensures
    c.if_in_front-given.ensures c.in-Ok.ensures.rest c.in-Ok.ensures.world run)
    c.write_place.ensures.run
