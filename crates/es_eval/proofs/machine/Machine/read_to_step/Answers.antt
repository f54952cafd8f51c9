use Rattle.std.proofs.lemmas.Result.{IfOk-weaker}
use Rattle.es_eval.proofs.TargetLemmas.{steps-run}
use Rattle.es_eval.proofs.machine.Machine.read_to_step.Goals as goal

pub returns-in-Ok-put-clause-run : goal.returns-in-Ok-put-clause-run
returns-in-Ok-put-clause-run c =
    let programs = c.args.programs.now in
    IfOk-weaker c.read_place.result _ _
    (λ next run. steps-run programs c.args.self.now c.put.new.self
    c.read_place.new.self c.args.in_front c.args.down c.args.place c.in-Ok.there next
    c.in-Ok.ensures c.in-Ok-put.ensures.rest c.in-Ok-put.ensures.world run)
    c.read_place.ensures.run
