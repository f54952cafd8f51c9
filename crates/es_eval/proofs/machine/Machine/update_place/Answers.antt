use Rattle.std.proofs.lemmas.Result.{IfOk-weaker}
use Rattle.es_eval.proofs.TargetLemmas.{update-run}
use Rattle.es_eval.proofs.machine.Machine.update_place.Goals as goal

pub returns-in-Ok-put-clause-run : goal.returns-in-Ok-put-clause-run
returns-in-Ok-put-clause-run c =
    let programs = c.args.programs.now in
    IfOk-weaker c.read_place.result _ _
    (λ next run. update-run programs c.args.self.now c.put.new.self
    c.read_place.new.self c.args.operator c.args.place c.in-Ok.there c.args.right next
    c.in-Ok.ensures c.in-Ok-put.ensures.rest c.in-Ok-put.ensures.world run)
    c.read_place.ensures.run
