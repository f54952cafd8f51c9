use Rattle.std.proofs.lemmas.Result.{IfOk-weaker}
use Rattle.es_eval.specs.Actions.{as_text}
use Rattle.es_eval.specs.Members.Place.{MemberPlace}
use Rattle.es_eval.specs.devices.Works.{use_row}
use Rattle.es_eval.proofs.ArmLemmas.{carried-run, stopped-run}
use Rattle.es_eval.proofs.machine.Machine.on_key.Goals as goal

pub returns-in-Some-clause-run : goal.returns-in-Some-clause-run
returns-in-Some-clause-run c =
    let programs = c.args.programs.now in
    IfOk-weaker c.on_place.result _ _
    (λ next run. carried-run programs c.args.self.now c.to_text.new.self
    c.on_place.new.self (as_text c.args.key.now)
    (λ key. use_row programs c.args.purpose (MemberPlace c.args.base key))
    c.in-Ok.found c.in-Some.key next c.in-Ok.ensures.text
    c.in-Some.is c.in-Ok.ensures.stays run) c.on_place.ensures.run

pub returns-in-None-clause-run : goal.returns-in-None-clause-run
returns-in-None-clause-run c =
    let programs = c.args.programs.now in
    stopped-run programs c.args.self.now c.to_text.new.self (as_text c.args.key.now)
    (λ key. use_row programs c.args.purpose (MemberPlace c.args.base key))
    c.in-Ok.found c.stopped.result c.in-Ok.ensures.text
    c.in-None.is c.stopped.ensures
