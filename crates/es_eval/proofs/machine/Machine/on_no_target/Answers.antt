use Rattle.std.proofs.Common.{ℕ, List, subst}
use Rattle.std.proofs.lemmas.Result.{IfOk-weaker}
use Rattle.es_eval.specs.devices.Machines.{GoesOn}
use Rattle.es_eval.specs.Members.Place.{NamePlace}
use Rattle.es_eval.specs.devices.Works.{use_row}
use Rattle.es_eval.proofs.machine.Machine.on_no_target.Goals as goal

pub returns-in-Ok-clause-run : goal.returns-in-Ok-clause-run
returns-in-Ok-clause-run c =
    let programs = c.args.programs.now in
    IfOk-weaker c.on_place.result _ _
    (λ next run. subst (λ (name : List ℕ). GoesOn programs c.args.self.now
    (use_row programs c.args.purpose (NamePlace name)) c.on_place.new.self next)
    c.in-Ok.ensures run) c.on_place.ensures.run
