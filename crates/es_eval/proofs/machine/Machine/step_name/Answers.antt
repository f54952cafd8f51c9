use Rattle.std.proofs.Common.{FitsSigned, rules}
use Rattle.std.specs.Int.{w32}
use Rattle.std.proofs.lemmas.Int.{to_z-of_z}
use Rattle.std.proofs.lemmas.Result.{IfOk-weaker}
use Rattle.es_eval.specs.Members.Place.{NamePlace}
use Rattle.es_eval.specs.devices.Works.{steps_from}
use Rattle.es_eval.proofs.FoundLemmas.{name-finds, no-name-finds, whole-steps}
use Rattle.es_eval.proofs.machine.Machine.step_name.Goals as goal

pub returns-in-Some-clause-finds : goal.returns-in-Some-clause-finds
returns-in-Some-clause-finds c =
    let fits : FitsSigned w32 c.in-Some.number = search rules in
    let same = to_z-of_z w32 c.in-Some.number fits in
    IfOk-weaker c.step_number.result _ _
    (λ found finds. whole-steps c.args.programs.now c.args.name.now c.args.in_front c.args.down
    c.in-Some.number c.args.self.now c.step_number.new.self found c.in-Some.ensures finds)
    (rw same at c.step_number.ensures.finds)

pub returns-in-Some-2-clause-finds : goal.returns-in-Some-2-clause-finds
returns-in-Some-2-clause-finds c =
    IfOk-weaker c.step_value.result _ _
    (λ found finds. name-finds c.args.programs.now c.args.name.now
    (steps_from c.args.in_front c.args.down (NamePlace c.args.name.now)) c.args.self.now
    c.step_value.new.self c.in_ok-before.field-0 c.in-Some-2.before found
    c.in_ok-before.ensures.value c.in-Some-2.is finds) c.step_value.ensures.finds

pub returns-in-None-clause-finds : goal.returns-in-None-clause-finds
returns-in-None-clause-finds c =
    no-name-finds c.args.programs.now c.args.name.now
    (steps_from c.args.in_front c.args.down (NamePlace c.args.name.now)) c.args.self.now
    c.in_ok-before.field-0 c.in_ok-before.ensures.value c.in-None.is
