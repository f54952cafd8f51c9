use Rattle.std.proofs.lemmas.Result.{IfOk-weaker}
use Rattle.es_eval.specs.Members.{write_name}
use Rattle.es_eval.specs.Operations.{operates}
use Rattle.es_eval.proofs.FoundLemmas.{carried-finds, stays-on, uncarried-finds}
use Rattle.es_eval.proofs.machine.Machine.update_with.Goals as goal

pub returns-in-Some-clause-finds : goal.returns-in-Some-clause-finds
returns-in-Some-clause-finds c =
    IfOk-weaker c.written_value.result _ _
    (λ found finds. carried-finds c.args.programs.now
    (operates c.args.operator c.args.before.now c.args.value.now)
    (write_name c.args.name.now) c.args.self.now c.operate.new.self c.written_value.new.self
    c.in_ok-behind.field-0 c.in-Some.behind found c.in_ok-behind.ensures.value c.in-Some.is
    finds) c.written_value.ensures.finds

pub returns-in-None-clause-finds : goal.returns-in-None-clause-finds
returns-in-None-clause-finds c =
    uncarried-finds c.args.programs.now
    (operates c.args.operator c.args.before.now c.args.value.now)
    (write_name c.args.name.now) c.args.self.now c.operate.new.self
    c.in_ok-behind.field-0 c.in_ok-behind.ensures.value c.in-None.is

pub returns-in-Some-clause-stays : goal.returns-in-Some-clause-stays
returns-in-Some-clause-stays c =
    stays-on c.args.self.now c.operate.new.self c.written_value.new.self c.operate.ensures.stays
    c.written_value.ensures.stays
