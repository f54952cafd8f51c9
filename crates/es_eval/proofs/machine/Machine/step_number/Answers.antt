use Rattle.es_eval.proofs.FoundLemmas.{stepped-finds}
use Rattle.es_eval.proofs.machine.Machine.step_number.Goals as goal

pub returns-clause-finds : goal.returns-clause-finds
returns-clause-finds c =
    stepped-finds c.args.programs.now c.args.name.now c.args.in_front c.args.down c.args.number
    c.stepped-behind.result c.if_in_front-given.result c.args.self.now c.write_name.new.self
    c.stepped-behind.ensures c.if_in_front-given.ensures c.in_ok-write_name.ensures.name
