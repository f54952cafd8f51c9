use Rattle.es_eval.proofs.EndLemmas.{returned_past}
use Rattle.es_eval.proofs.machine.Machine.on_statement_value.Goals as goal

pub leave-requires-clause-past : goal.leave-requires-clause-past
leave-requires-clause-past c programs w =
    returned_past programs c.args.self.now.frames c.args.given w
