use Rattle.es_eval.proofs.MachineLemmas.{burden-step}
use Rattle.es_eval.proofs.machine.Machine.take_step.Goals as goal

pub returns-clause-less : goal.returns-clause-less
returns-clause-less c = rw (← c.self.view_is) (burden-step _ _ c.charge.result c.charge.ensures)
