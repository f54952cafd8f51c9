use Rattle.es_eval.proofs.RunLemmas.{global-steps, program-steps}
use Rattle.es_eval.proofs.laws.law_of_steps.Goals as goal

pub returns-clause-programs : goal.returns-clause-programs
returns-clause-programs g c = program-steps g.H.Host.reads g.H.Host.writes g.H.Host.calls

pub returns-clause-globals : goal.returns-clause-globals
returns-clause-globals g c = global-steps g.H.Host.reads g.H.Host.writes g.H.Host.calls
