use Rattle.receiver_core.proofs.OutputLaws.{no_outputs, front_of_outputs}
use Rattle.receiver_core.proofs.laws.law_of_outputs.Goals as goal

pub returns-clause-none : goal.returns-clause-none
returns-clause-none c = no_outputs

pub returns-clause-more : goal.returns-clause-more
returns-clause-more c = front_of_outputs
