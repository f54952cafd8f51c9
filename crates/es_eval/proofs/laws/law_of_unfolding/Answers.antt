use Rattle.es_eval.proofs.UnboundedLemmas.{called-row, done-row, global-unbounded, program-unbounded, valued-row}
use Rattle.es_eval.proofs.laws.law_of_unfolding.Goals as goal

pub returns : goal.returns
returns c = record {
  expressions = valued-row;
  tasks = done-row;
  bodies = called-row;
  programs = program-unbounded;
  globals = global-unbounded;
}
