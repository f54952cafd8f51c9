use Rattle.es_eval.proofs.BoundLemmas.{bodies-bound, expressions-bound, tasks-bound}
use Rattle.es_eval.proofs.RunLemmas.{global-bound, program-bound}
use Rattle.es_eval.proofs.laws.law_of_bounds.Goals as goal

pub returns : goal.returns
returns c = record {
  expressions = expressions-bound;
  tasks = tasks-bound;
  bodies = bodies-bound;
  programs = program-bound;
  globals = global-bound;
}
