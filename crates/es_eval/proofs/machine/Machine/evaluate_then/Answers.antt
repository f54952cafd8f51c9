use Rattle.es_eval.specs.declared.works.Now.TheVariants.{Evaluate}
use Rattle.es_eval.proofs.MachineLemmas.{run-at}
use Rattle.es_eval.proofs.machine.Machine.evaluate_then.Goals as goal

pub returns-clause-run : goal.returns-clause-run
returns-clause-run c programs =
    run-at programs _ (Evaluate c.args.code) _ _ (c.in_ok-put.ensures.rest programs)
    (c.in_ok-put.ensures.world programs)
