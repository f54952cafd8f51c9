use Rattle.es_eval.specs.declared.works.Now.TheVariants.{Execute}
use Rattle.es_eval.proofs.MachineLemmas.{run-at}
use Rattle.es_eval.proofs.machine.Machine.execute_then.Goals as goal

pub returns-clause-run : goal.returns-clause-run
returns-clause-run c programs =
    run-at programs _ (Execute c.args.code) _ _ (c.in_ok-put.ensures.rest programs)
    (c.in_ok-put.ensures.world programs)
