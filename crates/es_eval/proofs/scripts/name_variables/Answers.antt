use Rattle.std.proofs.Common.{◌∙◌}
use Rattle.es_eval.proofs.DeclaringLemmas.{new-more}
use Rattle.es_eval.proofs.scripts.name_variables.Goals as goal

pub returns-in_err-name_variable-clause-live : goal.returns-in_err-name_variable-clause-live
returns-in_err-name_variable-clause-live c = λ heap live.
    c.name_variable.ensures.live heap (c.loop-name.invariant.live heap live)

pub loop-name-preserved : goal.loop-name-preserved
loop-name-preserved c = record {
  globals = new-more c.args.names.now c.loop-name.name-index c.name-item.result c.loop-name.globals
      c.name_variable.new.globals c.loop-name-test.true c.name-item.is c.in_ok-name_variable.ensures.ok
      ∙ c.loop-name.invariant.globals;
  live = λ heap live. c.name_variable.ensures.live heap (c.loop-name.invariant.live heap live);
}
