use Rattle.std.proofs.Common.{◌∙◌, arith}
use Rattle.es_values.specs.declared.values.Value.TheVariants.{Function}
use Rattle.es_eval.proofs.DeclaringLemmas.{numbered-more}
use Rattle.es_eval.proofs.NameLemmas.{live_written}
use Rattle.es_eval.proofs.scripts.name_functions.Goals as goal

pub returns-in_err-set-clause-live : goal.returns-in_err-set-clause-live
returns-in_err-set-clause-live c = λ heap live.
    live_written heap c.loop-function.globals c.set.new.self c.function-item.result.name
    (Function c.loop-function.number) c.set.result c.set.ensures.ok c.set.ensures.err
    (c.loop-function.invariant.live heap live) tt

pub loop-function-preserved : goal.loop-function-preserved
loop-function-preserved c = record {
  number = omega arith;
  globals = numbered-more c.args.functions.now c.loop-function.function-index
      c.loop-function.number c.function-item.result c.loop-function.globals c.set.new.self
      c.loop-function-test.true c.function-item.is c.in_ok-set.ensures.ok
      ∙ c.loop-function.invariant.globals;
  live = λ heap live. live_written heap c.loop-function.globals c.set.new.self
      c.function-item.result.name (Function c.loop-function.number) c.set.result
      c.set.ensures.ok c.set.ensures.err (c.loop-function.invariant.live heap live) tt;
}
