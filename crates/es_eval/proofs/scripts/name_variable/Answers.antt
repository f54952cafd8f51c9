use Rattle.es_values.specs.declared.values.Value.TheVariants.{Undefined}
use Rattle.es_eval.proofs.NameLemmas.{live_written}
use Rattle.es_eval.proofs.scripts.name_variable.Goals as goal

pub returns-clause-live : goal.returns-clause-live
returns-clause-live c = λ heap live.
    live_written heap c.args.globals.now c.set.new.self c.args.name.now Undefined c.set.result
    c.set.ensures.ok c.set.ensures.err live tt
