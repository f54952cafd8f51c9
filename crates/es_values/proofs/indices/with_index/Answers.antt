use Rattle.es_values.proofs.IndexLemmas.{kept-added}
use Rattle.es_values.proofs.indices.with_index.Goals as goal

pub returns-in-Ok : goal.returns-in-Ok
returns-in-Ok c = kept-added c.args.kept c.in-Some.indices c.insert.new.self c.args.index c.in-Some.is c.in-Ok.ensures.keys
