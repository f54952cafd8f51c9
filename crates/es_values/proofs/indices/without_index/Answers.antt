use Rattle.es_values.proofs.IndexLemmas.{kept-without}
use Rattle.es_values.proofs.indices.without_index.Goals as goal

pub returns-in-Some : goal.returns-in-Some
returns-in-Some c = kept-without c.args.kept c.in-Some.indices c.remove.new.self c.args.index c.in-Some.is c.remove.ensures.keys
