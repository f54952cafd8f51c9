use Rattle.std.proofs.Common.{arith}
use Rattle.es_values.proofs.IndexLemmas.{long-no_index}
use Rattle.es_values.proofs.texts.index_of_name.Goals as goal

pub returns-then-len-gt-MOST_INDEX_CODES-clause-index : goal.returns-then-len-gt-MOST_INDEX_CODES-clause-index
returns-then-len-gt-MOST_INDEX_CODES-clause-index c = long-no_index c.args.name.now (omega (arith, c.len.ensures))
