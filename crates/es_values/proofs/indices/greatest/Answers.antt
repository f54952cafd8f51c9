use Rattle.std.proofs.Common.{◌-◌, length, sym}
use Rattle.es_values.proofs.IndexLemmas.{kept-greatest}
use Rattle.es_values.proofs.indices.greatest.Goals as goal

pub returns-in-Some : goal.returns-in-Some
returns-in-Some c = kept-greatest c.args.kept.now c.in_ok-indices.indices.now (length c.in_ok-indices.indices.now.keys - 1) c.in-Some.index.now (sym c.in_ok-indices.ensures.value) c.in-Some.ensures.last
