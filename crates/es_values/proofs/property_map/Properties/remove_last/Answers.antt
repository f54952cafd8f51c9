use Rattle.std.proofs.Common.{◌∙◌, ap}
use Rattle.es_values.specs.Heaps.{cut_at}
use Rattle.es_values.proofs.IndexLemmas.{cut-removed}
use Rattle.es_values.proofs.property_map.Properties.remove_last.Goals as goal

pub returns-in-Some : goal.returns-in-Some
returns-in-Some c = ap (cut_at c.args.place) c.remove.ensures.without ∙ cut-removed c.args.place c.in-Some.name c.args.self.now c.in-Some.ensures
