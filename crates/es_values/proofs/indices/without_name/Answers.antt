use Rattle.std.proofs.Common.{◌∙◌, sym}
use Rattle.std.specs.Map.{remove_entry}
use Rattle.bml_bytes.specs.Words.{is_same}
use Rattle.es_values.specs.devices.Indices.{indices_of}
use Rattle.es_values.proofs.IndexLemmas.{without-element, without-other}
use Rattle.es_values.proofs.indices.without_name.Goals as goal

pub returns-in-Some : goal.returns-in-Some
returns-in-Some c properties are there =
    c.without_index.ensures (indices_of properties) (indices_of (remove_entry (is_same c.args.name.now) properties)) are
    (without-element properties c.args.name.now c.in-Some.index (sym c.index_of_name.ensures.index ∙ c.in-Some.is) there)

pub returns-in-None : goal.returns-in-None
returns-in-None c properties are there = without-other c.args.kept properties c.args.name.now (sym c.index_of_name.ensures.index ∙ c.in-None.is) there are
