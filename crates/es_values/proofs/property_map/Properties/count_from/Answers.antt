use Rattle.std.proofs.Common.{◌∙◌, ap}
use Rattle.std.specs.Prelude.{count_by}
use Rattle.es_values.specs.Heaps.{is_element_from}
use Rattle.es_values.specs.Slots.{standing}
use Rattle.es_values.specs.devices.Indices.{indices_of}
use Rattle.es_values.proofs.IndexLemmas.{count-indices}
use Rattle.es_values.proofs.property_map.Properties.count_from.Goals as goal

pub returns-in-Some : goal.returns-in-Some
returns-in-Some c =
    let properties = standing c.self.inside.slots.items in
    c.in-Some.ensures (indices_of properties) c.self.invariant.1
    ∙ (count-indices c.args.place properties ∙ ap (count_by (is_element_from c.args.place)) c.self.view_is)
