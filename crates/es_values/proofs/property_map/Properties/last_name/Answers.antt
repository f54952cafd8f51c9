use Rattle.std.proofs.Common.{arith}
use Rattle.es_values.specs.Slots.{standing}
use Rattle.es_values.specs.devices.Indices.{indices_of}
use Rattle.es_values.proofs.IndexLemmas.{indices-small, is_from, kept-name}
use Rattle.es_values.proofs.property_map.Properties.last_name.Goals as goal

pub returns-in-Ok : goal.returns-in-Ok
returns-in-Ok c =
    let properties = standing c.self.inside.slots.items in
    kept-name c.law_of_decimals.ensures.number c.in_ok-index.index c.args.place c.in-Ok.name
    (c.in_ok-index.ensures (indices_of properties) c.self.invariant.1 (is_from 2147483647) (indices-small properties))
    (omega arith) c.in-Ok.ensures
