use Rattle.std.proofs.Common.{◌∙◌, ap, sym}
use Rattle.es_values.proofs.SlotLemmas.{set-absent}
use Rattle.es_values.proofs.property_map.set_place.Goals as goal

pub returns-in_default : goal.returns-in_default
returns-in_default c =
    ap (λ m. m.entries) c.get_mut.follows.holds-at-none
    ∙ set-absent c.args.name.now c.args.place c.args.places.now.entries (sym c.in_default.ensures.value)
