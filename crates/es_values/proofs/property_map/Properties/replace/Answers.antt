use Rattle.std.proofs.Common.{◌∙◌, ap, subst, sym}
use Rattle.std.specs.Map.{lookup, set_value}
use Rattle.bml_bytes.specs.Words.{is_same}
use Rattle.es_values.specs.Slots.{Indexes, standing}
use Rattle.es_values.proofs.IndexLemmas.{kept-replaced}
use Rattle.es_values.proofs.SlotLemmas.{found-none, indexes-replaced, place-within}
use Rattle.es_values.proofs.TurnLemmas.{set-nothing, standing-inserted, standing-set}
use Rattle.es_values.proofs.property_map.Properties.replace.Goals as goal

pub set_slot-requires : goal.set_slot-requires
set_slot-requires c = place-within c.args.name c.self.inside.slots.items c.in-Some.place.now (sym (c.self.invariant.0.found c.args.name) ∙ sym c.in-Some.ensures.value)

pub invariant_of-self : goal.invariant_of-self
invariant_of-self c =
    let slots = c.self.inside.slots.items in
    let here = sym (c.self.invariant.0.found c.args.name) ∙ sym c.in-Some.ensures.value in
    let step = standing-inserted c.args.name c.args.value slots c.in-Some.place.now here in (
      subst (Indexes c.self.inside.places.entries) (sym c.set_slot.ensures) (indexes-replaced c.self.inside.places.entries slots c.args.name c.args.value c.in-Some.place.now c.self.invariant.0 (sym c.in-Some.ensures.value)),
      kept-replaced c.self.inside.indices (standing slots) (standing c.set_slot.new.slots.items) c.args.name c.args.value (ap standing c.set_slot.ensures ∙ step.0) step.1 c.self.invariant.1,
    )

pub returns-in-Some : goal.returns-in-Some
returns-in-Some c =
    let here = sym (c.self.invariant.0.found c.args.name) ∙ sym c.in-Some.ensures.value in
    ap standing c.set_slot.ensures
    ∙ (standing-set c.args.name c.args.value c.self.inside.slots.items c.in-Some.place.now here
    ∙ ap (λ es. set_value (is_same c.args.name) es c.args.value) c.self.view_is)

pub returns-in_default : goal.returns-in_default
returns-in_default c =
    let absent = found-none c.args.name c.self.inside.slots.items (sym (c.self.invariant.0.found c.args.name) ∙ sym c.in_default.ensures.value) in
    set-nothing c.args.name c.args.value c.args.self.now (ap (lookup (is_same c.args.name)) (sym c.self.view_is) ∙ absent)
