use Rattle.std.proofs.Common.{◌∙◌, ℕ, List, ap, arith, subst, sym}
use Rattle.std.specs.Prelude.{Option, is_some}
use Rattle.std.specs.BTreeSet.{BTreeSet}
use Rattle.std.specs.Map.{lookup, remove_entry}
use Rattle.bml_bytes.specs.Words.{is_same}
use Rattle.es_values.specs.declared.values.Value.{Value}
use Rattle.es_values.specs.Slots.{standing}
use Rattle.es_values.specs.devices.Indices.{AreKept, indices_of}
use Rattle.es_values.proofs.SlotLemmas.{found-none, indexes-cleared, place-standing, place-within, removed-absent, standing-cleared}
use Rattle.es_values.proofs.property_map.Properties.remove.Goals as goal

pub index_mut-requires : goal.index_mut-requires
index_mut-requires c =
    let within = place-within c.args.name.now c.self.inside.slots.items c.in-Some.place (sym (c.self.invariant.0.found c.args.name.now) ∙ sym c.in-Some.ensures.value) in
    omega arith

pub invariant_of-self : goal.invariant_of-self
invariant_of-self c =
    let slots = c.self.inside.slots.items in
    let name = c.args.name.now in
    let here = sym (c.self.invariant.0.found name) ∙ sym c.in-Some.ensures.value in
    let taken = subst (λ (kept : Option (BTreeSet ℕ)). AreKept kept (indices_of (standing slots))) (sym c.take.ensures.value) c.self.invariant.1 in (
      indexes-cleared c.self.inside.places.entries c.swap_remove.new.self.entries slots name c.in-Some.place c.self.invariant.0 (sym c.in-Some.ensures.value) c.in-Some.ensures.updates.0,
      subst (λ (es : List (List ℕ × Value)). AreKept c.without_name.result (indices_of es)) (sym (standing-cleared name slots c.in-Some.place here))
          (c.without_name.ensures (standing slots) taken (sym (place-standing name slots) ∙ ap is_some here)),
    )

pub returns-in-Some-clause-there : goal.returns-in-Some-clause-there
returns-in-Some-clause-there c =
    let name = c.args.name.now in
    ap is_some (c.in-Some.ensures.value ∙ c.self.invariant.0.found name)
    ∙ (place-standing name c.self.inside.slots.items ∙ ap (λ es. is_some (lookup (is_same name) es)) c.self.view_is)

pub returns-in-Some-clause-without : goal.returns-in-Some-clause-without
returns-in-Some-clause-without c =
    let name = c.args.name.now in
    c.close_up.ensures
    ∙ (standing-cleared name c.self.inside.slots.items c.in-Some.place (sym (c.self.invariant.0.found name) ∙ sym c.in-Some.ensures.value)
    ∙ ap (remove_entry (is_same name)) c.self.view_is)

pub returns-in-None-clause-there : goal.returns-in-None-clause-there
returns-in-None-clause-there c =
    let name = c.args.name.now in
    ap is_some (c.in-None.ensures.value ∙ c.self.invariant.0.found name)
    ∙ (place-standing name c.self.inside.slots.items ∙ ap (λ es. is_some (lookup (is_same name) es)) c.self.view_is)

pub returns-in-None-clause-without : goal.returns-in-None-clause-without
returns-in-None-clause-without c =
    let name = c.args.name.now in
    let absent = found-none name c.self.inside.slots.items (sym (c.self.invariant.0.found name) ∙ sym c.in-None.ensures.value) in
    c.self.view_is ∙ sym (removed-absent name c.args.self.now (ap (lookup (is_same name)) (sym c.self.view_is) ∙ absent))
