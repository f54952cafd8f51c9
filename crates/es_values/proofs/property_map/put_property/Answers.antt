use Rattle.std.proofs.Common.{◌∙◌, ◌++◌, ◌∷◌, [], ℕ, List, ap, arith, sym, subst}
use Rattle.std.specs.Prelude.{Option, Some, is_some, if◌then◌else◌, option_to_list, slice_set}
use Rattle.std.specs.Map.{lookup}
use Rattle.indexmap.specs.IndexMap.{insert_entry}
use Rattle.bml_bytes.specs.Words.{is_same}
use Rattle.es_values.specs.declared.values.Value.{Value}
use Rattle.std.specs.BTreeSet.{BTreeSet}
use Rattle.es_values.specs.Heaps.{index_of}
use Rattle.es_values.specs.Slots.{Indexes, standing}
use Rattle.es_values.specs.devices.Indices.{AreKept, indices_of}
use Rattle.es_values.proofs.IndexLemmas.{kept-behind, kept-replaced}
use Rattle.es_values.proofs.SlotLemmas.{found-none, indexes-added, indexes-replaced, on-ok, place-standing, place-within, standing-added, standing-replaced}
use Rattle.es_values.proofs.property_map.put_property.Goals as goal

pub index_mut-requires : goal.index_mut-requires
index_mut-requires c =
    let within = place-within c.property.inside.name c.args.slots.now.items c.in-Some.place.now (sym (c.requires.indexed.found c.property.inside.name) ∙ sym c.in-Some.ensures.value) in
    omega arith

pub returns-in-Some-clause-indexed : goal.returns-in-Some-clause-indexed
returns-in-Some-clause-indexed c =
    let slot = c.property.inside.slot in
    let places = c.args.places.now.entries in
    let k = ap (λ (n : List ℕ). lookup (is_same n) places) (sym c.property.invariant) ∙ sym c.in-Some.ensures.value in
    indexes-replaced places c.args.slots.now.items slot.0 slot.1 c.in-Some.place.now c.requires.indexed k

pub returns-in-Some-clause-standing : goal.returns-in-Some-clause-standing
returns-in-Some-clause-standing c =
    let slot = c.property.inside.slot in
    let places = c.args.places.now.entries in
    let slots = c.args.slots.now.items in
    let k = ap (λ (n : List ℕ). lookup (is_same n) places) (sym c.property.invariant) ∙ sym c.in-Some.ensures.value in
    standing-replaced slot.0 slot.1 slots c.in-Some.place.now (sym (c.requires.indexed.found slot.0) ∙ k)
    ∙ ap (λ (p : List ℕ × Value). insert_entry is_same (standing slots) p.0 p.1) c.property.view_is

pub returns-in-None-clause-indexed : goal.returns-in-None-clause-indexed
returns-in-None-clause-indexed c =
    let slot = c.property.inside.slot in
    let places = c.args.places.now.entries in
    let slots = c.args.slots.now.items in
    let k = ap (λ (n : List ℕ). lookup (is_same n) places) (sym c.property.invariant) ∙ sym c.in-None.ensures.value in
    let placed = on-ok c.insert-placed.result _ (c.insert-placed.ensures.succeeds c.requires.places) c.insert-placed.ensures.entries in
    let pushed = c.push-pushed.ensures.items ∙ ap (λ t. if t then slots ++ Some slot ∷ [] else slots) (c.push-pushed.ensures.succeeds c.requires.slots) in
    subst (Indexes c.insert-placed.new.self.entries) (sym pushed)
    (indexes-added places c.insert-placed.new.self.entries slots slot.0 slot.1 c.len.result c.requires.indexed k
    (placed ∙ ap (λ (n : List ℕ). insert_entry is_same places n c.len.result) c.property.invariant) (omega arith))

pub returns-in-None-clause-standing : goal.returns-in-None-clause-standing
returns-in-None-clause-standing c =
    let slot = c.property.inside.slot in
    let places = c.args.places.now.entries in
    let slots = c.args.slots.now.items in
    let k = ap (λ (n : List ℕ). lookup (is_same n) places) (sym c.property.invariant) ∙ sym c.in-None.ensures.value in
    let pushed = c.push-pushed.ensures.items ∙ ap (λ t. if t then slots ++ Some slot ∷ [] else slots) (c.push-pushed.ensures.succeeds c.requires.slots) in
    ap standing pushed
    ∙ (standing-added slots slot.0 slot.1 (sym (c.requires.indexed.found slot.0) ∙ k)
    ∙ ap (λ (p : List ℕ × Value). insert_entry is_same (standing slots) p.0 p.1) c.property.view_is)

pub returns-in-Some-clause-kept : goal.returns-in-Some-clause-kept
returns-in-Some-clause-kept c first =
    let slot = c.property.inside.slot in
    let places = c.args.places.now.entries in
    let slots = c.args.slots.now.items in
    let k = ap (λ (n : List ℕ). lookup (is_same n) places) (sym c.property.invariant) ∙ sym c.in-Some.ensures.value in
    let here = sym (c.requires.indexed.found slot.0) ∙ k in
    kept-replaced c.args.indices.now (standing slots) (standing (slice_set slots c.in-Some.place.now (Some slot))) slot.0 slot.1
    (standing-replaced slot.0 slot.1 slots c.in-Some.place.now here)
    (sym (place-standing slot.0 slots) ∙ ap is_some here) first

pub returns-in-None-clause-kept : goal.returns-in-None-clause-kept
returns-in-None-clause-kept c first =
    let slot = c.property.inside.slot in
    let places = c.args.places.now.entries in
    let slots = c.args.slots.now.items in
    let k = ap (λ (n : List ℕ). lookup (is_same n) places) (sym c.property.invariant) ∙ sym c.in-None.ensures.value in
    let nowhere = sym (c.requires.indexed.found slot.0) ∙ k in
    let absent = found-none slot.0 slots nowhere in
    let pushed = c.push-pushed.ensures.items ∙ ap (λ t. if t then slots ++ Some slot ∷ [] else slots) (c.push-pushed.ensures.succeeds c.requires.slots) in
    let taken = subst (λ (kept : Option (BTreeSet ℕ)). AreKept kept (indices_of (standing slots))) (sym c.take.ensures.value) first in
    let named = c.with_name.ensures (standing slots) taken (ap (λ (n : List ℕ). lookup (is_same n) (standing slots)) c.property.invariant ∙ absent) in
    kept-behind c.with_name.result (standing slots) (standing c.push-pushed.new.self.items) slot.0 slot.1
    (ap standing pushed ∙ standing-added slots slot.0 slot.1 nowhere) absent
    (subst (λ (n : List ℕ). AreKept c.with_name.result (indices_of (standing slots) ++ option_to_list (index_of n))) c.property.invariant named)
