use Rattle.std.proofs.Common.{◌∙◌, ℕ, List, ap, subst, sym, rules}
use Rattle.std.specs.Prelude.{is_some}
use Rattle.std.proofs.lemmas.List.Elements.{filter_from_retain}
use Rattle.es_values.specs.declared.values.Value.{Value}
use Rattle.es_values.specs.Slots.{HaveOwnNames, Indexes, IsIndexOfNames, standing}
use Rattle.es_values.specs.devices.Indices.{AreKept, indices_of}
use Rattle.es_values.proofs.SlotLemmas.{names-index, standing-full}
use Rattle.es_values.proofs.property_map.Properties.close_up.Goals as goal

pub renumber-requires-clause-names : goal.renumber-requires-clause-names
renumber-requires-clause-names c =
    let slots = c.self.inside.slots.items in
    let kept = filter_from_retain _ (λ s. is_some s) (λ f s b g call. search rules) _ _ _ c.retain.ensures.filtered in
    subst (IsIndexOfNames c.self.inside.places.entries) (sym (ap standing (c.deref.ensures.value ∙ kept) ∙ standing-full slots))
    (names-index c.self.inside.places.entries slots c.self.invariant.0)

pub renumber-requires-clause-distinct : goal.renumber-requires-clause-distinct
renumber-requires-clause-distinct c =
    let kept = filter_from_retain _ (λ s. is_some s) (λ f s b g call. search rules) _ _ _ c.retain.ensures.filtered in
    subst HaveOwnNames (sym (ap standing (c.deref.ensures.value ∙ kept) ∙ standing-full c.self.inside.slots.items)) c.self.invariant.0.distinct

pub returns-then-len : goal.returns-then-len
returns-then-len c =
    let kept = filter_from_retain _ (λ s. is_some s) (λ f s b g call. search rules) _ _ _ c.retain.ensures.filtered in
    ap standing kept ∙ (standing-full c.self.inside.slots.items ∙ c.self.view_is)

pub invariant_of-self : goal.invariant_of-self
invariant_of-self c =
    let slots = c.self.inside.slots.items in
    let kept = filter_from_retain _ (λ s. is_some s) (λ f s b g call. search rules) _ _ _ c.retain.ensures.filtered in (
      subst (Indexes c.renumber.new.places.entries) c.deref.ensures.value c.renumber.ensures,
      subst (λ (es : List (List ℕ × Value)). AreKept c.self.inside.indices (indices_of es)) (sym (ap standing kept ∙ standing-full slots)) c.self.invariant.1,
    )
