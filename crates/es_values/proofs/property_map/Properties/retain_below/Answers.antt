use Rattle.std.proofs.Common.{◌∙◌, ℕ, List, ap, subst, sym, rules, false}
use Rattle.std.specs.Prelude.{is_some, not}
use Rattle.std.specs.Map.{lookup}
use Rattle.std.specs.Option.{option_map_or}
use Rattle.std.proofs.lemmas.Fn.{filter_same}
use Rattle.std.proofs.lemmas.Map.Made.{IsDistinct-keys_filter}
use Rattle.indexmap.proofs.CallerLemmas.{filter-RetainsPairs}
use Rattle.bml_bytes.specs.Words.{is_same}
use Rattle.es_values.specs.Heaps.{cut_at}
use Rattle.es_values.specs.Slots.{HaveOwnNames, Indexes, is_element_name, standing}
use Rattle.es_values.specs.devices.Indices.{indices_of}
use Rattle.es_values.proofs.IndexLemmas.{kept-none}
use Rattle.es_values.proofs.SlotLemmas.{names-kept, standing-kept}
use Rattle.es_values.proofs.property_map.Properties.retain_below.Goals as goal

pub renumber-requires-clause-names : goal.renumber-requires-clause-names
renumber-requires-clause-names c name =
    let stays = λ (n : List ℕ). not (is_element_name c.args.place n) in
    let slots = c.self.inside.slots.items in
    let places = filter-RetainsPairs _ (λ e. not (is_element_name c.args.place e.0)) _ (λ k v b w g call. search rules) _ _ c.retain.ensures.filtered in
    let kept = filter_same _ (λ s. option_map_or (λ p. not (is_element_name c.args.place p.0)) s false) _ (λ s b g call. search rules) _ _ c.retain-2.ensures.filtered in
    ap (λ l. is_some (lookup (is_same name) l)) places
    ∙ (names-kept stays c.self.inside.places.entries slots c.self.invariant.0 name
    ∙ ap (λ l. is_some (lookup (is_same name) l)) (sym (ap standing (c.deref.ensures.value ∙ kept) ∙ standing-kept stays slots)))

pub renumber-requires-clause-distinct : goal.renumber-requires-clause-distinct
renumber-requires-clause-distinct c =
    let stays = λ (n : List ℕ). not (is_element_name c.args.place n) in
    let slots = c.self.inside.slots.items in
    let kept = filter_same _ (λ s. option_map_or (λ p. not (is_element_name c.args.place p.0)) s false) _ (λ s b g call. search rules) _ _ c.retain-2.ensures.filtered in
    subst HaveOwnNames (sym (ap standing (c.deref.ensures.value ∙ kept) ∙ standing-kept stays slots))
    (IsDistinct-keys_filter is_same (λ p. stays p.0) (standing slots) c.self.invariant.0.distinct)

pub returns : goal.returns
returns c =
    let stays = λ (n : List ℕ). not (is_element_name c.args.place n) in
    let kept = filter_same _ (λ s. option_map_or (λ p. not (is_element_name c.args.place p.0)) s false) _ (λ s b g call. search rules) _ _ c.retain-2.ensures.filtered in
    ap standing kept ∙ (standing-kept stays c.self.inside.slots.items ∙ ap (cut_at c.args.place) c.self.view_is)

pub invariant_of-self : goal.invariant_of-self
invariant_of-self c = (
  subst (Indexes c.renumber.new.places.entries) c.deref.ensures.value c.renumber.ensures,
  kept-none (indices_of (standing c.retain-2.new.self.items)),
)
