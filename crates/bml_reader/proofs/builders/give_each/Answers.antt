use Rattle.std.proofs.Common.{◌≡◌, List, None, take, ◌∙◌, sym, ap, subst, arith}
use Rattle.std.proofs.lemmas.Option.{slice_get_within}
use Rattle.dom_tree.specs.Items.{Attribute, Item, changed_at, with_last_attribute, value_of}
use Rattle.bml_reader.specs.devices.AttributeViews.{attribute_of_entry, attributes_in_map}
use Rattle.bml_reader.specs.devices.BuilderViews.{with_attributes}
use Rattle.bml_reader.proofs.BuilderLemmas.{none-given, places-same, places-chain, may-be-given, one-more-given, take-one-more}
use Rattle.bml_reader.proofs.builders.give_each.Goals as goal

pub places-init : goal.places-init
places-init c = (sym (none-given c.args.tree.now c.args.node.0), places-same c.args.tree.now, omega arith)

pub add_attribute-requires-clause-absent : goal.add_attribute-requires-clause-absent
add_attribute-requires-clause-absent c =
    let a : Attribute = attribute_of_entry c.in_ok-entry.entry in
    subst (λ (t : List Item). value_of t c.args.node.0 a.name ≡ None) (sym c.places.invariant.0)
    (may-be-given c.args.tree.now c.args.node.0 (attributes_in_map c.args.attributes.now) c.places.place a c.requires.plain c.requires.element c.requires.names c.in_ok-entry.ensures)

pub places-preserved : goal.places-preserved
places-preserved c =
    let a : Attribute = attribute_of_entry c.in_ok-entry.entry in
    let all = attributes_in_map c.args.attributes.now in
    let n = c.args.node.0 in
    let i = c.places.place in (
      c.in_ok-add_attribute.ensures.ok
          ∙ (ap (changed_at (with_last_attribute a.name a.value) n) c.places.invariant.0
          ∙ (one-more-given (take i all) a n c.args.tree.now
          ∙ ap (λ (z : List Attribute). changed_at (with_attributes z) n c.args.tree.now) (sym (take-one-more all i a c.in_ok-entry.ensures)))),
      places-chain c.args.tree.now c.places.tree c.add_attribute.new.self c.places.invariant.1 c.add_attribute.ensures.places,
      omega (arith, slice_get_within all i a c.in_ok-entry.ensures),
    )
