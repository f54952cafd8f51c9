use Rattle.std.proofs.Common.{◌∙◌, ℕ, List, ap, arith, sym}
use Rattle.indexmap.specs.IndexMap.{insert_entry}
use Rattle.bml_bytes.specs.Words.{is_same}
use Rattle.es_values.specs.declared.values.Value.{Value}
use Rattle.es_values.specs.Slots.{standing}
use Rattle.es_values.proofs.SlotLemmas.{insert_all-last}
use Rattle.es_values.proofs.property_map.put_properties.Goals as goal

pub loop-property-preserved : goal.loop-property-preserved
loop-property-preserved c = record {
  indexed = c.put_property.ensures.indexed;
  done =
      c.put_property.ensures.standing
      ∙ (ap (λ (es : List (List ℕ × Value)). insert_entry is_same es c.in-Some.property.0 c.in-Some.property.1) c.loop-property.invariant.done
      ∙ sym (insert_all-last (standing c.args.slots.now.items) c.loop-property.yielded c.in-Some.property));
  kept = λ first. c.put_property.ensures.kept (c.loop-property.invariant.kept first);
  places = omega (arith, c.put_property.ensures.places, c.in-Some.ensures.steps);
  slots = omega (arith, c.put_property.ensures.slots, c.put_property.ensures.capacity, c.in-Some.ensures.steps);
}
