use Rattle.std.proofs.Common.{◌∙◌, ◌+◌, ap, sym}
use Rattle.std.proofs.lemmas.List.{length_push}
use Rattle.es_values.proofs.SlotLemmas.{placed-next}
use Rattle.es_values.proofs.property_map.named_elements.Goals as goal

pub loop-element-preserved : goal.loop-element-preserved
loop-element-preserved c = record {
  done = placed-next c.loop-element.yielded c.in-Some.element c.loop-element.place c.in_ok-name.name c.loop-element.properties.items c.push.new.self.items c.in_ok-new.field-0 c.loop-element.invariant.done c.loop-element.invariant.counted c.in_ok-name.ensures c.in_ok-new.ensures c.in_ok-push.ensures.items;
  counted = ap (λ n. n + 1) c.loop-element.invariant.counted ∙ sym (length_push c.loop-element.yielded c.in-Some.element);
}
