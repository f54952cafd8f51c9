use Rattle.std.proofs.Common.{◌∙◌, ap, sym, ◌+◌}
use Rattle.std.proofs.lemmas.List.{length_push}
use Rattle.es_values.proofs.ArrayLemmas.{elements-next_put}
use Rattle.es_values.proofs.objects.Object.put_elements.Goals as goal

pub loop-element-preserved : goal.loop-element-preserved
loop-element-preserved c = record {
  done = elements-next_put c.args.self.now c.loop-element.self c.put.new.self c.loop-element.yielded c.in-Some.element c.loop-element.place c.in_ok-name.name c.loop-element.invariant.done c.loop-element.invariant.counted c.in_ok-name.ensures c.in_ok-put.ensures.ok;
  counted = ap (λ n. n + 1) c.loop-element.invariant.counted ∙ sym (length_push c.loop-element.yielded c.in-Some.element);
}
