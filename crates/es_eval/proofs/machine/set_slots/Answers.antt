use Rattle.std.proofs.Common.{◌+◌, ◌∙◌, ap, sym}
use Rattle.std.proofs.lemmas.List.{length_push}
use Rattle.es_eval.proofs.SlotLemmas.{values_more}
use Rattle.es_eval.proofs.machine.set_slots.Goals as goal

pub loop-value-preserved : goal.loop-value-preserved
loop-value-preserved c = record {
  done = values_more c.args.frames.now c.loop-value.frames c.set_slot.new.self c.loop-value.place
      c.loop-value.yielded c.in-Some.value c.loop-value.invariant.done
      c.loop-value.invariant.counted c.set_slot.ensures.value;
  counted = ap (λ place. place + 1) c.loop-value.invariant.counted
      ∙ sym (length_push c.loop-value.yielded c.in-Some.value);
}
