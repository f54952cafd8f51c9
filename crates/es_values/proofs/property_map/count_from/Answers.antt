use Rattle.std.proofs.Common.{◌∙◌, ap, arith}
use Rattle.std.specs.Prelude.{count_by}
use Rattle.es_values.specs.Heaps.{is_element_from}
use Rattle.es_values.proofs.ListSteps.{count-next, standing-whole}
use Rattle.es_values.proofs.property_map.count_from.Goals as goal

pub loop-slot-preserved : goal.loop-slot-preserved
loop-slot-preserved c = record {
  counted = count-next (is_element_from c.args.place) c.args.slots.now c.loop-slot.slot-index c.loop-slot.count c.counted-count.result c.slot-item.result c.loop-slot-test.true c.slot-item.is c.counted-count.ensures.count c.loop-slot.invariant.counted;
  small = omega (arith, c.counted-count.ensures.small);
}

pub returns : goal.returns
returns c =
    c.loop-slot.invariant.counted
    ∙ ap (count_by (is_element_from c.args.place)) (standing-whole c.args.slots.now c.loop-slot.slot-index (omega arith))
