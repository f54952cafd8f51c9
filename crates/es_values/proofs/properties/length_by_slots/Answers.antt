use Rattle.std.proofs.Common.{arith}
use Rattle.es_values.proofs.JoinLemmas.{codes-next, codes-total}
use Rattle.es_values.proofs.properties.length_by_slots.Goals as goal

pub loop-slot-preserved : goal.loop-slot-preserved
loop-slot-preserved c = codes-next c.args.count c.slots-slot-items.result.now c.loop-slot.slot-index c.loop-slot.total c.codes_of_slot.result c.saturating_add-total.result c.slot-item.result c.loop-slot-test.true c.slot-item.is c.codes_of_slot.ensures c.saturating_add-total.ensures c.loop-slot.invariant

pub returns : goal.returns
returns c = codes-total c.law_of_decimals.ensures.number c.args.properties.now c.slots-slot-items.result.now c.args.count c.loop-slot.slot-index c.loop-slot.total (omega arith) c.slots-slot-items.ensures.standing c.requires c.slots-slot-items.ensures.distinct c.loop-slot.invariant
