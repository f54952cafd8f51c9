use Rattle.std.proofs.Common.{◌∙◌, ap, arith, map, List, ℕ}
use Rattle.es_values.specs.declared.values.Value.{Value}
use Rattle.es_values.proofs.ListSteps.{names-next, standing-whole}
use Rattle.es_values.proofs.properties.names.Goals as goal

pub loop-slot-preserved : goal.loop-slot-preserved
loop-slot-preserved c =
    names-next c.slots-slot-items.result.now c.loop-slot.slot-index c.slot-item.result c.loop-slot.names.items c.push_name.new.names.items c.loop-slot-test.true c.slot-item.is c.in_ok-push_name.ensures c.loop-slot.invariant

pub returns : goal.returns
returns c =
    c.loop-slot.invariant
    ∙ ap (map (λ (p : List ℕ × Value). p.0)) (standing-whole c.slots-slot-items.result.now c.loop-slot.slot-index (omega arith) ∙ c.slots-slot-items.ensures.standing)
