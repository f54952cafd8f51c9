use Rattle.bml_bytes.specs.Codes.{codes}
use Rattle.event_items.proofs.names.AttributeNames.new.Goals as goal

pub invariant_of-result : goal.invariant_of-result
unfolding codes
invariant_of-result c =
    record {
      kind_is = c.in_ok-kind.ensures {u = tt};
      module_ref_is = c.in_ok-module_ref.ensures {u = tt};
    }
