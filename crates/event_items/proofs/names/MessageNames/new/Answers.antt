use Rattle.bml_bytes.specs.Codes.{codes}
use Rattle.event_items.proofs.names.MessageNames.new.Goals as goal

pub invariant_of-result : goal.invariant_of-result
unfolding codes
invariant_of-result c =
    record {
      component_is = c.in_ok-component.ensures {u = tt};
      group_is = c.in_ok-group.ensures {u = tt};
      id_is = c.in_ok-id.ensures {u = tt};
      version_is = c.in_ok-version.ensures {u = tt};
    }
