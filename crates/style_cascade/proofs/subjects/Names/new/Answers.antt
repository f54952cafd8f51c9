use Rattle.bml_bytes.specs.Codes.{codes}
use Rattle.style_cascade.proofs.subjects.Names.new.Goals as goal

pub invariant_of-result : goal.invariant_of-result
unfolding codes
invariant_of-result c =
    record {
      id_is = c.in_ok-id.ensures {u = tt};
      class_is = c.in_ok-class.ensures {u = tt};
      style_is = c.in_ok-style.ensures {u = tt};
    }
