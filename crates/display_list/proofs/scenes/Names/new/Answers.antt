use Rattle.bml_bytes.specs.Codes.{codes}
use Rattle.display_list.proofs.scenes.Names.new.Goals as goal

pub returns : goal.returns
unfolding codes
returns c = record { value = c.in_ok-value.ensures {u = tt}; media_type = c.in_ok-media_type.ensures {u = tt}; data_name = c.in_ok-data_name.ensures {u = tt} }
