use Rattle.bml_bytes.specs.Codes.{codes}
use Rattle.document_load.proofs.needs.attribute_names.Goals as goal

pub returns : goal.returns
unfolding codes
returns c = record { of_link = c.in_ok-href.ensures; of_script = c.in_ok-src.ensures }
