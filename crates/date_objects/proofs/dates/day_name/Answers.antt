use Rattle.bml_bytes.specs.Codes.{codes}
use Rattle.date_objects.proofs.dates.day_name.Goals as goal

pub returns : goal.returns
unfolding codes
returns c = c.of_bytes.ensures
