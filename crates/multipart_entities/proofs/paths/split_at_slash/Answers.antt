use Rattle.multipart_entities.proofs.SplitLemmas.{fields_of-one, fields_of-more}
use Rattle.multipart_entities.proofs.paths.split_at_slash.Goals as goal

pub returns-in_err-place : goal.returns-in_err-place
returns-in_err-place c = rw c.from_residual.ensures (fields_of-one c.args.codes.now c.in_err-place.ensures)

pub returns : goal.returns
returns c = fields_of-more c.args.codes.now c.in_ok-place.place c.in_ok-place.ensures
