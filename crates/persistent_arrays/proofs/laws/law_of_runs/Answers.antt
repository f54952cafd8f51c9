use Rattle.persistent_arrays.proofs.OwnLemmas.{own-bytes}
use Rattle.persistent_arrays.proofs.laws.law_of_runs.Goals as goal

pub returns : goal.returns
returns c = own-bytes c.law_of_fields.ensures
