use Rattle.persistent_arrays.proofs.OwnLemmas.{read-spelled, spelled-read}
use Rattle.persistent_arrays.proofs.laws.law_of_spelled_fields.Goals as goal

pub returns : goal.returns
returns c = record { read = spelled-read c.law_of_runs.ensures; spelled = read-spelled c.law_of_runs.ensures }
