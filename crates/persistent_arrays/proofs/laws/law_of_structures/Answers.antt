use Rattle.persistent_arrays.proofs.SpelledLemmas.{spelled-worked_out}
use Rattle.persistent_arrays.proofs.SpellingLemmas.{spells-once}
use Rattle.persistent_arrays.proofs.laws.law_of_structures.Goals as goal

pub returns : goal.returns
returns c = record { one = spells-once; spelled = spelled-worked_out }
