use Rattle.persistent_arrays.proofs.NameLemmas.{named-once, named-worked_out}
use Rattle.persistent_arrays.proofs.laws.law_of_array_names.Goals as goal

pub returns : goal.returns
returns c = record { one = named-once; named = named-worked_out }
