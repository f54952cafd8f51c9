use Rattle.persistent_arrays.proofs.BitLemmas.{bits_of-weighed}
use Rattle.persistent_arrays.proofs.laws.law_of_shared_bits.Goals as goal

pub returns : goal.returns
returns c = bits_of-weighed
