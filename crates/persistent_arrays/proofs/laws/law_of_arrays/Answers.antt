use Rattle.std.proofs.Common.{refl}
use Rattle.persistent_arrays.proofs.ArrayLemmas.{others, written-size}
use Rattle.persistent_arrays.proofs.laws.law_of_arrays.Goals as goal

pub returns : goal.returns
returns c = record { whole = refl; size = λ area bytes slot long h fits. written-size area bytes slot long h fits; others = λ area bytes slot other long h g fits apart. others area bytes slot long h fits other apart }
