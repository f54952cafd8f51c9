use Rattle.std.proofs.Common.{List, ℕ, ap}
use Rattle.persistent_arrays.specs.declared.fields.Field.TheVariants.{Words}
use Rattle.persistent_arrays.proofs.ValueLemmas.{unsigned, signed, negative}
use Rattle.persistent_arrays.proofs.laws.law_of_kept_values.Goals as goal

pub returns : goal.returns
returns c = record { unsigned = unsigned; signed = signed; negative = negative; text = λ text e. ap (λ (t : List ℕ). Words t) e }
