use Rattle.std.proofs.Common.{length, ◌-◌}
use Rattle.es_reader.proofs.FrontLemmas.{SomeAt}
use Rattle.es_reader.proofs.function_fronts.read_parameters.Given as goal

abbrev pub invariant-parameters : goal.invariant-parameters
invariant-parameters l = SomeAt l.tokens l.place (record { names = l.names; behind = l.behind })

abbrev pub decreases-parameters : goal.decreases-parameters
decreases-parameters l = length l.tokens - l.behind
