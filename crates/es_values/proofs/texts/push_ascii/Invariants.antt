use Rattle.std.proofs.Common.{◌≡◌, ◌++◌, length}
use Rattle.es_values.proofs.texts.push_ascii.Given as goal

abbrev pub invariant-bytes : goal.invariant-bytes
invariant-bytes l = l.out.items ++ l.rest ≡ l.initial.out.items ++ l.bytes

abbrev pub decreases-bytes : goal.decreases-bytes
decreases-bytes l = length l.rest
