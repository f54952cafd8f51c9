use Rattle.std.proofs.Common.{◌≡◌, length}
use Rattle.std.specs.Prelude.{is_some}
use Rattle.table_fields.specs.Descriptors.{descriptors_in}
use Rattle.table_fields.proofs.descriptors.Descriptors.of_bytes.Given as goal

abbrev pub invariant-descriptors : goal.invariant-descriptors
invariant-descriptors l = is_some (descriptors_in l.fn.bytes) ≡ is_some (descriptors_in l.rest)

abbrev pub decreases-descriptors : goal.decreases-descriptors
decreases-descriptors l = length l.rest
