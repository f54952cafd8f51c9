use Rattle.std.proofs.Common.{◌≡◌, length}
use Rattle.table_fields.specs.Descriptors.{first_with}
use Rattle.dsmcc_messages.proofs.descriptor.first_of_tag.Given as goal

abbrev pub invariant-descriptors : goal.invariant-descriptors
invariant-descriptors l = first_with l.tag l.fn.descriptors ≡ first_with l.tag l.left

abbrev pub decreases-descriptors : goal.decreases-descriptors
decreases-descriptors l = length l.left
