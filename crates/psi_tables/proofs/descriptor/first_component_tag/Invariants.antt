use Rattle.std.proofs.Common.{◌≡◌, length}
use Rattle.psi_tables.specs.Descriptor.{component_tag_in}
use Rattle.psi_tables.proofs.descriptor.first_component_tag.Given as goal

abbrev pub invariant-descriptors : goal.invariant-descriptors
invariant-descriptors l = component_tag_in l.fn.descriptors ≡ component_tag_in l.left

abbrev pub decreases-descriptors : goal.decreases-descriptors
decreases-descriptors l = length l.left
