use Rattle.std.proofs.Common.{◌≡◌, suc, length}
use Rattle.bml_reader.specs.devices.Lexing.{inner_at}
use Rattle.bml_reader.specs.devices.AttributeViews.{attributes_in_map}
use Rattle.bml_reader.proofs.tags.read_attributes.Given as goal

abbrev pub invariant-attributes : goal.invariant-attributes
invariant-attributes l = inner_at (suc (length l.rest)) (attributes_in_map l.attributes) l.rest ≡ inner_at (suc (length l.bytes)) (attributes_in_map l.initial.attributes) l.bytes

abbrev pub decreases-attributes : goal.decreases-attributes
decreases-attributes l = length l.rest
