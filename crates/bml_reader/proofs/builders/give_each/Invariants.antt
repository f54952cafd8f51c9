use Rattle.std.proofs.Common.{◌≡◌, ◌≤◌, ◌-◌, length, take}
use Rattle.dom_tree.specs.Items.{changed_at}
use Rattle.dom_tree.specs.Walks.{KeepsPlaces}
use Rattle.bml_reader.specs.devices.AttributeViews.{attributes_in_map}
use Rattle.bml_reader.specs.devices.BuilderViews.{with_attributes}
use Rattle.bml_reader.proofs.builders.give_each.Given as goal

abbrev pub invariant-places : goal.invariant-places
invariant-places l = (l.tree ≡ changed_at (with_attributes (take l.place (attributes_in_map l.attributes))) l.node.0 l.fn.tree) × KeepsPlaces l.fn.tree l.tree × (l.place ≤ length (attributes_in_map l.attributes))

abbrev pub decreases-places : goal.decreases-places
decreases-places l = length (attributes_in_map l.attributes) - l.place
