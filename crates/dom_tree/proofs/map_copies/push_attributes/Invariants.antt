use Rattle.std.proofs.Common.{◌≡◌, take}
use Rattle.dom_tree.proofs.map_copies.push_attributes.Given as goal

abbrev pub invariant-entries : goal.invariant-entries
invariant-entries l = l.copy.entries ≡ take l.place l.attributes.entries
