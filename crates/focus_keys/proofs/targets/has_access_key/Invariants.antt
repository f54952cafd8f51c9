use Rattle.std.proofs.Common.{codes}
use Rattle.dom_tree.specs.Items.{attributes_of}
use Rattle.focus_keys.proofs.AttributeLemmas.{LackName}
use Rattle.focus_keys.proofs.targets.has_access_key.Given as goal

abbrev pub invariant-attributes : goal.invariant-attributes
invariant-attributes l = LackName (codes "accesskey") (attributes_of l.tree l.node.0) l.place
