use Rattle.std.proofs.Common.{◌<◌, length, rules}
use Rattle.dom_tree.specs.Items.{IsElement}
use Rattle.dom_tree.specs.Walks.{node_of_id}
use Rattle.dom_tree.proofs.NeighbourLemmas.{IfSome-number, node_of_id-element}
use Rattle.dom_tree.proofs.trees.Tree.by_id.Goals as goal

pub returns-clause-element : goal.returns-clause-element
returns-clause-element c = IfSome-number c.copied.result (node_of_id c.args.self.now c.args.id.now) (λ k. (k < length c.args.self.now) × IsElement c.args.self.now k) (search rules) (node_of_id-element c.args.self.now c.args.id.now)
