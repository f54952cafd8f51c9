use Rattle.dom_tree.proofs.PathLemmas.{Falls-tree, path_of-step}
use Rattle.dom_tree.proofs.LinkLemmas.{IsOpen-parent, parent_of-item}
use Rattle.dom_tree.specs.Links.{item_of}
use Rattle.dom_tree.proofs.trees.Tree.parent.Goals as goal

pub returns-clause-path : goal.returns-clause-path
returns-clause-path c = path_of-step c.args.self.now (Falls-tree c.args.self.now c.at.ensures.tree) c.args.node.0

pub returns-clause-open : goal.returns-clause-open
returns-clause-open c = IsOpen-parent c.args.self.now c.args.node.0 c.at.result.now.parent c.at.ensures.tree (parent_of-item c.args.self.now c.args.node.0 (item_of c.at.result.now) c.at.ensures.item)
