use Rattle.std.proofs.Common.{◌≡◌, List, Some, subst, refl, length, sym, ap, ◌∙◌}
use Rattle.std.specs.Prelude.{slice_get, option_map}
use Rattle.std.proofs.lemmas.Option.{slice_get_read, slice_get-map}
use Rattle.dom_tree.specs.Items.{Item}
use Rattle.dom_tree.specs.Walks.{IsTree}
use Rattle.dom_tree.specs.Links.{LeadsTo, item_of}
use Rattle.dom_tree.proofs.LinkLemmas.{LeadsTo-at, within-nodes}
use Rattle.dom_tree.proofs.NeighbourLemmas.{LeadsInside-tree}
use Rattle.dom_tree.proofs.trees.Tree.at.Goals as goal

got : (c : goal.After-index) → slice_get c.self.inside.nodes.items c.args.node.0 ≡ Some c.index.result.now
got c = slice_get_read c.self.inside.nodes.items (length c.self.inside.nodes.items) c.args.node.0 c.index.result.now refl (within-nodes c.self.inside.nodes.items c.args.self.now c.args.node.0 c.self.view_is c.requires) c.index.ensures

leads : (c : goal.After-index) → LeadsTo c.args.self.now c.args.node.0 c.index.result.now
leads c = subst (λ (items : List Item). LeadsTo items c.args.node.0 c.index.result.now) c.self.view_is (LeadsTo-at c.self.inside.nodes.items c.args.node.0 c.index.result.now c.self.invariant.linked (got c))

tree : (c : goal.After-index) → IsTree c.args.self.now
tree c = subst (λ (items : List Item). IsTree items) c.self.view_is c.self.invariant.tree

item : (c : goal.After-index) → slice_get c.args.self.now c.args.node.0 ≡ Some (item_of c.index.result.now)
item c = ap (λ (items : List Item). slice_get items c.args.node.0) (sym c.self.view_is) ∙ slice_get-map item_of c.self.inside.nodes.items c.args.node.0 ∙ ap (option_map item_of) (got c)

pub returns-clause-links : goal.returns-clause-links
returns-clause-links c = leads c

pub returns-clause-tree : goal.returns-clause-tree
returns-clause-tree c = tree c

pub returns-clause-inside : goal.returns-clause-inside
returns-clause-inside c = LeadsInside-tree c.args.self.now c.args.node.0 c.index.result.now (tree c) (item c) (leads c)
