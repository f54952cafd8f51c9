use Rattle.std.proofs.Common.{◌≡◌, List, subst}
use Rattle.dom_tree.specs.Links.{items_in, links_in}
use Rattle.dom_tree.specs.declared.nodes.Node.{Node}
use Rattle.dom_tree.proofs.CopyLemmas.{IsKept-copy}
use Rattle.dom_tree.proofs.trees.Tree.copy.Goals as goal

pub invariant_of-result : goal.invariant_of-result
invariant_of-result c =
    let nodes = c.in_ok-nodes.nodes.items in
    IsKept-copy c.self.inside.nodes.items nodes c.self.inside.ids c.in_ok-ids.ids
    (subst (λ (old : List Node). items_in nodes ≡ items_in old) c.as_slice.ensures.value c.in_ok-nodes.ensures.items)
    (subst (λ (old : List Node). links_in nodes ≡ links_in old) c.as_slice.ensures.value c.in_ok-nodes.ensures.links)
    c.in_ok-ids.ensures c.self.invariant
