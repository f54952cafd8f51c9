use Rattle.std.proofs.Common.{◌≡◌, List, length, ◌<◌, sym, ap, subst, ◌∙◌, arith}
use Rattle.std.proofs.lemmas.Grind.{common_steps}
use Rattle.std.proofs.lemmas.List.{length-map}
use Rattle.dom_tree.specs.Items.{Item, IsElement}
use Rattle.dom_tree.specs.Walks.{last, children_of, most_nodes, IsOpen, IsTree, Extends}
use Rattle.dom_tree.specs.NodeNumbers.{number_of}
use Rattle.dom_tree.specs.Links.{item_of, items_in, links_of, content_of}
use Rattle.dom_tree.proofs.PathLemmas.{Falls-tree}
use Rattle.dom_tree.proofs.GrowLemmas.{grown, Extends-grown}
use Rattle.dom_tree.proofs.KeptLemmas.{IsKept-grown, pushed-items, pushed-links, IsElement-within}
use Rattle.dom_tree.proofs.trees.Tree.add.Goals as goal

pub invariant_of-self-2 : goal.invariant_of-self-2
invariant_of-self-2 c =
    let nodes = c.self.inside.nodes.items in
    let up = c.args.parent.0 in
    let content = content_of c.args.kind in
    let element : IsElement (items_in nodes) up = subst (λ (i : List Item). IsElement i up) (sym c.self.view_is) c.requires.element in
    let is_last : number_of c.last_child-previous.result ≡ last (children_of (items_in nodes) up) = subst (λ (i : List Item). number_of c.last_child-previous.result ≡ last (children_of i up)) (sym c.self.view_is) c.last_child-previous.ensures.last in
    let count : c.len.result ≡ length nodes = grind (arith, common_steps) in
    IsKept-grown nodes c.hang_last.new.nodes.items c.self.inside.ids up content c.self.invariant
    (IsElement-within (items_in nodes) up element)
    (subst (λ (i : List Item). length i < most_nodes) (sym c.self.view_is) c.requires.room)
    element
    (subst (λ (i : List Item). IsOpen i up) (sym c.self.view_is) c.requires.open)
    c.requires.plain
    (pushed-items nodes c.push.new.self.items c.hang_last.new.nodes.items c.last.result up content c.hang_last.ensures.items c.in_ok-push.ensures.items (ap item_of c.last.ensures))
    (pushed-links nodes c.push.new.self.items c.hang_last.new.nodes.items c.last.result up c.len.result (number_of c.last_child-previous.result) c.hang_last.ensures.links c.in_ok-push.ensures.items (ap links_of c.last.ensures) (count ∙ sym (length-map nodes item_of)) is_last)

pub returns-clause-extends : goal.returns-clause-extends
returns-clause-extends c =
    let nodes = c.self.inside.nodes.items in
    let up = c.args.parent.0 in
    let content = content_of c.args.kind in
    let items : items_in c.hang_last.new.nodes.items ≡ grown c.args.self.now up content =
    pushed-items nodes c.push.new.self.items c.hang_last.new.nodes.items c.last.result up content c.hang_last.ensures.items c.in_ok-push.ensures.items (ap item_of c.last.ensures)
    ∙ ap (λ (i : List Item). grown i up content) c.self.view_is in
    let tree : IsTree c.args.self.now = subst IsTree c.self.view_is c.self.invariant.tree in
    subst (λ (i : List Item). Extends c.args.self.now i up) (sym items) (Extends-grown c.args.self.now up content (Falls-tree c.args.self.now tree) (IsElement-within c.args.self.now up c.requires.element))
