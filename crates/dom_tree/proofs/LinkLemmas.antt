-- What a node's links say.
use Rattle.std.proofs.Common.{◌≡◌, ℕ, ◌<◌, List, length, Some, ◌∙◌, ap, arith}
use Rattle.std.specs.Prelude.{Option, None, slice_get, option_map, option_and_then, IfSome}
use Rattle.std.proofs.lemmas.List.{length-map}
use Rattle.std.proofs.lemmas.Option.{slice_get-map, slice_get_within}
use Rattle.dom_tree.specs.Items.{Item, parent_of}
use Rattle.dom_tree.specs.Walks.{IsOpen, IsTree}
use Rattle.dom_tree.specs.NodeNumbers.{number_of}
use Rattle.dom_tree.specs.Links.{LeadsTo, AreLinked, links_of, links_in, links_at, item_of, items_in}
use Rattle.dom_tree.specs.declared.nodes.Node.{Node}
use Rattle.dom_tree.specs.declared.node_ids.NodeId.{NodeId}
use Rattle.dom_tree.proofs.PathLemmas.{IsOpen-up}

pub LeadsTo-at : (nodes : List Node) (n : ℕ) (node : Node) → AreLinked (items_in nodes) (links_in nodes) → slice_get nodes n ≡ Some node → LeadsTo (items_in nodes) n node
LeadsTo-at nodes n node linked got =
    let within : n < length nodes = slice_get_within nodes n node got in
    let inside : n < length (items_in nodes) = omega (arith, within, length-map nodes item_of) in
    let read : slice_get (links_in nodes) n ≡ Some (links_of node) = slice_get-map links_of nodes n ∙ ap (option_map links_of) got in
    let same : links_of node ≡ links_at (items_in nodes) n = cc (read, linked.each n inside) in
    record {
      first_child = ap (λ l. l.first_child) same;
      last_child = ap (λ l. l.last_child) same;
      next_sibling = ap (λ l. l.next_sibling) same;
      previous_sibling = ap (λ l. l.previous_sibling) same;
    }

-- a node's number is below the number of nodes
pub within-nodes : (nodes : List Node) (items : List Item) (n : ℕ) → items_in nodes ≡ items → n < length items → n < length nodes
within-nodes nodes items n e h = omega (arith, h, length-map nodes item_of, ap length e)

-- with a node, what it hangs in is open
pub IsOpen-parent : (items : List Item) (n : ℕ) (up : Option NodeId) → IsTree items → parent_of items n ≡ number_of up → IsOpen items n → IfSome up (λ u. IsOpen items u.0)
IsOpen-parent items n None tree e h = tt
IsOpen-parent items n (Some u) tree e h = IsOpen-up items tree n u.0 e h

-- the parent that an item tells
pub parent_of-item : (items : List Item) (n : ℕ) (item : Item) → slice_get items n ≡ Some item → parent_of items n ≡ item.parent
parent_of-item items n item e = ap (λ o. option_and_then (λ i. i.parent) o) e
