-- A device of the proofs: how the nodes and the path of open elements grow, as far as the limit on
-- nodes lets them be kept.
use Rattle.std.specs.Prelude.{◌≡◌, ℕ, Bool, true, false, List, [], ◌∷◌, ◌++◌, length, map, reverse, Option, Some, None}
use Rattle.dom_tree.specs.Items.{Attribute, Item, IsElement}
use Rattle.dom_tree.specs.Items.Content.{Element, Text}
use Rattle.dom_tree.specs.Walks.{path_of, IsOpen}
use Rattle.dom_tree.specs.declared.node_ids.NodeId.{NodeId}
use Rattle.bml_reader.specs.devices.Machine.{NodesSoFar, few_nodes}

abbrev pub top_of : List ℕ → Option ℕ
top_of [] = None
top_of (n ∷ _) = Some n

abbrev pub path_with : Bool → ℕ → List ℕ → List ℕ
path_with true number path = path
path_with false number path = number ∷ path

-- with one element more, which stays open unless it is empty
abbrev pub nodes_with_element : List ℕ → List Attribute → Bool → NodesSoFar → Option NodesSoFar
nodes_with_element tag attributes is_empty k =
    few_nodes (k.items
    ++ record {
      parent = top_of k.path;
      content = Element tag attributes;
    } ∷ []) (path_with is_empty (length k.items) k.path)

-- with one text more
abbrev pub nodes_with_text : List ℕ → NodesSoFar → Option NodesSoFar
nodes_with_text text k =
    few_nodes (k.items ++ record { parent = top_of k.path; content = Text text } ∷ []) k.path

abbrev pub without_first : List ℕ → List ℕ
without_first [] = []
without_first (_ ∷ path) = path

-- once the innermost open element has ended
abbrev pub nodes_outside : NodesSoFar → NodesSoFar
nodes_outside k = record { items = k.items; path = without_first k.path }

-- the path's elements are open, from the innermost on
abbrev pub AreOpen : List Item → List ℕ → Type 0
AreOpen items [] = Unit {0}
AreOpen items (n ∷ path) =
    (path_of items n ≡ n ∷ path) × IsElement items n × IsOpen items n × AreOpen items path

-- only the root hangs in nothing
abbrev pub IsRootNext : NodesSoFar → Type 0
IsRootNext k = k.path ≡ [] → k.items ≡ []

abbrev pub numbers_in : List NodeId → List ℕ
numbers_in nodes = reverse (map (λ n. n.0) nodes)
