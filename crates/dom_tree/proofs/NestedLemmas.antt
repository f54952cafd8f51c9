-- The nodes of nested lists, in document order, are a tree.
use Rattle.std.proofs.Common.{◌≡◌, ℕ, zero, suc, ◌+◌, ◌<◌, ◌≤◌, List, [], ◌∷◌, ◌++◌, length, Option, Some, None, refl, sym, ◌∙◌, ap, subst, arith, length-append, append_assoc, lit≤}
use Rattle.std.specs.Prelude.{option_and_then, Contains, IsSome}
use Rattle.std.specs.Option.{option_map_or}
use Rattle.std.proofs.lemmas.List.{append-nil}
use Rattle.dom_tree.specs.Items.{Item, Attribute, Content, tag_in, parent_of, IsElement}
use Rattle.dom_tree.specs.Items.Content.{Element, Text}
use Rattle.dom_tree.specs.Walks.{path_within, path_of, most_nodes, IsOpen, IsTree}
use Rattle.dom_tree.specs.Nested.{Nested, node_count, items_from, items_of}
use Rattle.dom_tree.specs.Nested.Nested.{NoNodes, ElementNode, TextNode}
use Rattle.dom_tree.proofs.PlaceLemmas.{slice_get-append, slice_get-append-last}
use Rattle.dom_tree.proofs.PathLemmas.{Falls, Falls-tree, Contains-behind, path_of-first, IsOpen-path}
use Rattle.dom_tree.proofs.GrowLemmas.{grown, IsTree-grown, Extends-grown, path_of-grown, path_of-grown-new, IsElement-grown}
use Rattle.dom_tree.proofs.KeptLemmas.{IsElement-within}

pub length-items_from : (parent : Option ℕ) (number : ℕ) (nested : Nested) → length (items_from parent number nested) ≡ node_count nested
length-items_from parent number NoNodes = refl
length-items_from parent number (ElementNode tag attributes children following) =
    omega (arith, length-append (items_from (Some number) (number + 1) children) (items_from parent (number + 1 + node_count children) following), length-items_from (Some number) (number + 1) children, length-items_from parent (number + 1 + node_count children) following)
length-items_from parent number (TextNode text following) = omega (arith, length-items_from parent (number + 1) following)

-- more nodes behind a tree leave its paths and tags
parent_of-append : (items more : List Item) (n : ℕ) → n < length items → parent_of (items ++ more) n ≡ parent_of items n
parent_of-append items more n h = ap (λ o. option_and_then (λ i. i.parent) o) (slice_get-append items more n h)

IsElement-append : (items more : List Item) (n : ℕ) → IsElement items n → IsElement (items ++ more) n
IsElement-append items more n h = subst (λ o. IsSome (option_and_then (λ i. tag_in i.content) o)) (sym (slice_get-append items more n (IsElement-within items n h))) h

path_within-append-up : (count : ℕ) (items more : List Item) (o : Option ℕ) → ((q : ℕ) → o ≡ Some q → path_within count (items ++ more) q ≡ path_within count items q) → option_map_or (path_within count (items ++ more)) o [] ≡ option_map_or (path_within count items) o []
path_within-append-up count items more None h = refl
path_within-append-up count items more (Some q) h = h q refl

path_within-append : (count : ℕ) (items more : List Item) → Falls items → (n : ℕ) → n < length items → path_within count (items ++ more) n ≡ path_within count items n
path_within-append zero items more f n h = refl
path_within-append (suc count) items more f n h = rw (parent_of-append items more n h) (ap (λ w. n ∷ w) (path_within-append-up count items more (parent_of items n) (λ q e. let low : q < n = f.falls n q e in path_within-append count items more f q (omega arith))))

path_of-append : (items more : List Item) → Falls items → (n : ℕ) → n < length items → path_of (items ++ more) n ≡ path_of items n
path_of-append items more f n h = path_within-append (n + 1) items more f n h

-- a tree to which more was added in one element, whose path stays open
record Grows (front : List Item) (up : ℕ) (result : List Item) : Type 0 where
  tree : IsTree result
  open_still : (q : ℕ) → Contains (path_of front up) q → IsOpen result q

-- with the nodes in hand: a tree, with an open element in which they hang
record Takes (front : List Item) (up : ℕ) (count : ℕ) : Type 0 where
  tree : IsTree front
  element : IsElement front up
  is_open : IsOpen front up
  room : length front + count ≤ most_nodes

grows-text : (front : List Item) (up : ℕ) (content : Content) (result : List Item) → Takes front up 1 → Grows (grown front up content) up result → Grows front up result
grows-text front up content result takes grows =
    let within : up < length front = IsElement-within front up takes.element in
    record { tree = grows.tree; open_still = λ q c. grows.open_still q (subst (λ w. Contains w q) (sym (path_of-grown front up content (Falls-tree front takes.tree) up within)) c) }

takes-next : (front : List Item) (up : ℕ) (content : Content) (count : ℕ) → Takes front up (1 + count) → Takes (grown front up content) up count
takes-next front up content count takes =
    let within : up < length front = IsElement-within front up takes.element in
    let f : Falls front = Falls-tree front takes.tree in
    record {
      tree = IsTree-grown front up content takes.tree within (omega (arith, takes.room)) takes.element takes.is_open;
      element = IsElement-grown front up content up within takes.element;
      is_open = (Extends-grown front up content f within).open_still up (path_of-first front up);
      room = omega (arith, takes.room, length-append front (record { parent = Some up; content = content } ∷ []));
    }

new-element : (front : List Item) (up : ℕ) (tag : List ℕ) (attributes : List Attribute) → IsElement (grown front up (Element tag attributes)) (length front)
new-element front up tag attributes = subst (λ o. IsSome (option_and_then (λ i. tag_in i.content) o)) (sym (slice_get-append-last front (record { parent = Some up; content = Element tag attributes }))) refl

takes-inside : (front : List Item) (up : ℕ) (tag : List ℕ) (attributes : List Attribute) (count behind : ℕ) → Takes front up (1 + count + behind) → Takes (grown front up (Element tag attributes)) (length front) count
takes-inside front up tag attributes count behind takes =
    let within : up < length front = IsElement-within front up takes.element in
    let f : Falls front = Falls-tree front takes.tree in
    let content = Element tag attributes in
    record {
      tree = IsTree-grown front up content takes.tree within (omega (arith, takes.room)) takes.element takes.is_open;
      element = new-element front up tag attributes;
      is_open = (Extends-grown front up content f within).opened;
      room = omega (arith, takes.room, length-append front (record { parent = Some up; content = content } ∷ []));
    }

-- once the children stand, the element around is open still
takes-behind : (front : List Item) (up : ℕ) (tag : List ℕ) (attributes : List Attribute) (inside : List Item) (count behind : ℕ) → Takes front up (1 + count + behind) → length inside ≡ count → Grows (grown front up (Element tag attributes)) (length front) (grown front up (Element tag attributes) ++ inside) → Takes (grown front up (Element tag attributes) ++ inside) up behind
takes-behind front up tag attributes inside count behind takes long grows =
    let within : up < length front = IsElement-within front up takes.element in
    let f : Falls front = Falls-tree front takes.tree in
    let content = Element tag attributes in
    record {
      tree = grows.tree;
      element = IsElement-append (grown front up content) inside up (IsElement-grown front up content up within takes.element);
      is_open = grows.open_still up (subst (λ w. Contains w up) (sym (path_of-grown-new front up content f within)) (Contains-behind (length front) (path_of front up) up (path_of-first front up)));
      room = omega (arith, takes.room, long, length-append (grown front up content) inside, length-append front (record { parent = Some up; content = content } ∷ []));
    }

grows-element : (front : List Item) (up : ℕ) (tag : List ℕ) (attributes : List Attribute) (inside result : List Item) → Takes front up 1 → IsTree (grown front up (Element tag attributes)) → Grows (grown front up (Element tag attributes) ++ inside) up result → Grows front up result
grows-element front up tag attributes inside result takes tree grows =
    let within : up < length front = IsElement-within front up takes.element in
    let content = Element tag attributes in
    let more : up < length (grown front up content) = omega (arith, within, length-append front (record { parent = Some up; content = content } ∷ [])) in
    let path : path_of (grown front up content ++ inside) up ≡ path_of front up = path_of-append (grown front up content) inside (Falls-tree (grown front up content) tree) up more ∙ path_of-grown front up content (Falls-tree front takes.tree) up within in
    record { tree = grows.tree; open_still = λ q c. grows.open_still q (subst (λ w. Contains w q) (sym path) c) }

takes-fewer : (front : List Item) (up a b : ℕ) → a ≤ b → Takes front up b → Takes front up a
takes-fewer front up a b h takes = record { tree = takes.tree; element = takes.element; is_open = takes.is_open; room = omega (arith, h, takes.room) }

number-behind : (front : List Item) (up : ℕ) (content : Content) → length (grown front up content) ≡ length front + 1
number-behind front up content = length-append front (record { parent = Some up; content = content } ∷ [])

-- nested nodes, added one after another
grows-nested : (nested : Nested) (front : List Item) (up number : ℕ) → number ≡ length front → Takes front up (node_count nested) → Grows front up (front ++ items_from (Some up) number nested)
grows-nested NoNodes front up number e takes =
    subst (Grows front up) (sym (append-nil front)) (record { tree = takes.tree; open_still = λ q c. IsOpen-path front (Falls-tree front takes.tree) up q takes.is_open c })
grows-nested (TextNode text following) front up number e takes =
    let content = Text text in
    let next : number + 1 ≡ length (grown front up content) = omega (arith, e, number-behind front up content) in
    subst (Grows front up) (append_assoc front (record { parent = Some up; content = content } ∷ []) (items_from (Some up) (number + 1) following))
    (grows-text front up content _ (takes-fewer front up 1 _ (omega arith) takes)
    (grows-nested following (grown front up content) up (number + 1) next (takes-next front up content (node_count following) takes)))
grows-nested (ElementNode tag attributes children following) front up number e takes =
    let content = Element tag attributes in
    let x : Item = record { parent = Some up; content = content } in
    let inside = items_from (Some number) (number + 1) children in
    let behind = items_from (Some up) (number + 1 + node_count children) following in
    let all = grown front up content in
    let long : length inside ≡ node_count children = length-items_from (Some number) (number + 1) children in
    let next : number + 1 ≡ length all = omega (arith, e, number-behind front up content) in
    let last : number + 1 + node_count children ≡ length (all ++ inside) = omega (arith, next, long, length-append all inside) in
    let children_takes = takes-inside front up tag attributes (node_count children) (node_count following) takes in
    let children_grow : Grows all (length front) (all ++ inside) =
    subst (λ k. Grows all (length front) (all ++ items_from (Some k) (number + 1) children)) (sym e) (grows-nested children all (length front) (number + 1) next children_takes) in
    let whole : Grows (all ++ inside) up ((all ++ inside) ++ behind) = grows-nested following (all ++ inside) up (number + 1 + node_count children) last (takes-behind front up tag attributes inside (node_count children) (node_count following) takes long children_grow) in
    subst (Grows front up) (append_assoc all inside behind ∙ append_assoc front (x ∷ []) (inside ++ behind))
    (grows-element front up tag attributes inside ((all ++ inside) ++ behind) (takes-fewer front up 1 (1 + node_count children + node_count following) (omega arith) takes) children_takes.tree whole)

root-alone : (tag : List ℕ) (attributes : List Attribute) → IsTree (record { parent = None; content = Element tag attributes } ∷ [])
root-alone tag attributes = record { root = (refl, refl); others = λ n low high. absurd (omega (arith, low, high)); count = lit≤ tt }

pub IsTree-nested : (tag : List ℕ) (attributes : List Attribute) (children : Nested) → node_count (ElementNode tag attributes children NoNodes) ≤ most_nodes → IsTree (items_of (ElementNode tag attributes children NoNodes))
IsTree-nested tag attributes children room =
    let root : List Item = record { parent = None; content = Element tag attributes } ∷ [] in
    let grows : Grows root 0 (root ++ items_from (Some 0) 1 children) = grows-nested children root 0 1 refl (record { tree = root-alone tag attributes; element = refl; is_open = path_of-first root 0; room = omega (arith, room) }) in
    subst IsTree (ap (λ w. record { parent = None; content = Element tag attributes } ∷ w) (sym (append-nil (items_from (Some 0) 1 children)))) grows.tree
