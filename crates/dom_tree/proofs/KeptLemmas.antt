-- What a tree keeps still stands for a tree, once a node was added or changed.
use Rattle.std.proofs.Common.{◌≡◌, ℕ, ◌<◌, List, [], ◌∷◌, ◌++◌, length, get_or, Option, Some, None, inl, inr, refl, sym, ◌∙◌, ap, subst, arith}
use Rattle.std.specs.Prelude.{Result, Ok, Err, OnOk, IfOk, OnErr, true, false, min, ◌⊎◌, slice_get, slice_set, option_map, option_and_then, unwrap_or, IsSome, IfSome, codes}
use Rattle.std.specs.Option.{option_map_or}
use Rattle.std.specs.Map.{lookup}
use Rattle.indexmap.specs.IndexMap.{get}
use Rattle.std.proofs.lemmas.List.{length-map, map-append}
use Rattle.std.proofs.lemmas.Option.{slice_get-map, slice_get_within, slice_get_read}
use Rattle.std.specs.HashMap.{HashMap}
use Rattle.bml_bytes.specs.Words.{is_same}
use Rattle.dom_tree.specs.Items.{Item, Content, attributes_in, tag_in, text_in, tag_of, text_of, IsElement, IsText, value_in, value_of, has_id, changed_at, with_text, put_text, with_attribute, with_last_attribute}
use Rattle.dom_tree.specs.Items.Content.{Element, Text}
use Rattle.dom_tree.specs.Walks.{last, children_of, node_of_id, most_nodes, IsOpen, IsTree}
use Rattle.dom_tree.specs.NodeNumbers.{number_of}
use Rattle.dom_tree.specs.Links.{Links, content_of, item_of, items_in, links_of, links_in, hung_last, with_last_child, AreLinked, IsIndexOf, IsKept}
use Rattle.dom_tree.specs.declared.nodes.Node.{Node}
use Rattle.dom_tree.specs.declared.nodes.NodeKind.TheVariants.{Text as TextKind}
use Rattle.dom_tree.specs.declared.node_ids.NodeId.{NodeId}
use Rattle.dom_tree.proofs.PlaceLemmas.{slice_get-some, changed_at-alike, map-slice_set-changed_at, map-slice_set-same}
use Rattle.dom_tree.proofs.EntryLemmas.{is_same-true, is_same-refl, is_same-cases, is_same-other, with_value-absent}
use Rattle.dom_tree.proofs.ShapeLemmas.{SameShape, IsTree-same, AreLinked-same, with_text-same, with_attribute-same}
use Rattle.dom_tree.proofs.PathLemmas.{Falls-tree}
use Rattle.dom_tree.proofs.GrowLemmas.{grown, AreLinked-grown, IsTree-grown}
use Rattle.dom_tree.proofs.IdLemmas.{IsIndexOf-same, node_of_id-grown, node_of_id-alike, node_of_id-seen, node_of_id-unseen, has_id-with_text, has_id-with_attribute, has_id-given}

pub IsKept-shape : {S : Type 0} (old new : List Node) (ids ids' : HashMap (List ℕ) NodeId S) → SameShape (items_in old) (items_in new) → links_in new ≡ links_in old → IsIndexOf ids' (items_in new) → IsKept old ids → IsKept new ids'
IsKept-shape old new ids ids' shape links index kept = record {
  tree = IsTree-same (items_in old) (items_in new) shape kept.tree;
  linked = subst (λ l. AreLinked (items_in new) l) (sym links) (AreLinked-same (items_in old) (items_in new) (links_in old) shape kept.linked);
  indexed = index;
}

pub IsKept-grown : {S : Type 0} (old new : List Node) (ids : HashMap (List ℕ) NodeId S) (up : ℕ) (content : Content) → IsKept old ids → up < length (items_in old) → length (items_in old) < most_nodes → IsElement (items_in old) up → IsOpen (items_in old) up → attributes_in content ≡ [] → items_in new ≡ grown (items_in old) up content → links_in new ≡ hung_last (length (items_in old)) up (last (children_of (items_in old) up)) (links_in old ++ record { first_child = None; last_child = None; next_sibling = None; previous_sibling = last (children_of (items_in old) up) } ∷ []) → IsKept new ids
IsKept-grown old new ids up content kept within room element open_up bare items links = record {
  tree = subst IsTree (sym items) (IsTree-grown (items_in old) up content kept.tree within room element open_up);
  linked = subst (λ i. AreLinked i (links_in new)) (sym items) (subst (λ l. AreLinked (grown (items_in old) up content) l) (sym links)
      (AreLinked-grown (items_in old) up content (links_in old) (Falls-tree (items_in old) kept.tree) within (length-map old links_of ∙ sym (length-map old item_of)) kept.linked));
  indexed = subst (λ i. IsIndexOf ids i) (sym items) (IsIndexOf-same ids (items_in old) (grown (items_in old) up content) (λ id. node_of_id-grown (items_in old) up content id bare) kept.indexed);
}

-- A text

put_text-text : (text : List ℕ) (content : Content) → IsSome (text_in content) → Text text ≡ put_text text content
put_text-text text (Element tag attributes) h = absurd (cc h)
put_text-text text (Text _) h = refl

-- what a look-up says of the node itself
pub tag_of-item : (items : List Item) (n : ℕ) (item : Item) → slice_get items n ≡ Some item → tag_of items n ≡ tag_in item.content
tag_of-item items n item e = ap (λ o. option_and_then (λ i. tag_in i.content) o) e

pub text_of-item : (items : List Item) (n : ℕ) (item : Item) → slice_get items n ≡ Some item → text_of items n ≡ text_in item.content
text_of-item items n item e = ap (λ o. option_and_then (λ i. text_in i.content) o) e

pub read-item : (nodes : List Node) (n : ℕ) (node : Node) → slice_get nodes n ≡ Some node → slice_get (items_in nodes) n ≡ Some (item_of node)
read-item nodes n node e = slice_get-map item_of nodes n ∙ ap (option_map item_of) e

some-within : (o : Option Item) (P : Item → Option (List ℕ)) → IsSome (option_and_then P o) → IsSome o
some-within None P h = h
some-within (Some item) P h = refl

within-some : (items : List Item) (n : ℕ) (o : Option Item) → slice_get items n ≡ o → IsSome o → n < length items
within-some items n None e h = absurd (cc h)
within-some items n (Some item) e h = slice_get_within items n item e

pub IsElement-within : (items : List Item) (n : ℕ) → IsElement items n → n < length items
IsElement-within items n h = within-some items n (slice_get items n) refl (some-within (slice_get items n) (λ item. tag_in item.content) h)

pub IsText-within : (items : List Item) (n : ℕ) → IsText items n → n < length items
IsText-within items n h = within-some items n (slice_get items n) refl (some-within (slice_get items n) (λ item. text_in item.content) h)

-- the node with this text
abbrev pub set_text-node : Node → List ℕ → Node
set_text-node node text = record { kind = TextKind text; parent = node.parent; first_child = node.first_child; last_child = node.last_child; next_sibling = node.next_sibling; previous_sibling = node.previous_sibling }

abbrev node_with : Node → Content → Item
node_with node content = record { parent = number_of node.parent; content = content }

pub set_text-items : (nodes : List Node) (n : ℕ) (node : Node) (text : List ℕ) → slice_get nodes n ≡ Some node → IsText (items_in nodes) n → items_in (slice_set nodes n (set_text-node node text)) ≡ changed_at (with_text text) n (items_in nodes)
set_text-items nodes n node text got is_text =
    let here : IsSome (text_in (content_of node.kind)) = subst IsSome (text_of-item (items_in nodes) n (item_of node) (read-item nodes n node got)) is_text in
    map-slice_set-changed_at item_of (with_text text) nodes n node (set_text-node node text) got (ap (node_with node) (put_text-text text (content_of node.kind) here))

pub IsKept-text : {S : Type 0} (nodes : List Node) (ids : HashMap (List ℕ) NodeId S) (n : ℕ) (node : Node) (text : List ℕ) → slice_get nodes n ≡ Some node → IsText (items_in nodes) n → IsKept nodes ids → IsKept (slice_set nodes n (set_text-node node text)) ids
IsKept-text nodes ids n node text got is_text kept =
    let changed = changed_at (with_text text) n (items_in nodes) in
    let items : items_in (slice_set nodes n (set_text-node node text)) ≡ changed = set_text-items nodes n node text got is_text in
    IsKept-shape nodes (slice_set nodes n (set_text-node node text)) ids ids
    (subst (SameShape (items_in nodes)) (sym items) (with_text-same text n (items_in nodes)))
    (map-slice_set-same links_of nodes n node (set_text-node node text) got refl)
    (subst (IsIndexOf ids) (sym items) (IsIndexOf-same ids (items_in nodes) changed (λ id. node_of_id-alike id (with_text text) n (items_in nodes) (λ item. has_id-with_text id text item.parent item.content)) kept.indexed))
    kept

-- Links

unwrap_or-number : (first : Option NodeId) (child : NodeId) → Some (unwrap_or first child).0 ≡ Some (unwrap_or (number_of first) child.0)
unwrap_or-number None child = refl
unwrap_or-number (Some n) child = refl

abbrev links_with : Option ℕ → Links → ℕ → Links
links_with first old child = record { first_child = first; last_child = Some child; next_sibling = old.next_sibling; previous_sibling = old.previous_sibling }

pub give_last_child-links : (nodes : List Node) (n : ℕ) (node : Node) (child : NodeId) → slice_get nodes n ≡ Some node → links_in (slice_set nodes n (record { kind = node.kind; parent = node.parent; first_child = Some (unwrap_or node.first_child child); last_child = Some child; next_sibling = node.next_sibling; previous_sibling = node.previous_sibling })) ≡ changed_at (with_last_child child.0) n (links_in nodes)
give_last_child-links nodes n node child got = map-slice_set-changed_at links_of (with_last_child child.0) nodes n node (record { kind = node.kind; parent = node.parent; first_child = Some (unwrap_or node.first_child child); last_child = Some child; next_sibling = node.next_sibling; previous_sibling = node.previous_sibling }) got
    (ap (λ f. links_with f (links_of node) child.0) (unwrap_or-number node.first_child child))

-- What a call's answer says, turned into another fact

pub OnOk-map : {A F : Type 0} (r : Result A F) (P Q : Type 0) → (P → Q) → OnOk r P → OnOk r Q
OnOk-map (Ok a) P Q f h = f h
OnOk-map (Err e) P Q f h = tt

pub IfOk-map : {A F : Type 0} (r : Result A F) (P Q : A → Type 0) → ((a : A) → P a → Q a) → IfOk r P → IfOk r Q
IfOk-map (Ok a) P Q f h = f a h
IfOk-map (Err e) P Q f h = tt

pub OnErr-map : {A F : Type 0} (r : Result A F) (P Q : Type 0) → (P → Q) → OnErr r P → OnErr r Q
OnErr-map (Ok a) P Q f h = tt
OnErr-map (Err e) P Q f h = f h

-- A node more

pub pushed-items : (old pushed new : List Node) (node : Node) (up : ℕ) (content : Content) → items_in new ≡ items_in pushed → pushed ≡ old ++ node ∷ [] → item_of node ≡ record { parent = Some up; content = content } → items_in new ≡ grown (items_in old) up content
pushed-items old pushed new node up content same push made = same ∙ (ap items_in push ∙ (map-append item_of old (node ∷ []) ∙ ap (λ item. items_in old ++ item ∷ []) made))

pub pushed-links : (old pushed new : List Node) (node : Node) (up n : ℕ) (previous : Option ℕ) → links_in new ≡ hung_last n up previous (links_in pushed) → pushed ≡ old ++ node ∷ [] → links_of node ≡ record { first_child = None; last_child = None; next_sibling = None; previous_sibling = previous } → n ≡ length (items_in old) → previous ≡ last (children_of (items_in old) up) → links_in new ≡ hung_last (length (items_in old)) up (last (children_of (items_in old) up)) (links_in old ++ record { first_child = None; last_child = None; next_sibling = None; previous_sibling = last (children_of (items_in old) up) } ∷ [])
pushed-links old pushed new node up n previous hung push made number is_last =
    let base : links_in pushed ≡ links_in old ++ record { first_child = None; last_child = None; next_sibling = None; previous_sibling = previous } ∷ [] = ap links_in push ∙ (map-append links_of old (node ∷ []) ∙ ap (λ l. links_in old ++ l ∷ []) made) in
    hung ∙ (ap (hung_last n up previous) base ∙ (ap (λ k. hung_last k up previous (links_in old ++ record { first_child = None; last_child = None; next_sibling = None; previous_sibling = previous } ∷ [])) number
    ∙ ap (λ p. hung_last (length (items_in old)) up p (links_in old ++ record { first_child = None; last_child = None; next_sibling = None; previous_sibling = p } ∷ [])) is_last))

-- An attribute

pub value_of-item : (items : List Item) (n : ℕ) (item : Item) (name : List ℕ) → slice_get items n ≡ Some item → value_of items n name ≡ value_in (attributes_in item.content) name
value_of-item items n item name e = ap (λ o. value_in (option_map_or (λ i. attributes_in i.content) o []) name) e

with_attribute-last : (name value : List ℕ) (parent : Option ℕ) (content : Content) → value_in (attributes_in content) name ≡ None → with_attribute name value (record { parent = parent; content = content }) ≡ with_last_attribute name value (record { parent = parent; content = content })
with_attribute-last name value parent (Element tag attributes) h = ap (λ a. record { parent = parent; content = Element tag a }) (with_value-absent attributes name value h)
with_attribute-last name value parent (Text text) h = refl

pub last-attribute : (items : List Item) (n : ℕ) (name value : List ℕ) → IsElement items n → value_of items n name ≡ None → changed_at (with_attribute name value) n items ≡ changed_at (with_last_attribute name value) n items
last-attribute items n name value element absent =
    let here = slice_get-some items n (IsElement-within items n element) in
    changed_at-alike (with_attribute name value) (with_last_attribute name value) n items here.0 here.1
    (with_attribute-last name value here.0.parent here.0.content (sym (value_of-item items n here.0 name here.1) ∙ absent))

pub IsKept-attribute : {S : Type 0} (old new : List Node) (ids : HashMap (List ℕ) NodeId S) (n : ℕ) (name value : List ℕ) → items_in new ≡ changed_at (with_attribute name value) n (items_in old) → links_in new ≡ links_in old → is_same name (codes "id") ≡ false → IsKept old ids → IsKept new ids
IsKept-attribute old new ids n name value items links other kept =
    let changed = changed_at (with_attribute name value) n (items_in old) in
    IsKept-shape old new ids ids
    (subst (SameShape (items_in old)) (sym items) (with_attribute-same name value n (items_in old)))
    links
    (subst (IsIndexOf ids) (sym items) (IsIndexOf-same ids (items_in old) changed (λ id. node_of_id-alike id (with_attribute name value) n (items_in old) (λ item. has_id-with_attribute id name value item.parent item.content other)) kept.indexed))
    kept

has_id-put-by : (id name value : List ℕ) (parent : Option ℕ) (content : Content) → IsSome (tag_in content) → is_same name (codes "id") ≡ true → has_id id (with_attribute name value (record { parent = parent; content = content })) ≡ is_same id value
has_id-put-by id name value parent (Element tag attributes) h is_id = has_id-given id name value parent tag attributes is_id
has_id-put-by id name value parent (Text text) h is_id = absurd (cc h)

-- an element's new id, and another text
has_id-put : (items : List Item) (n : ℕ) (item : Item) (id name value : List ℕ) → slice_get items n ≡ Some item → IsElement items n → is_same name (codes "id") ≡ true → has_id id (with_attribute name value item) ≡ is_same id value
has_id-put items n item id name value got element is_id = has_id-put-by id name value item.parent item.content (subst IsSome (tag_of-item items n item got) element) is_id

-- the id that an element had
has_id-had : (items : List Item) (n : ℕ) (item : Item) (id name : List ℕ) (had : Option (List ℕ)) → slice_get items n ≡ Some item → is_same name (codes "id") ≡ true → had ≡ value_of items n name → has_id id item ≡ option_map_or (is_same id) had false
has_id-had items n item id name had got is_id e =
    let same : name ≡ codes "id" = is_same-true name (codes "id") is_id in
    ap (λ w. option_map_or (is_same id) (value_in (attributes_in item.content) w) false) (sym same)
    ∙ ap (λ o. option_map_or (is_same id) o false) (sym (e ∙ value_of-item items n item name got))

IsIndexOf-more : {S : Type 0} (old : List Node) (ids room more : HashMap (List ℕ) NodeId S) (n : ℕ) (name value : List ℕ) → IsElement (items_in old) n → value_of (items_in old) n name ≡ None → is_same name (codes "id") ≡ true → room.entries ≡ ids.entries → number_of (get is_same more value) ≡ Some (option_map_or (min n) (number_of (get is_same room value)) n) → ((other : List ℕ) → is_same value other ≡ false → get is_same more other ≡ get is_same room other) → IsKept old ids → (id : List ℕ) → (value ≡ id) ⊎ (is_same value id ≡ false) → number_of (get is_same more id) ≡ node_of_id (changed_at (with_attribute name value) n (items_in old)) id
IsIndexOf-more old ids room more n name value element absent is_id entries here others kept id (inl e) =
    let i = items_in old in
    let at_node = slice_get-some i n (IsElement-within i n element) in
    let before : number_of (get is_same room value) ≡ node_of_id i value = ap (λ es. number_of (lookup (is_same value) es)) entries ∙ kept.indexed value in
    let seen : node_of_id (changed_at (with_attribute name value) n i) value ≡ Some (option_map_or (min n) (node_of_id i value) n) = node_of_id-seen value (with_attribute name value) n i at_node.0 at_node.1
    (has_id-had i n at_node.0 value name None at_node.1 is_id (sym absent))
    (has_id-put i n at_node.0 value name value at_node.1 element is_id ∙ is_same-refl value) in
    subst (λ q. number_of (get is_same more q) ≡ node_of_id (changed_at (with_attribute name value) n i) q) e
    (here ∙ (ap (λ o. Some (option_map_or (min n) o n)) before ∙ sym seen))
IsIndexOf-more old ids room more n name value element absent is_id entries here others kept id (inr apart) =
    let i = items_in old in
    let at_node = slice_get-some i n (IsElement-within i n element) in
    let before : number_of (get is_same room id) ≡ node_of_id i id = ap (λ es. number_of (lookup (is_same id) es)) entries ∙ kept.indexed id in
    let unseen : node_of_id (changed_at (with_attribute name value) n i) id ≡ node_of_id i id = node_of_id-unseen id (with_attribute name value) n i at_node.0 at_node.1
    ((has_id-put i n at_node.0 id name value at_node.1 element is_id ∙ is_same-other value id apart) ∙ sym (has_id-had i n at_node.0 id name None at_node.1 is_id (sym absent))) in
    ap number_of (others id apart) ∙ (before ∙ sym unseen)

pub IsKept-id-more : {S : Type 0} (old new : List Node) (ids room more : HashMap (List ℕ) NodeId S) (n : ℕ) (name value : List ℕ) → IsElement (items_in old) n → value_of (items_in old) n name ≡ None → items_in new ≡ changed_at (with_attribute name value) n (items_in old) → links_in new ≡ links_in old → is_same name (codes "id") ≡ true → room.entries ≡ ids.entries → number_of (get is_same more value) ≡ Some (option_map_or (min n) (number_of (get is_same room value)) n) → ((other : List ℕ) → is_same value other ≡ false → get is_same more other ≡ get is_same room other) → IsKept old ids → IsKept new more
IsKept-id-more old new ids room more n name value element absent items links is_id entries here others kept =
    IsKept-shape old new ids more
    (subst (SameShape (items_in old)) (sym items) (with_attribute-same name value n (items_in old)))
    links
    (subst (IsIndexOf more) (sym items) (λ id. IsIndexOf-more old ids room more n name value element absent is_id entries here others kept id (is_same-cases value id)))
    kept

before-index : {S : Type 0} (old : List Node) (ids room : HashMap (List ℕ) NodeId S) → room.entries ≡ ids.entries → IsKept old ids → (id : List ℕ) → number_of (get is_same room id) ≡ node_of_id (items_in old) id
before-index old ids room entries kept id = ap (λ es. number_of (lookup (is_same id) es)) entries ∙ kept.indexed id

-- an id that the element neither had nor gets
unseen-id : (items : List Item) (n : ℕ) (name value : List ℕ) (had : Option (List ℕ)) → IsElement items n → had ≡ value_of items n name → is_same name (codes "id") ≡ true → (id : List ℕ) → is_same id value ≡ false → option_map_or (is_same id) had false ≡ false → node_of_id (changed_at (with_attribute name value) n items) id ≡ node_of_id items id
unseen-id items n name value had element is_had is_id id apart old =
    let here = slice_get-some items n (IsElement-within items n element) in
    node_of_id-unseen id (with_attribute name value) n items here.0 here.1
    ((has_id-put items n here.0 id name value here.1 element is_id ∙ apart) ∙ sym (has_id-had items n here.0 id name had here.1 is_id is_had ∙ old))

IsIndexOf-first-by : {S : Type 0} (old : List Node) (ids room first : HashMap (List ℕ) NodeId S) (n : ℕ) (name value o : List ℕ) → IsElement (items_in old) n → Some o ≡ value_of (items_in old) n name → is_same name (codes "id") ≡ true → room.entries ≡ ids.entries → number_of (get is_same first o) ≡ node_of_id (changed_at (with_attribute name value) n (items_in old)) o → ((other : List ℕ) → is_same o other ≡ false → get is_same first other ≡ get is_same room other) → IsKept old ids → (id : List ℕ) → is_same id value ≡ false → (o ≡ id) ⊎ (is_same o id ≡ false) → number_of (get is_same first id) ≡ node_of_id (changed_at (with_attribute name value) n (items_in old)) id
IsIndexOf-first-by old ids room first n name value o element is_had is_id entries here others kept id apart (inl e) =
    subst (λ q. number_of (get is_same first q) ≡ node_of_id (changed_at (with_attribute name value) n (items_in old)) q) e here
IsIndexOf-first-by old ids room first n name value o element is_had is_id entries here others kept id apart (inr other) =
    ap number_of (others id other) ∙ (before-index old ids room entries kept id ∙ sym (unseen-id (items_in old) n name value (Some o) element is_had is_id id apart (is_same-other o id other)))

IsIndexOf-first : {S : Type 0} (old : List Node) (ids room first : HashMap (List ℕ) NodeId S) (n : ℕ) (name value : List ℕ) (had : Option (List ℕ)) → IsElement (items_in old) n → had ≡ value_of (items_in old) n name → is_same name (codes "id") ≡ true → room.entries ≡ ids.entries → IfSome had (λ id. number_of (get is_same first id) ≡ node_of_id (changed_at (with_attribute name value) n (items_in old)) id) → ((other : List ℕ) → IfSome had (λ id. is_same id other ≡ false) → get is_same first other ≡ get is_same room other) → IsKept old ids → (id : List ℕ) → is_same id value ≡ false → number_of (get is_same first id) ≡ node_of_id (changed_at (with_attribute name value) n (items_in old)) id
IsIndexOf-first old ids room first n name value None element is_had is_id entries here others kept id apart =
    ap number_of (others id tt) ∙ (before-index old ids room entries kept id ∙ sym (unseen-id (items_in old) n name value None element is_had is_id id apart refl))
IsIndexOf-first old ids room first n name value (Some o) element is_had is_id entries here others kept id apart =
    IsIndexOf-first-by old ids room first n name value o element is_had is_id entries here others kept id apart (is_same-cases o id)

IsIndexOf-second : {S : Type 0} (old : List Node) (ids room first second : HashMap (List ℕ) NodeId S) (n : ℕ) (name value : List ℕ) (had : Option (List ℕ)) → IsElement (items_in old) n → had ≡ value_of (items_in old) n name → is_same name (codes "id") ≡ true → room.entries ≡ ids.entries → IfSome had (λ id. number_of (get is_same first id) ≡ node_of_id (changed_at (with_attribute name value) n (items_in old)) id) → ((other : List ℕ) → IfSome had (λ id. is_same id other ≡ false) → get is_same first other ≡ get is_same room other) → number_of (get is_same second value) ≡ node_of_id (changed_at (with_attribute name value) n (items_in old)) value → ((other : List ℕ) → is_same value other ≡ false → get is_same second other ≡ get is_same first other) → IsKept old ids → (id : List ℕ) → (value ≡ id) ⊎ (is_same value id ≡ false) → number_of (get is_same second id) ≡ node_of_id (changed_at (with_attribute name value) n (items_in old)) id
IsIndexOf-second old ids room first second n name value had element is_had is_id entries here others now behind kept id (inl e) =
    subst (λ q. number_of (get is_same second q) ≡ node_of_id (changed_at (with_attribute name value) n (items_in old)) q) e now
IsIndexOf-second old ids room first second n name value had element is_had is_id entries here others now behind kept id (inr apart) =
    ap number_of (behind id apart) ∙ IsIndexOf-first old ids room first n name value had element is_had is_id entries here others kept id (is_same-other value id apart)

pub IsKept-id-anew : {S : Type 0} (old new : List Node) (ids room first second : HashMap (List ℕ) NodeId S) (n : ℕ) (name value : List ℕ) (had : Option (List ℕ)) → IsElement (items_in old) n → had ≡ value_of (items_in old) n name → items_in new ≡ changed_at (with_attribute name value) n (items_in old) → links_in new ≡ links_in old → is_same name (codes "id") ≡ true → room.entries ≡ ids.entries → IfSome had (λ id. number_of (get is_same first id) ≡ node_of_id (items_in new) id) → ((other : List ℕ) → IfSome had (λ id. is_same id other ≡ false) → get is_same first other ≡ get is_same room other) → number_of (get is_same second value) ≡ node_of_id (items_in new) value → ((other : List ℕ) → is_same value other ≡ false → get is_same second other ≡ get is_same first other) → IsKept old ids → IsKept new second
IsKept-id-anew old new ids room first second n name value had element is_had items links is_id entries here others now behind kept =
    let changed = changed_at (with_attribute name value) n (items_in old) in
    IsKept-shape old new ids second
    (subst (SameShape (items_in old)) (sym items) (with_attribute-same name value n (items_in old)))
    links
    (subst (IsIndexOf second) (sym items) (λ id. IsIndexOf-second old ids room first second n name value had element is_had is_id entries
    (subst (λ i. IfSome had (λ q. number_of (get is_same first q) ≡ node_of_id i q)) items here) others
    (subst (λ i. number_of (get is_same second value) ≡ node_of_id i value) items now) behind kept id (is_same-cases value id)))
    kept

pub read-node : (nodes : List Node) (n : ℕ) (node : Node) → n < length (items_in nodes) → node ≡ get_or nodes n node → slice_get nodes n ≡ Some node
read-node nodes n node h e = slice_get_read nodes (length nodes) n node refl (omega (arith, h, length-map nodes item_of)) e

pub IfSome-map : {A : Type 0} (o : Option A) (P Q : A → Type 0) → ((a : A) → P a → Q a) → IfSome o P → IfSome o Q
IfSome-map None P Q f h = tt
IfSome-map (Some a) P Q f h = f a h
