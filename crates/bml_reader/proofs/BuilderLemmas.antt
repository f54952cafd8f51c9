-- The path of open elements while a tree grows, and attributes given one by one.
use Rattle.std.proofs.Common.{◌≡◌, ℕ, zero, suc, ◌+◌, ◌-◌, ◌<◌, List, [], ◌∷◌, ◌++◌, length, take, reverse, Option, Some, None, refl, sym, ◌∙◌, ap, subst, arith, append_assoc, append-nil, add-one}
use Rattle.std.specs.Prelude.{slice_get, Contains, IsSome, IsNone, map, option_map, option_and_then, is_some, IfSome}
use Rattle.std.specs.Option.{option_map_or}
use Rattle.std.proofs.lemmas.Option.{slice_get_within}
use Rattle.std.proofs.lemmas.List.{reverse-append}
use Rattle.dom_tree.specs.Items.{Attribute, Item, Content, tag_in, tag_of, attributes_in, attributes_of, value_in, value_of, IsElement, changed_at, with_last_attribute, element_in}
use Rattle.dom_tree.specs.Items.Content.{Element, Text}
use Rattle.dom_tree.specs.Walks.{path_of, IsOpen, Extends, KeepsPlaces}
use Rattle.bml_reader.specs.Markup.{NamesDiffer}
use Rattle.bml_reader.specs.devices.Nodes.{AreOpen, top_of, numbers_in}
use Rattle.dom_tree.specs.declared.node_ids.NodeId.{NodeId}
use Rattle.bml_reader.specs.devices.BuilderViews.{put_attributes, with_attributes, KeepsPlacesOf, IsGrown}

Contains-behind : (x : ℕ) (xs : List ℕ) (n : ℕ) → Contains xs n → Contains (x ∷ xs) n
Contains-behind x xs n c = (suc c.0, omega (arith, c.1), c.2)

Contains-here : (n : ℕ) (xs : List ℕ) → Contains (n ∷ xs) n
Contains-here n xs = (0, omega arith, refl)

within-by : (items : List Item) (n : ℕ) (o : Option Item) → slice_get items n ≡ o → IsSome (option_and_then (λ item. tag_in item.content) o) → n < length items
within-by items n None e h = absurd (cc h)
within-by items n (Some item) e h = slice_get_within items n item e

pub element-within : (items : List Item) (n : ℕ) → IsElement items n → n < length items
element-within items n h = within-by items n (slice_get items n) refl h

keep-open : (old new : List Item) (up : ℕ) (ns : List ℕ) → Extends old new up → AreOpen old ns → ((n : ℕ) → Contains ns n → Contains (path_of old up) n) → AreOpen new ns
keep-open old new up [] x h k = tt
keep-open old new up (n ∷ ns) x (p, e, o, more) k =
    let inside = element-within old n e in (
      x.paths n inside ∙ p,
      subst (λ t. IsSome t) (sym (x.tags n inside)) e,
      x.open_still n (k n (Contains-here n ns)),
      keep-open old new up ns x more (λ m c. k m (Contains-behind n ns m c)),
    )

path-top : (old : List Item) (up : ℕ) (ns : List ℕ) → AreOpen old ns → top_of ns ≡ Some up → path_of old up ≡ ns
path-top old up [] h e = absurd (cc e)
path-top old up (n ∷ ns) h e = let same : n ≡ up = cc in ap (path_of old) (sym same) ∙ h.0

-- open elements stay open when a child of the innermost one is added
pub stay-open : (old new : List Item) (up : ℕ) (ns : List ℕ) → AreOpen old ns → top_of ns ≡ Some up → Extends old new up → AreOpen new ns
stay-open old new up ns h e x = keep-open old new up ns x h (λ n c. subst (λ z. Contains z n) (sym (path-top old up ns h e)) c)

tag-at-end : (items : List Item) (x : Item) → slice_get (items ++ x ∷ []) (length items) ≡ Some x
tag-at-end [] x = refl
tag-at-end (i ∷ items) x = tag-at-end items x

-- and a new element is open behind them
pub open-element : (old : List Item) (up : ℕ) (tag : List ℕ) (ns : List ℕ) → AreOpen old ns → top_of ns ≡ Some up → Extends old (old ++ element_in (Some up) tag ∷ []) up → AreOpen (old ++ element_in (Some up) tag ∷ []) (length old ∷ ns)
open-element old up tag ns h e x = (
  x.path ∙ ap (λ z. length old ∷ z) (path-top old up ns h e),
  ap (λ o. is_some (option_and_then (λ item. tag_in item.content) o)) (tag-at-end old (element_in (Some up) tag)),
  x.opened,
  stay-open old (old ++ element_in (Some up) tag ∷ []) up ns h e x,
)

-- the root is open
pub open-root : (items : List Item) (tag : List ℕ) → items ≡ element_in None tag ∷ [] → IsOpen items 0 → AreOpen items (0 ∷ [])
open-root items tag e o = (ap (λ z. path_of z 0) e, ap (λ z. is_some (tag_of z 0)) e, o, tt)

-- a change of attributes opens and closes nothing
pub places-open : (old new : List Item) (ns : List ℕ) → KeepsPlaces old new → AreOpen old ns → AreOpen new ns
places-open old new [] k h = tt
places-open old new (n ∷ ns) k (p, e, o, more) = (k.paths n ∙ p, subst (λ t. IsSome t) (sym (k.tags n)) e, k.open_still n o, places-open old new ns k more)

pub places-same : (items : List Item) → KeepsPlaces items items
places-same items = record { count = refl; tags = (λ n. refl); parents = (λ n. refl); children = (λ n. refl); paths = (λ n. refl); open_still = (λ n h. h) }

pub places-chain : (a b c : List Item) → KeepsPlaces a b → KeepsPlaces b c → KeepsPlaces a c
places-chain a b c h k = record { count = k.count ∙ h.count; tags = (λ n. k.tags n ∙ h.tags n); parents = (λ n. k.parents n ∙ h.parents n); children = (λ n. k.children n ∙ h.children n); paths = (λ n. k.paths n ∙ h.paths n); open_still = (λ n o. k.open_still n (h.open_still n o)) }

-- Attributes one by one

-- the element as it is before the first
no-attributes : (item : Item) → with_attributes [] item ≡ item
no-attributes item = ap (λ (c : Content). same item.parent c) (by item.content)
  where
    same : Option ℕ → Content → Item
    same parent content = record { parent = parent; content = content }

    by : (c : Content) → put_attributes [] c ≡ c
    by (Element tag before) = ap (Element tag) (append-nil before)
    by (Text text) = refl

pub none-given : (items : List Item) (n : ℕ) → changed_at (with_attributes []) n items ≡ items
none-given [] n = refl
none-given (i ∷ items) zero = ap (λ z. z ∷ items) (no-attributes i)
none-given (i ∷ items) (suc n) = ap (λ z. i ∷ z) (none-given items n)

one-more-in : (attributes : List Attribute) (a : Attribute) (parent : Option ℕ) (c : Content) → with_last_attribute a.name a.value (with_attributes attributes (record { parent = parent; content = c })) ≡ with_attributes (attributes ++ a ∷ []) (record { parent = parent; content = c })
one-more-in attributes a parent (Element tag before) = ap (λ z. node parent tag z) (append_assoc before attributes (a ∷ []))
  where
    node : Option ℕ → List ℕ → List Attribute → Item
    node parent tag z = record { parent = parent; content = Element tag z }
one-more-in attributes a parent (Text text) = refl

pub one-more-given : (attributes : List Attribute) (a : Attribute) (n : ℕ) (items : List Item) → changed_at (with_last_attribute a.name a.value) n (changed_at (with_attributes attributes) n items) ≡ changed_at (with_attributes (attributes ++ a ∷ [])) n items
one-more-given attributes a n [] = refl
one-more-given attributes a zero (i ∷ items) = ap (λ z. z ∷ items) (one-more-in attributes a i.parent i.content)
one-more-given attributes a (suc n) (i ∷ items) = ap (λ z. i ∷ z) (one-more-given attributes a n items)

pub take-one-more : (xs : List Attribute) (i : ℕ) (a : Attribute) → slice_get xs i ≡ Some a → take (i + 1) xs ≡ take i xs ++ a ∷ []
take-one-more [] i a e = absurd (cc e)
take-one-more (x ∷ xs) zero a e = let same : x ≡ a = cc in ap (λ z. z ∷ []) same
take-one-more (x ∷ xs) (suc i) a e = rw (add-one) (ap (λ z. x ∷ z) (sym (rw (add-one) refl) ∙ take-one-more xs i a e))

-- the names of the attributes in front of one differ from its own
pub name-new : (before attributes : List Attribute) (i : ℕ) (a : Attribute) → NamesDiffer before attributes → slice_get attributes i ≡ Some a → IsNone (value_in (before ++ take i attributes) a.name)
name-new before [] i a h e = absurd (cc e)
name-new before (x ∷ attributes) zero a h e =
    let same : x ≡ a = cc in
    subst (λ z. IsNone (value_in z a.name)) (sym (append-nil before)) (subst (λ (z : Attribute). IsNone (value_in before z.name)) same h.0)
name-new before (x ∷ attributes) (suc i) a h e = subst (λ z. IsNone (value_in z a.name)) (append_assoc before (x ∷ []) (take i attributes)) (name-new (before ++ x ∷ []) attributes i a h.1 e)

attributes-in-by : (attributes : List Attribute) (n : ℕ) (items : List Item) → attributes_of items n ≡ [] → IsElement items n → attributes_of (changed_at (with_attributes attributes) n items) n ≡ attributes
attributes-in-by attributes n [] h e = absurd (cc e)
attributes-in-by attributes zero (i ∷ items) h e = by i.content h e
  where
    by : {attributes : List Attribute} (c : Content) → attributes_in c ≡ [] → IsSome (tag_in c) → attributes_in (put_attributes attributes c) ≡ attributes
    by {attributes} (Element tag before) h e = ap (λ z. z ++ attributes) h
    by {attributes} (Text text) h e = absurd (cc e)
attributes-in-by attributes (suc n) (i ∷ items) h e = attributes-in-by attributes n items h e

none-is : {A : Type 0} (o : Option A) → IsNone o → o ≡ None
none-is None h = refl
none-is (Some x) h = absurd (cc h)

-- an attribute of a new name may be given
pub may-be-given : (items : List Item) (n : ℕ) (attributes : List Attribute) (i : ℕ) (a : Attribute) → attributes_of items n ≡ [] → IsElement items n → NamesDiffer [] attributes → slice_get attributes i ≡ Some a → value_of (changed_at (with_attributes (take i attributes)) n items) n a.name ≡ None
may-be-given items n attributes i a h e d g = ap (λ z. value_in z a.name) (attributes-in-by (take i attributes) n items h e) ∙ none-is (value_in (take i attributes) a.name) (name-new [] attributes i a d g)

-- what is given to a new element
pub given-last : (items : List Item) (parent : Option ℕ) (tag : List ℕ) (attributes : List Attribute) → changed_at (with_attributes attributes) (length items) (items ++ element_in parent tag ∷ []) ≡ items ++ record { parent = parent; content = Element tag attributes } ∷ []
given-last [] parent tag attributes = refl
given-last (i ∷ items) parent tag attributes = ap (λ z. i ∷ z) (given-last items parent tag attributes)

pub plain-last : (items : List Item) (parent : Option ℕ) (tag : List ℕ) → attributes_of (items ++ element_in parent tag ∷ []) (length items) ≡ []
plain-last items parent tag = ap (λ o. option_map_or (λ item. attributes_in item.content) o []) (tag-at-end items (element_in parent tag))

pub element-last : (items : List Item) (parent : Option ℕ) (tag : List ℕ) → IsElement (items ++ element_in parent tag ∷ []) (length items)
element-last items parent tag = ap (λ o. is_some (option_and_then (λ item. tag_in item.content) o)) (tag-at-end items (element_in parent tag))

-- Lists from behind

pub reverse-more : (xs : List ℕ) (x : ℕ) → reverse (xs ++ x ∷ []) ≡ x ∷ reverse xs
reverse-more xs x = reverse-append xs (x ∷ [])

map-last : (path : List NodeId) (node : NodeId) → map (λ (n : NodeId). n.0) (path ++ node ∷ []) ≡ map (λ (n : NodeId). n.0) path ++ node.0 ∷ []
map-last [] node = refl
map-last (n ∷ path) node = ap (λ z. n.0 ∷ z) (map-last path node)

pub numbers-more : (path : List NodeId) (node : NodeId) → numbers_in (path ++ node ∷ []) ≡ node.0 ∷ numbers_in path
numbers-more path node = ap reverse (map-last path node) ∙ reverse-more (map (λ n. n.0) path) node.0

pub places-grown : (a b : Option (List Item)) (ns : List ℕ) → KeepsPlacesOf a b → IsGrown a ns → IsGrown b ns
places-grown None None ns k h = h
places-grown None (Some b) ns k h = absurd k
places-grown (Some a) None ns k h = absurd k
places-grown (Some a) (Some b) ns k h = places-open a b ns k h

pub given-some : (a b : Option (List Item)) (items : List Item) (parent : Option ℕ) (tag : List ℕ) (attributes : List Attribute) (n : ℕ) → a ≡ Some (items ++ element_in parent tag ∷ []) → n ≡ length items → b ≡ option_map (changed_at (with_attributes attributes) n) a → b ≡ Some (items ++ record { parent = parent; content = Element tag attributes } ∷ [])
given-some a b items parent tag attributes n e q h =
    h ∙ (ap (option_map (changed_at (with_attributes attributes) n)) e
    ∙ (ap (λ k. Some (changed_at (with_attributes attributes) k (items ++ element_in parent tag ∷ []))) q
    ∙ ap Some (given-last items parent tag attributes)))

pub plain-some : (a : Option (List Item)) (items : List Item) (parent : Option ℕ) (tag : List ℕ) (n : ℕ) → a ≡ Some (items ++ element_in parent tag ∷ []) → n ≡ length items → IfSome a (λ i. attributes_of i n ≡ [])
plain-some a items parent tag n e q = subst (λ o. IfSome o (λ i. attributes_of i n ≡ [])) (sym e) (ap (attributes_of (items ++ element_in parent tag ∷ [])) q ∙ plain-last items parent tag)

split-last : (path : List NodeId) (p : NodeId) → slice_get path (length path - 1) ≡ Some p → (front : List NodeId) × (path ≡ front ++ p ∷ [])
split-last [] p e = absurd (cc e)
split-last (x ∷ []) p e = let same : x ≡ p = cc in ([], ap (λ z. z ∷ []) same)
split-last (x ∷ y ∷ path) p e =
    let n : length (x ∷ y ∷ path) - 1 ≡ suc (length (y ∷ path) - 1) = omega arith in
    let h = split-last (y ∷ path) p (subst (λ k. slice_get (x ∷ y ∷ path) k ≡ Some p) n e) in
    (x ∷ h.0, ap (λ z. x ∷ z) h.1)

-- the last of the path is the innermost
pub top-last : (path : List NodeId) (p : NodeId) → slice_get path (length path - 1) ≡ Some p → top_of (numbers_in path) ≡ Some p.0
top-last path p e = let h = split-last path p e in ap (λ z. top_of (numbers_in z)) h.1 ∙ ap top_of (numbers-more h.0 p)
