-- The body of a document: it is an element, and what scripts do leaves it where it is.
use Rattle.std.proofs.Common.{◌≡◌, ℕ, zero, suc, ◌+◌, Bool, true, false, List, [], ◌∷◌, Option, Some, None, refl, sym, ap, ◌∙◌, subst, arith}
use Rattle.std.specs.Prelude.{if◌then◌else◌, IsSome}
use Rattle.std.specs.Option.{option_map_or}
use Rattle.dom_tree.specs.Items.{Content, Item, IsElement, changed_at, put_text, put_value, tag_in, with_attribute, with_text}
use Rattle.dom_tree.specs.Items.Content.{Element, Text}
use Rattle.dom_tree.specs.Walks.{first, places_from}
use Rattle.dom_tree.specs.declared.node_ids.NodeId.{NodeId}
use Rattle.dom_objects.specs.Writes.{Change, changed_items}
use Rattle.dom_objects.specs.Writes.Change.{NoChange, ChangesText, ChangesAttribute, ChangesStyle}
use Rattle.display_list.specs.Bodies.{body_of, is_body, is_body_tag}

-- ---- where it is found

abbrev body_from : ℕ → List Item → Option ℕ
body_from place items = first (places_from is_body place items)

one_more : (b : Bool) (place : ℕ) (more : List ℕ) → first (if b then place ∷ more else more) ≡ (if b then Some place else first more)
one_more true place more = refl
one_more false place more = refl

-- ---- it is an element

abbrev is_tagged : Option (List ℕ) → Bool
is_tagged tag = option_map_or is_body_tag tag false

tagged : (tag : Option (List ℕ)) → is_tagged tag ≡ true → IsSome tag
tagged None e = cc
tagged (Some tag) e = refl

ElementAt : List Item → ℕ → ℕ → Type 0
ElementAt items place node = (n : ℕ) × (node ≡ n + place) × IsElement items n

element_step : (x : Item) (xs : List Item) (place node : ℕ) → (body_from (place + 1) xs ≡ Some node → ElementAt xs (place + 1) node) → (b : Bool) → is_body x ≡ b → (if b then Some place else body_from (place + 1) xs) ≡ Some node → ElementAt (x ∷ xs) place node
unfolding ElementAt
element_step x xs place node later true is e = (0, (let same : place ≡ node = cc e in omega (arith, same)), tagged (tag_in x.content) is)
element_step x xs place node later false is e =
    let found = later e in
    (suc found.0, omega (arith, found.1), found.2)

element_at : (items : List Item) (place node : ℕ) → body_from place items ≡ Some node → ElementAt items place node
element_at [] place node e = cc
element_at (x ∷ xs) place node e =
    element_step x xs place node (λ k. element_at xs (place + 1) node k) (is_body x) refl (sym (one_more (is_body x) place (places_from is_body (place + 1) xs)) ∙ e)

pub body-element : (items : List Item) (node : NodeId) → Some node.0 ≡ body_of items → IsElement items node.0
unfolding body_of ElementAt
body-element items node e =
    let found = element_at items 0 node.0 (sym e) in
    subst (λ (n : ℕ). IsElement items n) (omega (arith, found.1)) found.2

-- ---- what scripts do leaves it

kept_places : (f : Item → Item) → ((item : Item) → is_body (f item) ≡ is_body item) → (items : List Item) (n place : ℕ) → places_from is_body place (changed_at f n items) ≡ places_from is_body place items
kept_places f same [] n place = refl
kept_places f same (x ∷ xs) zero place = ap (λ (b : Bool). if b then place ∷ places_from is_body (place + 1) xs else places_from is_body (place + 1) xs) (same x)
kept_places f same (x ∷ xs) (suc n) place = ap (λ (more : List ℕ). if is_body x then place ∷ more else more) (kept_places f same xs n (place + 1))

text_keeps : (text : List ℕ) (content : Content) → tag_in (put_text text content) ≡ tag_in content
text_keeps text (Element tag attributes) = refl
text_keeps text (Text old) = refl

attribute_keeps : (name value : List ℕ) (content : Content) → tag_in (put_value name value content) ≡ tag_in content
attribute_keeps name value (Element tag attributes) = refl
attribute_keeps name value (Text old) = refl

pub body-changed : (change : Change) (items : List Item) → body_of (changed_items change items) ≡ body_of items
unfolding body_of
body-changed NoChange items = refl
body-changed (ChangesText node text) items = ap first (kept_places (with_text text) (λ item. ap is_tagged (text_keeps text item.content)) items node 0)
body-changed (ChangesAttribute node name value) items = ap first (kept_places (with_attribute name value) (λ item. ap is_tagged (attribute_keeps name value item.content)) items node 0)
body-changed (ChangesStyle node state property value) items = refl
