-- Which nodes are event items, and in which order they stand.
use Rattle.std.proofs.Common.{◌≡◌, ◌↔◌, ◌⊎◌, ℕ, zero, suc, ◌+◌, ◌<◌, ◌≤◌, Bool, true, false, List, [], ◌∷◌, ◌++◌, length, map, get_or, Option, Some, None, inl, inr, refl, sym, ap, ◌∙◌, subst, add-zero, zero-add, arith}
use Rattle.std.specs.Prelude.{Contains, codes, if◌then◌else◌, option_and_then, slice_get}
use Rattle.std.specs.List.Sorted.{IsStrictlyIncreasing}
use Rattle.std.specs.Option.{option_map_or}
use Rattle.bml_bytes.specs.Words.{is_same}
use Rattle.dom_tree.specs.Items.{Item, tag_in, tag_of}
use Rattle.multipart_entities.specs.declared.paths.Path.{Path}
use Rattle.event_items.specs.EventItems.{EventItem, event_items, is_event_item, item_of, items_from}

-- ---- elements of lists

pub contains-behind : {X : Type 0} (x : X) (xs : List X) (y : X) → Contains xs y → Contains (x ∷ xs) y
contains-behind x xs y (k, h, e) = (suc k, omega (arith, h), e)

pub contains-here : {X : Type 0} (x : X) (xs : List X) → Contains (x ∷ xs) x
contains-here x xs = (0, omega arith, refl)

pub contains-cases : {X : Type 0} (x : X) (xs : List X) (y : X) → Contains (x ∷ xs) y → (x ≡ y) ⊎ Contains xs y
contains-cases x xs y (zero, h, e) = inl e
contains-cases x xs y (suc k, h, e) = inr (k, omega (arith, h), e)

pub contains-none : {X : Type 0} (y : X) → Contains [] y → ⊥
contains-none y (k, h, e) = omega (arith, h)

-- what a number in a list of numbers is the number of
pub record IsNumbered (items : List EventItem) (node : ℕ) : Type 0 where
  pub item : EventItem
  pub inside : Contains items item
  pub is : item.node ≡ node

numbered-behind : (first : EventItem) (items : List EventItem) (node : ℕ) → IsNumbered items node → IsNumbered (first ∷ items) node
numbered-behind first items node rest =
    record { item = rest.item; inside = contains-behind first items rest.item rest.inside; is = rest.is }

pub numbered : (items : List EventItem) (node : ℕ) → Contains (map (λ (item : EventItem). item.node) items) node → IsNumbered items node
numbered [] node c = absurd (contains-none node c)
numbered (item ∷ items) node c =
    elim (contains-cases item.node (map (λ (i : EventItem). i.node) items) node c) [
      | inl e ↦ record { item = item; inside = contains-here item items; is = e }
      | inr behind ↦ numbered-behind item items node (numbered items node behind)
    ]

-- ---- which node an item is

record IsRead (base : Path) (from : ℕ) (items : List Item) (item : EventItem) : Type 0 where
  index : ℕ
  element : Item
  is : item.node ≡ from + index
  got : slice_get items index ≡ Some element
  passes : is_event_item element ≡ true
  own : item ≡ item_of base item.node element

read-here : (base : Path) (from : ℕ) (first : Item) (items : List Item) (item : EventItem) → is_event_item first ≡ true → item_of base from first ≡ item → IsRead base from (first ∷ items) item
read-here base from first items item passes e =
    let node_is : item.node ≡ from = ap (λ (i : EventItem). i.node) (sym e) in
    record {
      index = 0;
      element = first;
      is = omega arith;
      got = refl;
      passes = passes;
      own = sym e ∙ ap (λ (node : ℕ). item_of base node first) (sym node_is);
    }

read-behind : (base : Path) (from : ℕ) (first : Item) (items : List Item) (item : EventItem) → IsRead base (suc from) items item → IsRead base from (first ∷ items) item
read-behind base from first items item rest =
    let is = rest.is in
    record { index = suc rest.index; element = rest.element; is = omega arith; got = rest.got; passes = rest.passes; own = rest.own }

read : (base : Path) (from : ℕ) (items : List Item) (item : EventItem) → Contains (items_from base from items) item → IsRead base from items item
read base from [] item c = absurd (contains-none item c)
read base from (first ∷ items) item c = by (is_event_item first) refl (λ behind. read base (suc from) items item behind) c
  where
    by : (test : Bool) → is_event_item first ≡ test
        → (Contains (items_from base (suc from) items) item → IsRead base (suc from) items item)
        → Contains ((if test then item_of base from first ∷ [] else []) ++ items_from base (suc from) items) item
        → IsRead base from (first ∷ items) item
    by true e more c =
        elim (contains-cases (item_of base from first) (items_from base (suc from) items) item c) [
          | inl same ↦ read-here base from first items item e same
          | inr behind ↦ read-behind base from first items item (more behind)
        ]
    by false e more c = read-behind base from first items item (more c)

pub item-own : (base : Path) (items : List Item) (item : EventItem) → Contains (event_items base items) item
    → (element : Item) × (slice_get items item.node ≡ Some element) × (item ≡ item_of base item.node element)
unfolding event_items
item-own base items item c =
    let found = read base 0 items item c in
    let is = found.is in
    let place : item.node ≡ found.index = omega arith in
    (found.element, ap (slice_get items) place ∙ found.got, found.own)

-- ---- each element is there

abbrev nodes_from : Path → ℕ → List Item → List ℕ
nodes_from base from items = map (λ (item : EventItem). item.node) (items_from base from items)

listed-behind : (base : Path) (from : ℕ) (first : Item) (items : List Item) (node : ℕ) → Contains (nodes_from base (suc from) items) node → Contains (nodes_from base from (first ∷ items)) node
listed-behind base from first items node c = by (is_event_item first)
  where
    by : (test : Bool) → Contains (map (λ (item : EventItem). item.node) ((if test then item_of base from first ∷ [] else []) ++ items_from base (suc from) items)) node
    by true = contains-behind from (nodes_from base (suc from) items) node c
    by false = c

listed-here : (base : Path) (from : ℕ) (first : Item) (items : List Item) → is_event_item first ≡ true → Contains (nodes_from base from (first ∷ items)) from
listed-here base from first items passes = by (is_event_item first) passes
  where
    by : (test : Bool) → test ≡ true → Contains (map (λ (item : EventItem). item.node) ((if test then item_of base from first ∷ [] else []) ++ items_from base (suc from) items)) from
    by true e = contains-here from (nodes_from base (suc from) items)
    by false e = absurd (cc e)

listed : (base : Path) (from : ℕ) (items : List Item) (index : ℕ) (element : Item) → slice_get items index ≡ Some element → is_event_item element ≡ true → Contains (nodes_from base from items) (from + index)
listed base from [] index element h passes = absurd (cc h)
listed base from (first ∷ items) zero element h passes =
    let same : first ≡ element = cc in
    rw (add-zero from) (listed-here base from first items (ap is_event_item same ∙ passes))
listed base from (first ∷ items) (suc index) element h passes =
    let shift : suc from + index ≡ from + suc index = omega arith in
    rw (← shift) (listed-behind base from first items (suc from + index) (listed base (suc from) items index element h passes))

-- ---- tags

abbrev SameTexts : Type 0
SameTexts = (text other : List ℕ) → (is_same text other ≡ true) ↔ (text ≡ other)

tag-is : SameTexts → (tag : Option (List ℕ)) → option_map_or (λ (t : List ℕ). is_same t (codes "beitem")) tag false ≡ true → tag ≡ Some (codes "beitem")
tag-is same None e = absurd (cc e)
tag-is same (Some tag) e = ap (λ (t : List ℕ). Some t) ((same tag (codes "beitem")).0 e)

tagged : (items : List Item) (node : ℕ) → tag_of items node ≡ Some (codes "beitem") → (element : Item) × (slice_get items node ≡ Some element) × (is_event_item element ≡ true)
tagged [] node e = absurd (cc e)
tagged (first ∷ items) zero e = (first, refl, ap (λ (tag : Option (List ℕ)). option_map_or (λ (t : List ℕ). is_same t (codes "beitem")) tag false) e)
tagged (first ∷ items) (suc node) e = tagged items node e

item-tag : SameTexts → (base : Path) (items : List Item) (node : ℕ) → IsNumbered (items_from base 0 items) node → tag_of items node ≡ Some (codes "beitem")
item-tag same base items node numbered =
    let found = read base 0 items numbered.item numbered.inside in
    let is = found.is in
    let number = numbered.is in
    let place : node ≡ found.index = omega arith in
    ap (tag_of items) place ∙ (ap (option_and_then (λ (item : Item). tag_in item.content)) found.got ∙ tag-is same (tag_in found.element.content) found.passes)

pub item-nodes : SameTexts → (base : Path) (items : List Item) (node : ℕ)
    → Contains (map (λ (item : EventItem). item.node) (event_items base items)) node ↔ (tag_of items node ≡ Some (codes "beitem"))
unfolding event_items
item-nodes same base items node = (
  λ c. item-tag same base items node (numbered (items_from base 0 items) node c),
  λ e.
      let element = tagged items node e in
      rw (← zero-add node) (listed base 0 items node element.0 element.1 element.2),
)

-- ---- their order

abbrev Ascends : ℕ → List ℕ → Type 0
Ascends low [] = Unit {0}
Ascends low (node ∷ nodes) = (low ≤ node) × Ascends (suc node) nodes

ascends-lower : (low : ℕ) (nodes : List ℕ) → Ascends (suc low) nodes → Ascends low nodes
ascends-lower low [] a = tt
ascends-lower low (node ∷ nodes) a = (omega (arith, a.0), a.1)

ascends : (base : Path) (from : ℕ) (items : List Item) → Ascends from (nodes_from base from items)
ascends base from [] = tt
ascends base from (first ∷ items) = by (is_event_item first) (ascends base (suc from) items)
  where
    by : (test : Bool) → Ascends (suc from) (nodes_from base (suc from) items)
        → Ascends from (map (λ (item : EventItem). item.node) ((if test then item_of base from first ∷ [] else []) ++ items_from base (suc from) items))
    by true a = (omega arith, a)
    by false a = ascends-lower from (nodes_from base (suc from) items) a

rises : (low : ℕ) (nodes : List ℕ) → Ascends low nodes → (k : ℕ) → k + 1 < length nodes → get_or nodes k 0 < get_or nodes (k + 1) 0
rises low [] a k h = absurd (omega (arith, h))
rises low (node ∷ []) a k h = absurd (omega (arith, h))
rises low (node ∷ next ∷ nodes) a zero h = omega (arith, a.1.0)
rises low (node ∷ next ∷ nodes) a (suc k) h =
    let e : suc k + 1 ≡ suc (k + 1) = omega arith in
    subst (λ (n : ℕ). get_or (next ∷ nodes) k 0 < get_or (node ∷ next ∷ nodes) n 0) (sym e) (rises (suc node) (next ∷ nodes) a.1 k (omega (arith, h)))

pub item-order : (base : Path) (items : List Item) → IsStrictlyIncreasing (map (λ (item : EventItem). item.node) (event_items base items))
unfolding event_items
item-order base items = rises 0 (nodes_from base 0 items) (ascends base 0 items)
