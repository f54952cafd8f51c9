-- What is read of a node after writes: the last one to it, or what was there before.
use Rattle.std.proofs.Common.{◌≡◌, ◌∙◌, ℕ, Bool, true, false, List, [], ◌∷◌, Option, Some, None, refl, sym, ap, eqb-true}
use Rattle.std.specs.Prelude.{◌==◌, ◌&&◌, ◌≢◌, IsFalse, codes, if◌then◌else◌, is_some, option_and_then, slice_get, unwrap_or}
use Rattle.std.specs.Option.{option_map_or, option_or}
use Rattle.std.proofs.lemmas.Slice.Eq.{bytes_eq-Decides}
use Rattle.std.proofs.lemmas.Bool.{eqb-false}
use Rattle.bml_bytes.specs.Words.{is_same}
use Rattle.dom_tree.specs.Items.{Content, Element, Text, Item, tag_in, text_in, IsElement, IsText, attributes_of, changed_at, tag_of, text_of, value_in, value_of, with_attribute, with_text}
use Rattle.dom_tree.specs.Walks.{KeepsPlaces}
use Rattle.style_reader.specs.Values as styles
use Rattle.style_reader.specs.declared.properties.Property.{Property}
use Rattle.style_reader.specs.declared.properties.StyleValue.{StyleValue}
use Rattle.style_cascade.specs.declared.states.State.{State}
use Rattle.es_values.specs.declared.values.HostRef.{HostRef}
use Rattle.es_values.specs.declared.values.HostRef.TheVariants as ref
use Rattle.dom_objects.specs.Writes.{Change, NoChange, ChangesText, ChangesAttribute, ChangesStyle, change_of, changed_items, is_written, node_change, property_change, style_change}
use Rattle.dom_objects.specs.Parts.{state_of_number}
use Rattle.dom_objects.specs.Reads.{property_named}
use Rattle.page_laws.specs.Nodes.{Nodes, Write, is_to, last_to, with_write, with_writes}

-- the laws of the tree that are used
pub record ChangeLaws : Type 0 where
  pub text_places : (items : List Item) (node : ℕ) (text : List ℕ) → KeepsPlaces items (changed_at (with_text text) node items)
  pub text_is : (items : List Item) (node : ℕ) (text : List ℕ) → IsText items node → text_of (changed_at (with_text text) node items) node ≡ Some text
  pub text_others : (items : List Item) (node : ℕ) (text : List ℕ) (other : ℕ) → node ≢ other → text_of (changed_at (with_text text) node items) other ≡ text_of items other
  pub text_attributes : (items : List Item) (node : ℕ) (text : List ℕ) (other : ℕ) → attributes_of (changed_at (with_text text) node items) other ≡ attributes_of items other
  pub places : (items : List Item) (node : ℕ) (name value : List ℕ) → KeepsPlaces items (changed_at (with_attribute name value) node items)
  pub value : (items : List Item) (node : ℕ) (name value : List ℕ) → IsElement items node → value_of (changed_at (with_attribute name value) node items) node name ≡ Some value
  pub names : (items : List Item) (node : ℕ) (name value : List ℕ) (other : ℕ) (found : List ℕ) → IsFalse (is_same name found)
      → value_of (changed_at (with_attribute name value) node items) other found ≡ value_of items other found
  pub nodes : (items : List Item) (node : ℕ) (name value : List ℕ) (other : ℕ) → node ≢ other → attributes_of (changed_at (with_attribute name value) node items) other ≡ attributes_of items other
  pub texts : (items : List Item) (node : ℕ) (name value : List ℕ) (other : ℕ) → text_of (changed_at (with_attribute name value) node items) other ≡ text_of items other

-- the text after one write
abbrev pub text_after : ℕ → List ℕ → Write → List ℕ → List ℕ
text_after node name w text = if is_to node name w then w.text else text

-- of a text node: no tag
pub no-tag : (items : List Item) (node : ℕ) (text : List ℕ) → text_of items node ≡ Some text → tag_of items node ≡ None
no-tag items node text is = by (slice_get items node) is
  where
    by : (o : Option Item) → option_and_then (λ item. text_in item.content) o ≡ Some text
        → option_and_then (λ item. tag_in item.content) o ≡ None
    by None e = refl
    by (Some item) e = of item.content e
      where
        of : (c : Content) → text_in c ≡ Some text → tag_in c ≡ None
        of (Element tag attributes) e = absurd cc
        of (Text t) e = refl

tagged : (items : List Item) (node other : ℕ) (text tag : List ℕ) → text_of items node ≡ Some text → tag_of items other ≡ Some tag → (other == node) ≡ false
tagged items node other text tag is here = by (other == node) refl
  where
    by : (t : Bool) → (other == node) ≡ t → (other == node) ≡ false
    by false e = e
    by true e = absurd (let no : None ≡ Some tag = sym (no-tag items node text is) ∙ ap (tag_of items) (sym (eqb-true other node e)) ∙ here in cc)

some-text : (items : List Item) (node : ℕ) (text : List ℕ) → text_of items node ≡ Some text → IsText items node
some-text items node text is = ap is_some is

some-tag : (items : List Item) (node : ℕ) (tag : List ℕ) → tag_of items node ≡ Some tag → IsElement items node
some-tag items node tag is = ap is_some is

-- ---- a write to a style changes no node

style-items : (items : List Item) (node number : ℕ) (name text : List ℕ) → changed_items (style_change items node number name text) items ≡ items
unfolding style_change
style-items items node number name text = by (if is_some (tag_of items node) then state_of_number number else None)
  where
    by-value : (state : State) (property : Property) (o : Option StyleValue) → changed_items (option_map_or (ChangesStyle node state property) o NoChange) items ≡ items
    by-value state property None = refl
    by-value state property (Some value) = refl

    by-property : (state : State) (o : Option Property) → changed_items (option_map_or (property_change node state text) o NoChange) items ≡ items
    by-property state None = refl
    by-property state (Some property) = by-value state property (styles.value_of property text)

    by : (o : Option State) → changed_items (option_map_or (λ state. option_map_or (property_change node state text) (property_named name) NoChange) o NoChange) items ≡ items
    by None = refl
    by (Some state) = by-property state (property_named name)

-- ---- the `data` of a text

module _ (laws : ChangeLaws) where
  one-text-at : (items : List Item) (node : ℕ) (text : List ℕ) → text_of items node ≡ Some text → (other : ℕ) (name t : List ℕ)
      → text_of (changed_items (node_change items other name t) items) node ≡ Some (if (other == node) && is_same name (codes "data") then t else text)
  unfolding node_change
  one-text-at items node text is other name t = by-tag (tag_of items other) refl
    where
      kept : (u : Bool) → (other == node) ≡ false → text_of items node ≡ Some (if (other == node) && u then t else text)
      kept u e = is ∙ ap (λ b. Some (if b && u then t else text)) (sym e)

      plain : (u : Bool) → u ≡ false → text_of items node ≡ Some (if (other == node) && u then t else text)
      plain u e = is ∙ both (other == node) ∙ ap (λ b. Some (if (other == node) && b then t else text)) (sym e)
        where
          both : (b : Bool) → Some text ≡ Some (if b && false then t else text)
          both true = refl
          both false = refl

      by-attribute : (w : Bool) → (other == node) ≡ false
          → text_of (changed_items (if w then ChangesAttribute other name t else NoChange) items) node ≡ Some (if (other == node) && is_same name (codes "data") then t else text)
      by-attribute true e = laws.texts items other name t node ∙ kept (is_same name (codes "data")) e
      by-attribute false e = kept (is_same name (codes "data")) e

      by-node : (n : Bool) → (other == node) ≡ n → text_of (changed_at (with_text t) other items) node ≡ Some (if n && true then t else text)
      by-node true e =
          let same = eqb-true other node e in
          ap (λ (k : ℕ). text_of (changed_at (with_text t) k items) node) same ∙ laws.text_is items node t (some-text items node text is)
      by-node false e = laws.text_others items other t node (eqb-false other node e) ∙ is

      by-data : (u : Bool) → is_same name (codes "data") ≡ u
          → text_of (changed_items (if u then ChangesText other t else NoChange) items) node ≡ Some (if (other == node) && is_same name (codes "data") then t else text)
      by-data true e = by-node (other == node) refl ∙ ap (λ b. Some (if (other == node) && b then t else text)) (sym e)
      by-data false e = plain (is_same name (codes "data")) e

      by-text : (o : Option (List ℕ)) → text_of items other ≡ o
          → text_of (changed_items (if is_some o then (if is_same name (codes "data") then ChangesText other t else NoChange) else NoChange) items) node
          ≡ Some (if (other == node) && is_same name (codes "data") then t else text)
      by-text (Some u) e = by-data (is_same name (codes "data")) refl
      by-text None e = by-none (other == node) refl
        where
          by-none : (n : Bool) → (other == node) ≡ n → text_of items node ≡ Some (if (other == node) && is_same name (codes "data") then t else text)
          by-none false q = kept (is_same name (codes "data")) q
          by-none true q = absurd (let no : None ≡ Some text = sym e ∙ ap (text_of items) (eqb-true other node q) ∙ is in cc)

      by-tag : (o : Option (List ℕ)) → tag_of items other ≡ o
          → text_of (changed_items (option_map_or (λ tag. if is_written tag name then ChangesAttribute other name t else NoChange) o
          (if is_some (text_of items other) then (if is_same name (codes "data") then ChangesText other t else NoChange) else NoChange)) items) node
          ≡ Some (if (other == node) && is_same name (codes "data") then t else text)
      by-tag (Some tag) e = by-attribute (is_written tag name) (tagged items node other text tag is e)
      by-tag None e = by-text (text_of items other) refl

  one-text : (nodes : Nodes) (node : ℕ) (text : List ℕ) → text_of nodes.items node ≡ Some text → (w : Write)
      → text_of (with_write w nodes).items node ≡ Some (text_after node (codes "data") w text)
  unfolding change_of
  one-text nodes node text is w = by w.base
    where
      by : (base : HostRef)
          → text_of (changed_items (change_of nodes.items base w.name w.text) nodes.items) node
          ≡ Some (text_after node (codes "data") (record { base = base; name = w.name; text = w.text }) text)
      by (ref.Node other) = one-text-at nodes.items node text is other w.name w.text
      by (ref.Style other number) = ap (λ (items : List Item). text_of items node) (style-items nodes.items other number w.name w.text) ∙ is
      by ref.Ureg = is
      by ref.Greg = is
      by ref.Browser = is
      by ref.Document = is
      by ref.Event = is

  -- the last of the writes counts
  pub last-or : (node : ℕ) (name text : List ℕ) (w : Write) (writes : List Write)
      → unwrap_or (last_to node name writes) (text_after node name w text) ≡ unwrap_or (last_to node name (w ∷ writes)) text
  last-or node name text w writes = by (last_to node name writes)
    where
      now : (t : Bool) → (if t then w.text else text) ≡ unwrap_or (if t then Some w.text else None) text
      now true = refl
      now false = refl

      by : (o : Option (List ℕ)) → unwrap_or o (text_after node name w text) ≡ unwrap_or (option_or o (if is_to node name w then Some w.text else None)) text
      by (Some u) = refl
      by None = now (is_to node name w)

  pub all-texts : (writes : List Write) (nodes : Nodes) (node : ℕ) (text : List ℕ) → text_of nodes.items node ≡ Some text
      → text_of (with_writes writes nodes).items node ≡ Some (unwrap_or (last_to node (codes "data") writes) text)
  all-texts [] nodes node text is = is
  all-texts (w ∷ writes) nodes node text is =
      all-texts writes (with_write w nodes) node (text_after node (codes "data") w text) (one-text nodes node text is w)
      ∙ ap (λ t. Some t) (last-or node (codes "data") text w writes)

  -- ---- an attribute that is written

  same-name : (name other : List ℕ) → is_same name other ≡ true → name ≡ other
  same-name name other e = (bytes_eq-Decides name other).0 e

  tag-stays : (items : List Item) (change : Change) (node : ℕ) → tag_of (changed_items change items) node ≡ tag_of items node
  tag-stays items NoChange node = refl
  tag-stays items (ChangesText other text) node = (laws.text_places items other text).tags node
  tag-stays items (ChangesAttribute other name value) node = (laws.places items other name value).tags node
  tag-stays items (ChangesStyle other state property value) node = refl

  module _ (tag found : List ℕ) (written : is_written tag found ≡ true) where
    one-value-at : (items : List Item) (node : ℕ) → tag_of items node ≡ Some tag → (other : ℕ) (name t : List ℕ)
        → value_of (changed_items (node_change items other name t) items) node found
        ≡ (if (other == node) && is_same name found then Some t else value_of items node found)
    unfolding node_change
    one-value-at items node here other name t = by-tag (tag_of items other) refl
      where
        kept : (u : Bool) → (other == node) ≡ false → value_of items node found ≡ (if (other == node) && u then Some t else value_of items node found)
        kept u e = ap (λ b. if b && u then Some t else value_of items node found) (sym e)

        same-attributes : (now : List Item) → attributes_of now node ≡ attributes_of items node → value_of now node found ≡ value_of items node found
        same-attributes now e = ap (λ l. value_in l found) e

        of-name : (u : Bool) → is_same name found ≡ u → other ≡ node
            → value_of (changed_at (with_attribute name t) other items) node found ≡ (if true && u then Some t else value_of items node found)
        of-name true e same =
            let is = same-name name found e in
            ap (λ (n : List ℕ). value_of (changed_at (with_attribute n t) other items) node found) is
            ∙ ap (λ (k : ℕ). value_of (changed_at (with_attribute found t) k items) node found) same
            ∙ laws.value items node found t (some-tag items node tag here)
        of-name false e same = laws.names items other name t node found e

        written-to : (n : Bool) → (other == node) ≡ n
            → value_of (changed_at (with_attribute name t) other items) node found ≡ (if n && is_same name found then Some t else value_of items node found)
        written-to true e = of-name (is_same name found) refl (eqb-true other node e)
        written-to false e = same-attributes (changed_at (with_attribute name t) other items) (laws.nodes items other name t node (eqb-false other node e))

        -- what can't be written under a name isn't that
        unwritten : (its : List ℕ) → tag_of items other ≡ Some its → is_written its name ≡ false → (n u : Bool) → (other == node) ≡ n → is_same name found ≡ u
            → value_of items node found ≡ (if n && u then Some t else value_of items node found)
        unwritten its e never false u x y = refl
        unwritten its e never true false x y = refl
        unwritten its e never true true x y =
            let tags : Some its ≡ Some tag = sym e ∙ ap (tag_of items) (eqb-true other node x) ∙ here in
            let same : its ≡ tag = cc in
            let both : true ≡ false = sym written ∙ ap (is_written tag) (sym (same-name name found y)) ∙ ap (λ (k : List ℕ). is_written k name) (sym same) ∙ never in
            absurd cc

        by-written : (its : List ℕ) → tag_of items other ≡ Some its → (w : Bool) → is_written its name ≡ w
            → value_of (changed_items (if w then ChangesAttribute other name t else NoChange) items) node found
            ≡ (if (other == node) && is_same name found then Some t else value_of items node found)
        by-written its e true x = written-to (other == node) refl
        by-written its e false x = unwritten its e x (other == node) (is_same name found) refl refl

        by-data : (u : Bool) → (other == node) ≡ false
            → value_of (changed_items (if u then ChangesText other t else NoChange) items) node found
            ≡ (if (other == node) && is_same name found then Some t else value_of items node found)
        by-data true e = same-attributes (changed_at (with_text t) other items) (laws.text_attributes items other t node) ∙ kept (is_same name found) e
        by-data false e = kept (is_same name found) e

        by-text : (u : Bool) → (other == node) ≡ false
            → value_of (changed_items (if u then (if is_same name (codes "data") then ChangesText other t else NoChange) else NoChange) items) node found
            ≡ (if (other == node) && is_same name found then Some t else value_of items node found)
        by-text true e = by-data (is_same name (codes "data")) e
        by-text false e = kept (is_same name found) e

        elsewhere : (n : Bool) → (other == node) ≡ n → tag_of items other ≡ None → (other == node) ≡ false
        elsewhere false x e = x
        elsewhere true x e = absurd (let no : None ≡ Some tag = sym e ∙ ap (tag_of items) (eqb-true other node x) ∙ here in cc)

        by-tag : (o : Option (List ℕ)) → tag_of items other ≡ o
            → value_of (changed_items (option_map_or (λ tag. if is_written tag name then ChangesAttribute other name t else NoChange) o
            (if is_some (text_of items other) then (if is_same name (codes "data") then ChangesText other t else NoChange) else NoChange)) items) node found
            ≡ (if (other == node) && is_same name found then Some t else value_of items node found)
        by-tag (Some its) e = by-written its e (is_written its name) refl
        by-tag None e = by-text (is_some (text_of items other)) (elsewhere (other == node) refl e)

    one-value : (nodes : Nodes) (node : ℕ) → tag_of nodes.items node ≡ Some tag → (w : Write)
        → value_of (with_write w nodes).items node found ≡ (if is_to node found w then Some w.text else value_of nodes.items node found)
    unfolding change_of
    one-value nodes node here w = by w.base
      where
        by : (base : HostRef)
            → value_of (changed_items (change_of nodes.items base w.name w.text) nodes.items) node found
            ≡ (if is_to node found (record { base = base; name = w.name; text = w.text }) then Some w.text else value_of nodes.items node found)
        by (ref.Node other) = one-value-at nodes.items node here other w.name w.text
        by (ref.Style other number) = ap (λ (items : List Item). value_of items node found) (style-items nodes.items other number w.name w.text)
        by ref.Ureg = refl
        by ref.Greg = refl
        by ref.Browser = refl
        by ref.Document = refl
        by ref.Event = refl

    last-value : (node : ℕ) (before : Option (List ℕ)) (w : Write) (writes : List Write)
        → option_or (last_to node found writes) (if is_to node found w then Some w.text else before) ≡ option_or (last_to node found (w ∷ writes)) before
    last-value node before w writes = by (last_to node found writes)
      where
        now : (t : Bool) → (if t then Some w.text else before) ≡ option_or (if t then Some w.text else None) before
        now true = refl
        now false = refl

        by : (o : Option (List ℕ)) → option_or o (if is_to node found w then Some w.text else before)
            ≡ option_or (option_or o (if is_to node found w then Some w.text else None)) before
        by (Some u) = refl
        by None = now (is_to node found w)

    all-values : (writes : List Write) (nodes : Nodes) (node : ℕ) → tag_of nodes.items node ≡ Some tag
        → (value_of (with_writes writes nodes).items node found ≡ option_or (last_to node found writes) (value_of nodes.items node found))
        × (tag_of (with_writes writes nodes).items node ≡ Some tag)
    all-values [] nodes node here = (refl, here)
    all-values (w ∷ writes) nodes node here =
        let still = tag-stays nodes.items (change_of nodes.items w.base w.name w.text) node ∙ here in
        let rest = all-values writes (with_write w nodes) node still in (
          rest.0
              ∙ ap (option_or (last_to node found writes)) (one-value nodes node here w)
              ∙ last-value node (value_of nodes.items node found) w writes,
          rest.1,
        )

    pub values-after : (writes : List Write) (nodes : Nodes) (node : ℕ) → tag_of nodes.items node ≡ Some tag
        → unwrap_or (value_of (with_writes writes nodes).items node found) [] ≡ unwrap_or (last_to node found writes) (unwrap_or (value_of nodes.items node found) [])
    values-after writes nodes node here = ap (λ o. unwrap_or o []) (all-values writes nodes node here).0 ∙ by (last_to node found writes)
      where
        by : (o : Option (List ℕ)) → unwrap_or (option_or o (value_of nodes.items node found)) [] ≡ unwrap_or o (unwrap_or (value_of nodes.items node found) [])
        by None = refl
        by (Some u) = refl

    pub tag-after : (writes : List Write) (nodes : Nodes) (node : ℕ) → tag_of nodes.items node ≡ Some tag → tag_of (with_writes writes nodes).items node ≡ Some tag
    tag-after writes nodes node here = (all-values writes nodes node here).1
