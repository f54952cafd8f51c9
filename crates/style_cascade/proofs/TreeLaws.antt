-- Trees of which what styles ask stays the same.
use Rattle.std.proofs.Common.{◌≡◌, ℕ, List, [], ◌∷◌, Option, Some, None, refl, sym, ◌∙◌, ap, arith}
use Rattle.std.specs.Prelude.{map, option_map, option_and_then, unwrap_or, if◌then◌else◌, codes}
use Rattle.std.specs.Option.{option_map_or, option_or}
use Rattle.dom_tree.specs.Items.{Attribute, Item, attributes_of, parent_of, tag_of, value_in, value_of}
use Rattle.dom_tree.specs.Walks.{KeepsPlaces, path_of}
use Rattle.style_reader.specs.Properties.{initial_of, is_inherited}
use Rattle.style_reader.specs.declared.properties.Property.{Property}
use Rattle.style_reader.specs.declared.properties.StyleValue.{StyleValue}
use Rattle.style_reader.specs.declared.rules.Rule.{Rule}
use Rattle.style_cascade.specs.Cascade.{Place, Sources, asked_places, first_own, own_value, place, places_above, said_to, said_value, style_value, write_of}
use Rattle.style_cascade.specs.Keeping.{IsRight, StylesState}
use Rattle.style_cascade.specs.Matching.{subject_of, subject_with, words_in}
use Rattle.style_cascade.specs.devices.Kept.{element_around, value_around}
use Rattle.style_cascade.specs.devices.Tables.{cell_of}
use Rattle.style_cascade.specs.declared.states.State.{State}
use Rattle.style_cascade.specs.declared.states.State.TheVariants as states
use Rattle.style_cascade.specs.declared.subjects.Subject.{Subject}

-- what styles ask of a node is the same in both trees
pub record SameSubjects (old new : List Item) : Type 0 where
  pub places : KeepsPlaces old new
  pub id : (node : ℕ) → value_of new node (codes "id") ≡ value_of old node (codes "id")
  pub class : (node : ℕ) → value_of new node (codes "class") ≡ value_of old node (codes "class")
  pub style : (node : ℕ) → value_of new node (codes "style") ≡ value_of old node (codes "style")

abbrev subject_by : List ℕ → Option (List ℕ) → List (List ℕ) → Option (List ℕ) → Subject
subject_by tag id classes style = record { tag = tag; id = id; classes = classes; style = style }

subject_with-same : (old new : List Item) → SameSubjects old new → (node : ℕ) (tag : List ℕ) → subject_with new node tag ≡ subject_with old node tag
subject_with-same old new same node tag =
    ap (λ (a : Option (List ℕ)). subject_by tag a (words_in (value_of new node (codes "class"))) (value_of new node (codes "style"))) (same.id node)
    ∙ ap (λ (a : Option (List ℕ)). subject_by tag (value_of old node (codes "id")) (words_in a) (value_of new node (codes "style"))) (same.class node)
    ∙ ap (λ (a : Option (List ℕ)). subject_by tag (value_of old node (codes "id")) (words_in (value_of old node (codes "class"))) a) (same.style node)

map-same : (f g : List ℕ → Subject) → ((tag : List ℕ) → f tag ≡ g tag) → (tag : Option (List ℕ)) → option_map f tag ≡ option_map g tag
map-same f g h None = refl
map-same f g h (Some tag) = ap (λ (s : Subject). Some s) (h tag)

subject_of-same : (old new : List Item) → SameSubjects old new → (node : ℕ) → subject_of new node ≡ subject_of old node
unfolding subject_of
subject_of-same old new same node = ap (option_map (subject_with new node)) (same.places.tags node) ∙ map-same (subject_with new node) (subject_with old node) (subject_with-same old new same node) (tag_of old node)

said-same : (old new : List Item) → SameSubjects old new → (rules : List Rule) (node : ℕ) (state : State) (property : Property) → said_value new rules node state property ≡ said_value old rules node state property
unfolding said_value
said-same old new same rules node state property = ap (option_and_then (said_to rules state property)) (subject_of-same old new same node)

own-same : (old new : List Item) → SameSubjects old new → (sources : Sources) (node : ℕ) (state : State) (property : Property) → own_value new sources node state property ≡ own_value old sources node state property
own-same old new same sources node state property = ap (λ (o : Option StyleValue). option_or (write_of sources node state property) (option_or (write_of sources node states.Normal property) o)) (said-same old new same sources.rules node state property)

around-same : (old new : List Item) → KeepsPlaces old new → (present : ℕ → State) (values : List (Option StyleValue)) (node : ℕ) (property : Property) → value_around new present values node property ≡ value_around old present values node property
unfolding value_around element_around
around-same old new places present values node property = ap (λ (o : Option ℕ). option_map_or (λ up. cell_of values up (present up) property) (if is_inherited property then o else None) (Some (initial_of property))) (places.parents node)

paths-same : (old new : List Item) → KeepsPlaces old new → (up : Option ℕ) → option_map_or (path_of new) up [] ≡ option_map_or (path_of old) up []
paths-same old new places None = refl
paths-same old new places (Some up) = places.paths up

-- the styles of the one are those of the other
pub right-same : (old new : List Item) → SameSubjects old new → (present : ℕ → State) (styles : StylesState) → IsRight old present styles → IsRight new present styles
unfolding IsRight
right-same old new same present styles right =
    record {
      room = omega (arith, right.room, same.places.count);
      writes = right.writes;
      room_kept = omega (arith, right.room_kept, same.places.count);
      said = λ node state property within. right.said node state property (omega (arith, within, same.places.count)) ∙ sym (said-same old new same styles.sources.rules node state property);
      values = λ node state property value e. ap (λ (o : Option StyleValue). option_or o (value_around new present styles.kept.values node property)) (own-same old new same styles.sources node state property) ∙ ap (option_or (own_value old styles.sources node state property)) (around-same old new same.places present styles.kept.values node property) ∙ right.values node state property value e;
      paths = λ node. same.places.paths node ∙ right.paths node ∙ ap (λ (l : List ℕ). node ∷ l) (sym (ap (λ (o : Option ℕ). option_map_or (path_of new) o []) (same.places.parents node) ∙ paths-same old new same.places (parent_of old node)));
      parents = λ node up e. let was = right.parents node up (sym (same.places.parents node) ∙ e) in (was.0, omega (arith, was.1, same.places.count));
    }

first_own-same : (old new : List Item) → SameSubjects old new → (sources : Sources) (property : Property) (places : List Place) → first_own new sources property places ≡ first_own old sources property places
first_own-same old new same sources property [] = refl
first_own-same old new same sources property (at ∷ more) =
    ap (λ (o : Option StyleValue). option_or o (first_own new sources property more)) (own-same old new same sources at.node at.state property)
    ∙ ap (option_or (own_value old sources at.node at.state property)) (first_own-same old new same sources property more)

above-same : (old new : List Item) → KeepsPlaces old new → (present : ℕ → State) (node : ℕ) → places_above new present node ≡ places_above old present node
above-same old new places present node = ap (map (λ up. place up (present up))) (ap (λ (o : Option ℕ). option_map_or (path_of new) o []) (places.parents node) ∙ paths-same old new places (parent_of old node))

-- and so are their values
pub value-same : (old new : List Item) → SameSubjects old new → (sources : Sources) (present : ℕ → State) (node : ℕ) (state : State) (property : Property) → style_value new sources present node state property ≡ style_value old sources present node state property
unfolding style_value
value-same old new same sources present node state property =
    ap (λ (o : Option StyleValue). unwrap_or o (initial_of property))
    (ap (λ (l : List Place). first_own new sources property (place node state ∷ (if is_inherited property then l else []))) (above-same old new same.places present node)
    ∙ first_own-same old new same sources property (asked_places old present node state property))

pub value_of-attributes : (old new : List Item) (node : ℕ) (name : List ℕ) → attributes_of new node ≡ attributes_of old node → value_of new node name ≡ value_of old node name
value_of-attributes old new node name e = ap (λ (a : List Attribute). value_in a name) e
