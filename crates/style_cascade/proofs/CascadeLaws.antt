-- Inheritance.
use Rattle.std.proofs.Common.{◌≡◌, ℕ, Bool, true, false, List, [], ◌∷◌, Option, Some, None, refl, sym, ◌∙◌, ap}
use Rattle.std.specs.Prelude.{map, unwrap_or, if◌then◌else◌, IsTrue, IsFalse}
use Rattle.std.specs.Option.{option_map_or, option_or}
use Rattle.dom_tree.specs.Items.{Item, parent_of}
use Rattle.dom_tree.specs.Walks.{path_of}
use Rattle.style_reader.specs.Properties.{initial_of, is_inherited}
use Rattle.style_reader.specs.declared.properties.Property.{Property}
use Rattle.style_reader.specs.declared.properties.StyleValue.{StyleValue}
use Rattle.style_cascade.specs.Cascade.{Sources, first_own, own_value, place, places_above, style_value}
use Rattle.style_cascade.specs.declared.states.State.{State}

-- what an element has of which this is said itself, where above it there is that
abbrev value_with : Property → Option StyleValue → Option StyleValue → StyleValue
value_with property own above = unwrap_or (option_or own above) (initial_of property)

pub value-own : (items : List Item) (sources : Sources) (present : ℕ → State) (node : ℕ) (state : State) (property : Property) (value : StyleValue) → own_value items sources node state property ≡ Some value → style_value items sources present node state property ≡ value
unfolding style_value
value-own items sources present node state property value e =
    ap (λ (o : Option StyleValue). value_with property o (first_own items sources property (if is_inherited property then places_above items present node else []))) e

abbrev value_above : List Item → Sources → (ℕ → State) → ℕ → Property → Bool → StyleValue
value_above items sources present node property t = value_with property None (first_own items sources property (if t then places_above items present node else []))

value-unsaid : (items : List Item) (sources : Sources) (present : ℕ → State) (node : ℕ) (state : State) (property : Property) → own_value items sources node state property ≡ None → style_value items sources present node state property ≡ value_above items sources present node property (is_inherited property)
unfolding style_value
value-unsaid items sources present node state property e =
    ap (λ (o : Option StyleValue). value_with property o (first_own items sources property (if is_inherited property then places_above items present node else []))) e

pub value-others : (items : List Item) (sources : Sources) (present : ℕ → State) (node : ℕ) (state : State) (property : Property) → own_value items sources node state property ≡ None → IsFalse (is_inherited property) → style_value items sources present node state property ≡ initial_of property
value-others items sources present node state property e not_so = value-unsaid items sources present node state property e ∙ ap (value_above items sources present node property) not_so

none-above : (items : List Item) (sources : Sources) (present : ℕ → State) (node : ℕ) (property : Property) (t : Bool) → parent_of items node ≡ None → value_above items sources present node property t ≡ initial_of property
none-above items sources present node property false e = refl
none-above items sources present node property true e = ap (λ (o : Option ℕ). value_with property None (first_own items sources property (map (λ up. place up (present up)) (option_map_or (path_of items) o [])))) e

pub value-root : (items : List Item) (sources : Sources) (present : ℕ → State) (node : ℕ) (state : State) (property : Property) → own_value items sources node state property ≡ None → parent_of items node ≡ None → style_value items sources present node state property ≡ initial_of property
value-root items sources present node state property e root = value-unsaid items sources present node state property e ∙ none-above items sources present node property (is_inherited property) root

value-inherited : (items : List Item) (sources : Sources) (present : ℕ → State) (node : ℕ) (state : State) (property : Property) → IsTrue (is_inherited property) → style_value items sources present node state property ≡ value_with property (own_value items sources node state property) (first_own items sources property (places_above items present node))
unfolding style_value
value-inherited items sources present node state property inherits = ap (λ (t : Bool). value_with property (own_value items sources node state property) (first_own items sources property (if t then places_above items present node else []))) inherits

pub value-above : (items : List Item) (sources : Sources) (present : ℕ → State) (node up : ℕ) (state : State) (property : Property) → path_of items up ≡ up ∷ option_map_or (path_of items) (parent_of items up) [] → own_value items sources node state property ≡ None → IsTrue (is_inherited property) → parent_of items node ≡ Some up → style_value items sources present node state property ≡ style_value items sources present up (present up) property
value-above items sources present node up state property path e inherits parent =
    value-inherited items sources present node state property inherits
    ∙ ap (λ (o : Option StyleValue). value_with property o (first_own items sources property (places_above items present node))) e
    ∙ ap (λ (o : Option ℕ). value_with property None (first_own items sources property (map (λ up. place up (present up)) (option_map_or (path_of items) o [])))) parent
    ∙ ap (λ (l : List ℕ). value_with property None (first_own items sources property (map (λ up. place up (present up)) l))) path
    ∙ sym (value-inherited items sources present up (present up) property inherits)
