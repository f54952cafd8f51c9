-- The value that an element has for a property in a state (CSS level 1, 1.3 and 3.2; that what
-- scripts write counts first, and that an inherited value is that of the present state of the
-- element above, is this project's own).
use Rattle.std.specs.Prelude.{ℕ, List, [], ◌∷◌, Option, None, is_some, map, option_and_then, unwrap_or, if◌then◌else◌}
use Rattle.std.specs.Option.{option_map_or, option_or}
use Rattle.dom_tree.specs.Items.{Item, parent_of}
use Rattle.dom_tree.specs.Walks.{path_of}
use Rattle.style_reader.specs.Properties.{initial_of, is_inherited}
use Rattle.style_reader.specs.declared.properties.Property.{Property}
use Rattle.style_reader.specs.declared.properties.StyleValue.{StyleValue}
use Rattle.style_reader.specs.declared.rules.Rule.{Rule}
use Rattle.style_cascade.specs.Candidates.{declared_value, inline_value}
use Rattle.style_cascade.specs.Matching.{subject_of}
use Rattle.style_cascade.specs.Writes.{StyleWrites, cell, written_value, with_value}
use Rattle.style_cascade.specs.declared.states.State.{State}
use Rattle.style_cascade.specs.declared.states.State.TheVariants as states
use Rattle.style_cascade.specs.declared.subjects.Subject.{Subject}

-- what values come from: the rules of the style texts, and what scripts have written
pub record Sources : Type 0 where
  pub rules : List Rule
  pub writes : StyleWrites

-- the sources of a document before a script has written
abbrev pub unwritten : List Rule → Sources
unwritten rules = record { rules = rules; writes = [] }

-- what was written last for the node, the state and the property
abbrev pub write_of : Sources → ℕ → State → Property → Option StyleValue
write_of sources node state property = written_value (cell node state property) sources.writes

-- the sources once a script has written: this value is what was written last for the node, the
-- state and the property, and all else is as it was
abbrev pub with_write : ℕ → State → Property → StyleValue → Sources → Sources
with_write node state property value sources =
    record sources { writes = with_value (cell node state property) value sources.writes }

-- the inline declaration, and without one that of the rules
abbrev pub said_to : List Rule → State → Property → Subject → Option StyleValue
said_to rules state property subject =
    option_or (inline_value subject state property) (declared_value rules subject state property)

unfoldable pub said_value : List Item → List Rule → ℕ → State → Property → Option StyleValue
said_value items rules node state property =
    option_and_then (said_to rules state property) (subject_of items node)

-- What is said of the node itself: what was written for this state, then what was written for the
-- normal one, and then what is declared.
abbrev pub own_value : List Item → Sources → ℕ → State → Property → Option StyleValue
own_value items sources node state property =
    option_or (write_of sources node state property)
    (option_or (write_of sources node states.Normal property)
    (said_value items sources.rules node state property))

-- an element in a state
pub record Place : Type 0 where
  pub node : ℕ
  pub state : State

abbrev pub place : ℕ → State → Place
place node state = record { node = node; state = state }

-- the elements that the node stands in, in their present states
abbrev pub places_above : List Item → (ℕ → State) → ℕ → List Place
places_above items present node =
    map (λ up. place up (present up)) (option_map_or (path_of items) (parent_of items node) [])

-- where a value is looked for: at the element itself, and where the property is inherited also
-- above it
abbrev pub asked_places : List Item → (ℕ → State) → ℕ → State → Property → List Place
asked_places items present node state property =
    place node state
    ∷ (if is_inherited property then places_above items present node else [])

-- the first that says something
abbrev pub first_own : List Item → Sources → Property → List Place → Option StyleValue
first_own items sources property [] = None
first_own items sources property (at ∷ more) =
    option_or (own_value items sources at.node at.state property)
    (first_own items sources property more)

-- the value of the property, where every element has its present state
unfoldable pub style_value : List Item → Sources → (ℕ → State) → ℕ → State → Property → StyleValue
style_value items sources present node state property =
    unwrap_or (first_own items sources property (asked_places items present node state property))
    (initial_of property)

-- those up to and with the first that says something
abbrev pub up_to_said : List Item → Sources → Property → List Place → List Place
up_to_said items sources property [] = []
up_to_said items sources property (at ∷ more) =
    at ∷ (if is_some (own_value items sources at.node at.state property) then []
    else up_to_said items sources property more)

-- the chain of a value: where it is looked for, and all these places have this value
unfoldable pub chain_of : List Item → Sources → (ℕ → State) → ℕ → State → Property → List Place
chain_of items sources present node state property =
    up_to_said items sources property (asked_places items present node state property)
