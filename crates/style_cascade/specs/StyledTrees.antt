-- A document's nodes, its styles and its focus as one thing, since the value of a property hangs on
-- all three. (This project's own.)
use Rattle.std.specs.Prelude.{ℕ, List}
use Rattle.dom_tree.specs.Items.{Item}
use Rattle.style_reader.specs.declared.properties.Property.{Property}
use Rattle.style_reader.specs.declared.properties.StyleValue.{StyleValue}
use Rattle.style_cascade.specs.Cascade.{Sources, style_value}
use Rattle.style_cascade.specs.Keeping.{IsRight, StylesState}
use Rattle.style_cascade.specs.States.{present_state}
use Rattle.style_cascade.specs.declared.states.Focus.{Focus}
use Rattle.style_cascade.specs.declared.states.State.{State}

-- the nodes of a document, what their styles come from, and which of them have the focus and are
-- active
pub record StyledTree : Type 0 where
  pub items : List Item
  pub sources : Sources
  pub focus : Focus

-- the tree, the styles and the focus that stand side by side in a call
abbrev pub styled_tree : List Item → StylesState → Focus → StyledTree
styled_tree items styles focus =
    record { items = items; sources = styles.sources; focus = focus }

-- the styles are those of this tree, where the focus stands so
abbrev pub AreStylesOf : List Item → Focus → StylesState → Type 0
AreStylesOf items focus styles = IsRight items (present_state focus) styles

-- the value of a property that an element has in a state
abbrev pub styled_value : StyledTree → ℕ → State → Property → StyleValue
styled_value tree node state property =
    style_value tree.items tree.sources (present_state tree.focus) node state property
