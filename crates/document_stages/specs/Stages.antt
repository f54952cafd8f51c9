-- A device of the proofs: what a stage keeps.
use Rattle.std.specs.Prelude.{ℕ, List, IfSome, Option}
use Rattle.dom_tree.specs.Items.{IsElement, Item}
use Rattle.dom_tree.specs.declared.node_ids.NodeId.{NodeId}
use Rattle.style_cascade.specs.Keeping.{StylesState}
use Rattle.style_cascade.specs.StyledTrees.{AreStylesOf}
use Rattle.style_cascade.specs.declared.states.Focus.{Focus}
use Rattle.document_stages.specs.Acting.{Acting}

-- what is acted on; how many values its styles worked out; and how many they owe: the number of
-- pairs of an element and a property whose value in the element's present state isn't kept
pub record StageState : Type 0 where
  pub acting : Acting
  pub worked : ℕ
  pub owed : ℕ

-- it is an element, where there is one
abbrev pub IsElementOf : List Item → Option NodeId → Type 0
IsElementOf items node = IfSome node (λ n. IsElement items n.0)

-- the styles are those of the tree and the focus, and elements have the focus and are active
pub record IsStaged (items : List Item) (focus : Focus) (styles : StylesState) : Type 0 where
  pub right : AreStylesOf items focus styles
  pub focus_is : IsElementOf items focus.focus
  pub active_is : IsElementOf items focus.active
