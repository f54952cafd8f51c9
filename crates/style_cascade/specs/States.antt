-- The states in which an element has a style (after the normalStyle, focusStyle and activeStyle of
-- BML, ARIB STD-B24 volume 2).
use Rattle.std.specs.Prelude.{ℕ, ◌==◌, Bool, false, Option, Some, None, if◌then◌else◌}
use Rattle.dom_tree.specs.declared.node_ids.NodeId.{NodeId}
use Rattle.style_cascade.specs.declared.states.Focus.{Focus}
use Rattle.style_cascade.specs.declared.states.State.{State}
use Rattle.style_cascade.specs.declared.states.State.TheVariants as states

-- it is the node of this number
abbrev pub is_node : ℕ → Option NodeId → Bool
is_node number None = false
is_node number (Some node) = node.0 == number

-- the state that a node has: that of the active element, then that of the focus
unfoldable pub present_state : Focus → ℕ → State
present_state focus node =
    if is_node node focus.active then states.Active
    else if is_node node focus.focus then states.Focus
    else states.Normal
