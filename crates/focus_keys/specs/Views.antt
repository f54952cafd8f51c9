-- How the code keeps what the definitions speak of. (This project's own.)
use Rattle.std.specs.Prelude.{ℕ, ℤ, Bool, false, ◌&&◌, List, Option, Some, None}
use Rattle.std.specs.Option.{option_map_or}
use Rattle.dom_tree.specs.Items.{Item, tag_of}
use Rattle.dom_tree.specs.declared.node_ids.NodeId.{NodeId}
use Rattle.style_reader.specs.declared.properties.Property.TheVariants.{NavIndex}
use Rattle.style_cascade.specs.StyledTrees.{StyledTree}
use Rattle.focus_keys.specs.Defaults.{Action}
use Rattle.focus_keys.specs.Defaults.Action.{NoAction, Moves, Activates, Accesses}
use Rattle.focus_keys.specs.Targets.{can_have_focus, has_access_key, is_focus_tag, is_number, normal_value}
use Rattle.focus_keys.specs.declared.defaults.KeyDefault.{KeyDefault}
use Rattle.focus_keys.specs.declared.defaults.KeyDefault.TheVariants.{Nothing, Move, Activate, Access}
use Rattle.focus_keys.specs.declared.groups.KeyGroups.{KeyGroups}

-- the tests of a node, as the definitions of the targets have them

abbrev pub has_focus_tag : List Item → ℕ → Bool
has_focus_tag items node = option_map_or is_focus_tag (tag_of items node) false

abbrev pub is_nav_target : StyledTree → ℤ → ℕ → Bool
is_nav_target tree number node =
    can_have_focus tree node && is_number number (normal_value tree node NavIndex)

abbrev pub is_access_target : StyledTree → List ℕ → ℕ → Bool
is_access_target tree letter node =
    can_have_focus tree node && has_access_key tree.items letter node

-- the bits of some groups of keys
abbrev pub bits_of : KeyGroups → ℕ
bits_of groups = groups.0

-- what a key does, where elements are named by their numbers
abbrev pub seen_default : KeyDefault → Action
seen_default Nothing = NoAction
seen_default (Move node) = Moves node.0
seen_default (Activate node) = Activates node.0
seen_default (Access node) = Accesses node.0

-- the element that it is done to
abbrev pub named_node : KeyDefault → Option NodeId
named_node Nothing = None
named_node (Move node) = Some node
named_node (Activate node) = Some node
named_node (Access node) = Some node
