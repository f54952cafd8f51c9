-- What a key does by default, where an element has the focus (after the default actions of BML,
-- ARIB STD-B24 volume 2, in this project's own profile).
use Rattle.std.specs.Prelude.{ℕ, List, Option, None, codes}
use Rattle.std.specs.Option.{option_map_or}
use Rattle.dom_tree.specs.NodeNumbers.{number_of}
use Rattle.style_reader.specs.declared.properties.Property.{Property}
use Rattle.style_reader.specs.declared.properties.Property.TheVariants.{NavUp, NavDown, NavLeft, NavRight}
use Rattle.style_reader.specs.declared.properties.StyleValue.{StyleValue}
use Rattle.style_reader.specs.declared.properties.StyleValue.TheVariants.{Whole}
use Rattle.style_cascade.specs.StyledTrees.{StyledTree}
use Rattle.focus_keys.specs.KeyTables.{key_of}
use Rattle.focus_keys.specs.declared.keys.Key.{Key}
use Rattle.focus_keys.specs.declared.keys.Key.TheVariants.{Up, Down, Left, Right, Enter, Blue, Red, Green, Yellow}
use Rattle.focus_keys.specs.Targets.{access_target_of, nav_target_of, normal_value}

-- nothing; the focus moves to an element; the focus becomes active and is clicked; an element is
-- given the focus and clicked. Elements are named by their numbers.
pub data Action : Type 0 where
  NoAction : Action
  Moves : (node : ℕ) → Action
  Activates : (node : ℕ) → Action
  Accesses : (node : ℕ) → Action

-- the element that a value names by its nav-index, and none for `none`
abbrev pub target_of_value : StyledTree → StyleValue → Option ℕ
target_of_value tree (Whole number) = nav_target_of tree number
target_of_value tree other = None

-- an arrow moves the focus to the element that the focus names for it in the normal state
abbrev pub move_from : StyledTree → ℕ → Property → Action
move_from tree focus property =
    option_map_or Moves (target_of_value tree (normal_value tree focus property)) NoAction

-- a colour key gives the focus to the first element with its letter
abbrev pub access_by : StyledTree → List ℕ → Action
access_by tree letter = option_map_or Accesses (access_target_of tree letter) NoAction

-- what a key does where this element has the focus
unfoldable pub action_at : StyledTree → ℕ → Key → Action
action_at tree focus Up = move_from tree focus NavUp
action_at tree focus Down = move_from tree focus NavDown
action_at tree focus Left = move_from tree focus NavLeft
action_at tree focus Right = move_from tree focus NavRight
action_at tree focus Enter = Activates focus
action_at tree focus Blue = access_by tree (codes "B")
action_at tree focus Red = access_by tree (codes "R")
action_at tree focus Green = access_by tree (codes "G")
action_at tree focus Yellow = access_by tree (codes "Y")
action_at tree focus other = NoAction

-- what the key of this number does; where no element has the focus nothing is done
unfoldable pub action_of : StyledTree → ℕ → Action
action_of tree number =
    option_map_or (λ focus. option_map_or (action_at tree focus) (key_of number) NoAction)
    (number_of tree.focus.focus) NoAction
