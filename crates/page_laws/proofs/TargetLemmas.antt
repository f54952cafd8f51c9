-- What can have the focus, and what keys name, is an element.
use Rattle.std.proofs.Common.{◌≡◌, ℕ, Bool, true, false, List, [], ◌∷◌, Option, Some, None, refl}
use Rattle.std.specs.Prelude.{◌&&◌, codes, find, if◌then◌else◌, is_some, ℤ}
use Rattle.std.specs.Option.{option_map_or}
use Rattle.dom_tree.specs.Items.{Item, tag_of}
use Rattle.dom_tree.specs.NodeNumbers.{number_of}
use Rattle.style_reader.specs.declared.properties.Property.{Property}
use Rattle.style_reader.specs.declared.properties.Property.TheVariants.{NavUp, NavDown, NavLeft, NavRight}
use Rattle.style_reader.specs.declared.properties.StyleValue.{StyleValue}
use Rattle.style_reader.specs.declared.properties.StyleValue.TheVariants.{Whole}
use Rattle.style_cascade.specs.StyledTrees.{StyledTree}
use Rattle.focus_keys.specs.Defaults.{Action, access_by, action_at, action_of, move_from, target_of_value}
use Rattle.focus_keys.specs.Defaults.Action.{NoAction, Moves, Activates, Accesses}
use Rattle.focus_keys.specs.KeyTables.{key_of}
use Rattle.focus_keys.specs.declared.keys.Key.{Key}
use Rattle.focus_keys.specs.declared.keys.Key.TheVariants.{Up, Down, Left, Right, Enter, Blue, Red, Green, Yellow}
use Rattle.focus_keys.specs.Targets.{access_target_of, all_nodes, can_have_focus, is_focus_tag, nav_target_of, normal_value}
use Rattle.page_laws.specs.Soundness.{has_element, is_good_place}

-- ---- tests of elements

pub both-first : (a b : Bool) → (a && b) ≡ true → a ≡ true
both-first true b h = refl
both-first false b h = h

pub focus-element : (tree : StyledTree) (node : ℕ) → can_have_focus tree node ≡ true
    → has_element tree.items node ≡ true
unfolding can_have_focus
focus-element tree node h = by (tag_of tree.items node) (both-first _ _ h)
  where
    by : (tag : Option (List ℕ)) → option_map_or is_focus_tag tag false ≡ true
        → is_some tag ≡ true
    by None h = h
    by (Some tag) h = refl

found-element : (items : List Item) (test : ℕ → Bool)
    → ((node : ℕ) → test node ≡ true → has_element items node ≡ true) → (nodes : List ℕ)
    → is_good_place items (find test nodes) ≡ true
found-element items test is [] = refl
found-element items test is (node ∷ nodes) =
    by (test node) refl (found-element items test is nodes)
  where
    by : (t : Bool) → test node ≡ t → is_good_place items (find test nodes) ≡ true
        → is_good_place items (if t then Some node else find test nodes) ≡ true
    by true e more = is node e
    by false e more = more

pub nav-element : (tree : StyledTree) (number : ℤ)
    → is_good_place tree.items (nav_target_of tree number) ≡ true
unfolding nav_target_of
nav-element tree number =
    found-element tree.items _ (λ node h. focus-element tree node (both-first _ _ h))
    (all_nodes tree)

access-element : (tree : StyledTree) (letter : List ℕ)
    → is_good_place tree.items (access_target_of tree letter) ≡ true
unfolding access_target_of
access-element tree letter =
    found-element tree.items _ (λ node h. focus-element tree node (both-first _ _ h))
    (all_nodes tree)

-- ---- default actions

-- the action is done to an element
abbrev pub IsGoodAction : List Item → Action → Type 0
IsGoodAction items NoAction = Unit {0}
IsGoodAction items (Moves node) = has_element items node ≡ true
IsGoodAction items (Activates node) = has_element items node ≡ true
IsGoodAction items (Accesses node) = has_element items node ≡ true

move-good : (tree : StyledTree) (focus : ℕ) (property : Property)
    → IsGoodAction tree.items (move_from tree focus property)
move-good tree focus property = value (normal_value tree focus property)
  where
    by : (node : Option ℕ) → is_good_place tree.items node ≡ true
        → IsGoodAction tree.items (option_map_or Moves node NoAction)
    by None h = tt
    by (Some node) h = h

    value : (v : StyleValue)
        → IsGoodAction tree.items (option_map_or Moves (target_of_value tree v) NoAction)
    value (Whole number) = by (nav_target_of tree number) (nav-element tree number)
    value _ = tt

access-good : (tree : StyledTree) (letter : List ℕ) → IsGoodAction tree.items (access_by tree letter)
access-good tree letter =
    by (access_target_of tree letter) (access-element tree letter)
  where
    by : (node : Option ℕ) → is_good_place tree.items node ≡ true
        → IsGoodAction tree.items (option_map_or Accesses node NoAction)
    by None h = tt
    by (Some node) h = h

action_at-good : (tree : StyledTree) (focus : ℕ) (key : Key) → has_element tree.items focus ≡ true
    → IsGoodAction tree.items (action_at tree focus key)
unfolding action_at
action_at-good tree focus Up h = move-good tree focus NavUp
action_at-good tree focus Down h = move-good tree focus NavDown
action_at-good tree focus Left h = move-good tree focus NavLeft
action_at-good tree focus Right h = move-good tree focus NavRight
action_at-good tree focus Enter h = h
action_at-good tree focus Blue h = access-good tree (codes "B")
action_at-good tree focus Red h = access-good tree (codes "R")
action_at-good tree focus Green h = access-good tree (codes "G")
action_at-good tree focus Yellow h = access-good tree (codes "Y")
action_at-good tree focus _ h = tt

-- what a key does, where the focus is an element
pub action-good : (tree : StyledTree) (number : ℕ)
    → is_good_place tree.items (number_of tree.focus.focus) ≡ true
    → IsGoodAction tree.items (action_of tree number)
unfolding action_of
action-good tree number h = by (number_of tree.focus.focus) (key_of number) h
  where
    by : (focus : Option ℕ) (key : Option Key) → is_good_place tree.items focus ≡ true
        → IsGoodAction tree.items (option_map_or
        (λ focus. option_map_or (action_at tree focus) key NoAction) focus NoAction)
    by None key h = tt
    by (Some focus) None h = tt
    by (Some focus) (Some key) h = action_at-good tree focus key h
