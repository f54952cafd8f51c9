-- A device of the proofs: what the values that the code keeps stand for.
use Rattle.std.specs.Prelude.{◌≡◌, ℕ, ◌*◌, ◌+◌, ◌<◌, false, ℤ, pos, ◌+ℤ◌, ◌≤ℤ◌, List, length, slice_index_or, Option, Some, None, option_map, codes, if◌then◌else◌}
use Rattle.std.specs.Option.{option_map_or}
use Rattle.dom_tree.specs.Items.{Item, parent_of}
use Rattle.dom_tree.specs.Walks.{path_of, IsTree}
use Rattle.dom_tree.specs.declared.node_ids.NodeId.{NodeId}
use Rattle.display_list.specs.Shown.{Shown}
use Rattle.display_list.specs.Places.{has_tag, holder_of, is_box_tag, is_inline_tag, is_under_body, level_of, total_of}
use Rattle.display_list.specs.declared.node_styles.NodeStyle.{NodeStyle}
use Rattle.display_list.specs.declared.places.NodePlace.{NodePlace}
use Rattle.display_list.specs.declared.scenes.DrawnBox.{DrawnBox}
use Rattle.display_list.specs.declared.scenes.Names.{Names}
use Rattle.display_list.specs.declared.scenes.Scene.{Scene}

-- where the boxes in a node begin to count from: the sum of the boxes from the node up
unfoldable pub origin_of : (NodeStyle → ℤ) → Shown → ℕ → ℤ
origin_of offset shown node = total_of offset shown (path_of shown.items node)

abbrev pub node_id : ℕ → NodeId
node_id number = record { 0 = number }

-- where a node stands
abbrev pub node_place_of : Shown → ℕ → NodePlace
node_place_of shown node =
    record {
      x = origin_of (λ style. style.left) shown node;
      y = origin_of (λ style. style.top) shown node;
      is_under_body = is_under_body shown.items node;
      holder = option_map node_id (holder_of shown.items node);
    }

-- what the root stands in
abbrev pub node_place_outside : NodePlace
node_place_outside =
    record {
      x = pos 0;
      y = pos 0;
      is_under_body = false;
      holder = None;
    }

-- where the element stands that a node hangs in
abbrev pub node_place_around : Shown → ℕ → NodePlace
node_place_around shown node =
    option_map_or (node_place_of shown) (parent_of shown.items node) node_place_outside

-- where that element stands, in the list of where each stands
abbrev pub place_in : List NodePlace → Option ℕ → NodePlace
place_in places up = option_map_or (λ n. slice_index_or places n node_place_outside) up node_place_outside

-- the holder of what hangs in that element, where `outer` holds what hangs where it does
abbrev pub holder_inside : List Item → Option NodeId → Option ℕ → Option NodeId
holder_inside items outer None = None
holder_inside items outer (Some up) = if has_tag is_inline_tag items up then outer else Some (node_id up)

-- what a node adds to the places of what stands in it
abbrev pub added_by : List Item → ℕ → ℤ → ℤ
added_by items node offset = if has_tag is_box_tag items node then offset else pos 0

abbrev pub shown_in : List Item → List NodeStyle → Shown
shown_in items styles = record { items = items; styles = styles }

-- a sum of the offsets of the nodes up to this one
pub record IsNear (node : ℕ) (sum : ℤ) : Type 0 where
  pub low : pos 0 ≤ℤ (sum +ℤ pos (32768 * (node + 1)))
  pub high : sum ≤ℤ pos (32768 * (node + 1))

pub record IsNearPlace (node : ℕ) (place : NodePlace) : Type 0 where
  pub x : IsNear node place.x
  pub y : IsNear node place.y

-- where the first nodes stand
pub record ArePlaces (shown : Shown) (count : ℕ) (places : List NodePlace) : Type 0 where
  pub count_is : length places ≡ count
  pub each : (node : ℕ) (other : NodePlace) → node < count
      → slice_index_or places node other ≡ node_place_of shown node
  pub near : (node : ℕ) (other : NodePlace) → node < count
      → IsNearPlace node (slice_index_or places node other)

-- an element that is drawn
abbrev pub drawn_box : Shown → ℕ → DrawnBox
drawn_box shown node = record { node = node_id node; level = level_of shown node }

-- the names of the attributes that are shown
pub record AreNames (names : Names) : Type 0 where
  pub value : names.value ≡ codes "value"
  pub media_type : names.media_type ≡ codes "type"
  pub data_name : names.data_name ≡ codes "data"

abbrev pub shown_of : Scene → Shown
shown_of scene = shown_in scene.tree.now scene.styles.items

-- what is kept of a document is what is shown of it
pub record IsScene (scene : Scene) : Type 0 where
  pub tree : IsTree scene.tree.now
  pub styles : length scene.styles.items ≡ length scene.tree.now
  pub places : ArePlaces (shown_of scene) (length scene.tree.now) scene.places.items
  pub names : AreNames scene.names
