-- Which elements of a document are drawn, in which order, where they stand, and whose texts are
-- whose (boxes of BML, ARIB STD-B24 volume 2, in this project's own profile).
use Rattle.std.specs.Prelude.{ℕ, ◌==◌, Bool, false, not, ◌&&◌, ◌||◌, if◌then◌else◌, ℤ, pos, ◌+ℤ◌, int_le, List, [], ◌∷◌, length, map, Option, find, codes}
use Rattle.std.specs.Option.{option_map_or}
use Rattle.std.specs.List.{list_any, filter, range_with_len}
use Rattle.bml_bytes.specs.Words.{is_same}
use Rattle.dom_tree.specs.Items.{Item, parent_of, tag_of}
use Rattle.dom_tree.specs.Walks.{path_of}
use Rattle.display_list.specs.Bodies.{body_of, is_body_tag}
use Rattle.display_list.specs.Shown.{Shown, style_at}
use Rattle.display_list.specs.declared.node_styles.NodeStyle.{NodeStyle}
use Rattle.display_list.specs.declared.places.Place.{Place}

-- ---- tags; they compare by case

abbrev pub is_input_tag : List ℕ → Bool
is_input_tag tag = is_same tag (codes "input")

abbrev pub is_object_tag : List ℕ → Bool
is_object_tag tag = is_same tag (codes "object")

abbrev pub is_break_tag : List ℕ → Bool
is_break_tag tag = is_same tag (codes "br")

-- the elements that have a box
abbrev pub is_box_tag : List ℕ → Bool
is_box_tag tag =
    is_body_tag tag
    || (is_same tag (codes "div") || (is_same tag (codes "p") || (is_input_tag tag || is_object_tag tag)))

-- the elements inside a line of text
abbrev pub is_inline_tag : List ℕ → Bool
is_inline_tag tag = is_same tag (codes "span") || is_same tag (codes "a")

-- the node is an element with such a tag
abbrev pub has_tag : (List ℕ → Bool) → List Item → ℕ → Bool
has_tag test items node = option_map_or test (tag_of items node) false

-- ---- which are drawn

-- the node is the body or stands under it, at any depth
unfoldable pub is_under_body : List Item → ℕ → Bool
is_under_body items node =
    option_map_or (λ body. list_any (λ up. up == body) (path_of items node)) (body_of items) false

abbrev pub is_visible : Shown → ℕ → Bool
is_visible shown node = (style_at shown node).is_visible

-- A visible element inside a hidden one is drawn too.
unfoldable pub is_drawn : Shown → ℕ → Bool
is_drawn shown node =
    has_tag is_box_tag shown.items node && (is_under_body shown.items node && is_visible shown node)

-- the elements that are drawn, in document order
unfoldable pub drawn_nodes : Shown → List ℕ
drawn_nodes shown = filter (is_drawn shown) (range_with_len 0 (length shown.items))

-- ---- in which order

-- some that are in order, with one more that stands before those of its own level
abbrev pub with_next : {A : Type 0} → (A → ℤ) → A → List A → List A
with_next level one [] = one ∷ []
with_next level one (other ∷ others) =
    if int_le (level one) (level other) then one ∷ other ∷ others
    else other ∷ with_next level one others

-- By their levels, the lowest first; those of one level keep their order.
unfoldable pub in_order : {A : Type 0} → (A → ℤ) → List A → List A
in_order level [] = []
in_order level (one ∷ others) = with_next level one (in_order level others)

abbrev pub level_of : Shown → ℕ → ℤ
level_of shown node = (style_at shown node).level

-- the elements that are drawn, as they are drawn one over the other
unfoldable pub boxes_of : Shown → List ℕ
boxes_of shown = in_order (level_of shown) (drawn_nodes shown)

-- ---- where they stand, in pixels

-- the elements that a node stands in, the nearest first
abbrev pub ancestors_of : List Item → ℕ → List ℕ
ancestors_of items node = option_map_or (path_of items) (parent_of items node) []

abbrev pub total : List ℤ → ℤ
total [] = pos 0
total (number ∷ numbers) = number +ℤ total numbers

-- the sum of what those of these nodes say that have a box
abbrev pub total_of : (NodeStyle → ℤ) → Shown → List ℕ → ℤ
total_of offset shown nodes =
    total (map (λ node. offset (style_at shown node)) (filter (has_tag is_box_tag shown.items) nodes))

-- what the node's own style says, and all boxes that it stands in
unfoldable pub offset_of : (NodeStyle → ℤ) → Shown → ℕ → ℤ
offset_of offset shown node =
    offset (style_at shown node) +ℤ total_of offset shown (ancestors_of shown.items node)

-- the element's place on the screen
unfoldable pub place_of : Shown → ℕ → Place
place_of shown node =
    record {
      x = offset_of (λ style. style.left) shown node;
      y = offset_of (λ style. style.top) shown node;
      width = (style_at shown node).width;
      height = (style_at shown node).height;
    }

-- ---- whose texts are whose

-- the nearest element that a node stands in and that isn't inside a line of text
unfoldable pub holder_of : List Item → ℕ → Option ℕ
holder_of items node =
    find (λ up. not (has_tag is_inline_tag items up)) (ancestors_of items node)

abbrev pub is_held_by : List Item → ℕ → ℕ → Bool
is_held_by items box node = option_map_or (λ holder. holder == box) (holder_of items node) false
