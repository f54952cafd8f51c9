-- Which elements can have the focus, and which of them a number or a letter names (after the
-- nav-index and the accesskey of BML, ARIB STD-B24 volume 2, in this project's own profile).
use Rattle.std.specs.Prelude.{ℕ, ◌&&◌, ◌||◌, Bool, true, false, ℤ, List, length, Option, codes, find}
use Rattle.std.specs.List.{range_with_len}
use Rattle.std.specs.Option.{option_map_or}
use Rattle.std.specs.Ordering.{int_eq}
use Rattle.bml_bytes.specs.Words.{is_same}
use Rattle.dom_tree.specs.Items.{Item, tag_of, value_of}
use Rattle.style_reader.specs.declared.properties.Property.TheVariants.{NavIndex, Visibility}
use Rattle.style_reader.specs.declared.properties.StyleValue.{StyleValue}
use Rattle.style_reader.specs.declared.properties.StyleValue.TheVariants.{Visible, Whole}
use Rattle.style_reader.specs.declared.properties.Property.{Property}
use Rattle.style_cascade.specs.StyledTrees.{StyledTree, styled_value}
use Rattle.style_cascade.specs.declared.states.State.TheVariants as states

-- the value of a property of an element in the normal state
abbrev pub normal_value : StyledTree → ℕ → Property → StyleValue
normal_value tree node property = styled_value tree node states.Normal property

-- the number that a property gives, and none where it is `none`
abbrev pub is_number : ℤ → StyleValue → Bool
is_number number (Whole other) = int_eq number other
is_number number other = false

abbrev pub is_some_number : StyleValue → Bool
is_some_number (Whole number) = true
is_some_number other = false

abbrev pub is_visible_value : StyleValue → Bool
is_visible_value Visible = true
is_visible_value other = false

-- the elements that can have the focus, by their tags
abbrev pub is_focus_tag : List ℕ → Bool
is_focus_tag tag =
    is_same tag (codes "p")
    || (is_same tag (codes "div")
    || (is_same tag (codes "span")
    || (is_same tag (codes "a") || (is_same tag (codes "input") || is_same tag (codes "object")))))

-- Such an element can have the focus where it has a nav-index and is visible, both in the normal
-- state.
unfoldable pub can_have_focus : StyledTree → ℕ → Bool
can_have_focus tree node =
    option_map_or is_focus_tag (tag_of tree.items node) false
    && (is_some_number (normal_value tree node NavIndex)
    && is_visible_value (normal_value tree node Visibility))

-- the nodes in document order
abbrev pub all_nodes : StyledTree → List ℕ
all_nodes tree = range_with_len 0 (length tree.items)

-- the first element in document order that can have the focus and has this nav-index
unfoldable pub nav_target_of : StyledTree → ℤ → Option ℕ
nav_target_of tree number =
    find (λ node. can_have_focus tree node
    && is_number number (normal_value tree node NavIndex)) (all_nodes tree)

-- the element's accesskey is this letter alone
abbrev pub has_access_key : List Item → List ℕ → ℕ → Bool
has_access_key items letter node =
    option_map_or (is_same letter) (value_of items node (codes "accesskey")) false

-- the first element in document order that can have the focus and has this accesskey
unfoldable pub access_target_of : StyledTree → List ℕ → Option ℕ
access_target_of tree letter =
    find (λ node. can_have_focus tree node && has_access_key tree.items letter node)
    (all_nodes tree)
