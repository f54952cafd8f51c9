-- The lines of a display list, each ended by a line feed, with one space between fields. (This
-- project's own.)
use Rattle.std.specs.Prelude.{ℕ, nat_lt, if◌then◌else◌, ℤ, List, [], ◌∷◌, ◌++◌, length, Option, Some, option_map, codes}
use Rattle.std.specs.Option.{option_map_or}
use Rattle.std.specs.List.{flat_map, join_with_byte, range_with_len}
use Rattle.bml_bytes.specs.Codes.{bytes_of}
use Rattle.bml_bytes.specs.Escapes.{escaped}
use Rattle.bml_bytes.specs.declared.line_fields.Escapes.TheVariants.{Controls, ControlsAndSpace}
use Rattle.bml_bytes.specs.Numerals.{decimal_digits, signed_decimal_digits}
use Rattle.dom_tree.specs.Items.{Item, parent_of, text_of, value_of}
use Rattle.display_list.specs.Shown.{Shown, style_at}
use Rattle.display_list.specs.Places.{boxes_of, has_tag, is_break_tag, is_held_by, is_input_tag, is_object_tag, is_visible, place_of}
use Rattle.display_list.specs.declared.node_styles.NodeStyle.{NodeStyle}
use Rattle.display_list.specs.declared.places.Place.{Place}

-- ---- lines

-- `show CLOCK`
unfoldable pub clock_line : ℕ → List ℕ
clock_line clock = codes "show " ++ decimal_digits clock ++ codes "\n"

-- `X Y W H`
unfoldable pub place_fields : Place → List ℕ
place_fields place =
    join_with_byte 32
    (signed_decimal_digits place.x ∷ signed_decimal_digits place.y ∷ signed_decimal_digits
    place.width ∷ signed_decimal_digits place.height ∷ [])

-- one number more
abbrev pub number_field : ℤ → List ℕ
number_field number = codes " " ++ signed_decimal_digits number

-- `box X Y W H BACKGROUND BORDERWIDTH BORDERCOLOR`
unfoldable pub box_line : Place → NodeStyle → List ℕ
box_line place style =
    codes "box " ++ place_fields place ++ number_field style.background ++ number_field style.border_width ++ number_field style.border_color ++ codes "\n"

-- `text X Y W H COLOR SIZE BYTES`, with the place of a box, and the style of the element that the
-- text hangs in
abbrev pub text_front : Place → NodeStyle → List ℕ
text_front place style =
    codes "text " ++ place_fields place ++ number_field style.color ++ number_field style.font_size ++ codes " "

unfoldable pub text_line : Place → NodeStyle → List ℕ → List ℕ
text_line place style bytes = text_front place style ++ bytes ++ codes "\n"

-- `picture X Y W H TYPE NAME`
abbrev pub picture_front : Place → List ℕ
picture_front place = codes "picture " ++ place_fields place ++ codes " "

unfoldable pub picture_line : Place → List ℕ → List ℕ → List ℕ
picture_line place media_type name =
    picture_front place ++ media_type ++ codes " " ++ name ++ codes "\n"

-- `focus X Y W H`
unfoldable pub focus_line : Place → List ℕ
focus_line place = codes "focus " ++ place_fields place ++ codes "\n"

-- ---- what stands in a box

-- the bytes that a node inside a line of text prints: those of a text, and a line feed for a `br`
abbrev pub line_bytes : List Item → ℕ → Option (List ℕ)
line_bytes items node =
    if has_tag is_break_tag items node then Some (codes "%0A")
    else option_map (λ text. escaped Controls (bytes_of text)) (text_of items node)

abbrev pub bytes_lines : Place → NodeStyle → List ℕ → List ℕ
bytes_lines place style bytes = if style.is_visible then text_line place style bytes else []

-- the line of a text or a `br` in a box, where the element that it hangs in is visible
abbrev pub hanging_lines : Shown → Place → ℕ → ℕ → List ℕ
hanging_lines shown place up node =
    option_map_or (bytes_lines place (style_at shown up)) (line_bytes shown.items node) []

-- the line of a node, where it is a text or a `br` of this box
unfoldable pub held_lines : Shown → ℕ → ℕ → List ℕ
held_lines shown box node =
    if is_held_by shown.items box node
    then option_map_or (λ up. hanging_lines shown (place_of shown box) up node) (parent_of shown.items node) []
    else []

-- the lines of the texts of a box, in document order
unfoldable pub text_lines : Shown → ℕ → List ℕ
text_lines shown box = flat_map (held_lines shown box) (range_with_len 0 (length shown.items))

-- the line of an input, where it has a value
unfoldable pub input_lines : Shown → ℕ → List ℕ
input_lines shown node =
    option_map_or (λ value. text_line (place_of shown node) (style_at shown node) (escaped Controls (bytes_of value))) (value_of shown.items node (codes "value")) []

-- a field of a text, and a hyphen where it is empty
abbrev pub field_of : List ℕ → List ℕ
field_of text = if nat_lt 0 (length text) then escaped ControlsAndSpace (bytes_of text) else codes "-"

-- the field of an attribute, and a hyphen where the element lacks it
abbrev pub attribute_field : List Item → ℕ → List ℕ → List ℕ
attribute_field items node name = option_map_or field_of (value_of items node name) (codes "-")

unfoldable pub object_line : Shown → ℕ → List ℕ
object_line shown node =
    picture_line (place_of shown node) (attribute_field shown.items node (codes "type")) (attribute_field shown.items node (codes "data"))

-- what stands in a box: the value of an input, the picture of an object, the texts of the others
unfoldable pub inside_lines : Shown → ℕ → List ℕ
inside_lines shown node =
    if has_tag is_input_tag shown.items node then input_lines shown node
    else if has_tag is_object_tag shown.items node then object_line shown node
    else text_lines shown node

-- a box and what stands in it
unfoldable pub element_lines : Shown → ℕ → List ℕ
element_lines shown node =
    box_line (place_of shown node) (style_at shown node) ++ inside_lines shown node

-- ---- the whole list

unfoldable pub focus_lines_of : Shown → ℕ → List ℕ
focus_lines_of shown node = if is_visible shown node then focus_line (place_of shown node) else []

-- the line of the focus, where there is one and it is visible
abbrev pub focus_lines : Shown → Option ℕ → List ℕ
focus_lines shown focus = option_map_or (focus_lines_of shown) focus []

-- The display list of a document with this focus: its boxes, and then the focus.
unfoldable pub display_lines : Shown → Option ℕ → List ℕ
display_lines shown focus = flat_map (element_lines shown) (boxes_of shown) ++ focus_lines shown focus
