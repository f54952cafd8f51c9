-- The lines of a box and of the focus, from their parts.
use Rattle.std.proofs.Common.{◌≡◌, ◌<◌, ℕ, zero, suc, length, arith, true, false, List, [], ◌∷◌, ◌++◌, Option, Some, None, refl, sym, ap, ◌∙◌, append_assoc}
use Rattle.std.specs.Prelude.{codes, IfSome}
use Rattle.std.specs.Option.{option_map_or}
use Rattle.std.specs.List.{flat_map}
use Rattle.bml_bytes.specs.Codes.{bytes_of}
use Rattle.bml_bytes.specs.Escapes.{escaped}
use Rattle.bml_bytes.specs.declared.line_fields.Escapes.TheVariants.{Controls}
use Rattle.dom_tree.specs.Items.{Item, IsElement, value_of}
use Rattle.dom_tree.specs.declared.node_ids.NodeId.{NodeId}
use Rattle.display_list.specs.Shown.{Shown, style_at}
use Rattle.display_list.specs.Places.{boxes_of, has_tag, is_input_tag, is_object_tag, place_of}
use Rattle.display_list.specs.Show.{attribute_field, box_line, display_lines, element_lines, focus_line, focus_lines, focus_lines_of, input_lines, inside_lines, object_line, picture_line, text_line, text_lines}
use Rattle.display_list.specs.declared.node_styles.NodeStyle.{NodeStyle}
use Rattle.display_list.specs.declared.places.Place.{Place}

pub object_line-is : (shown : Shown) (node : ℕ) (place : Place) (media_type data_name out text : List ℕ) → place ≡ place_of shown node → media_type ≡ codes "type" → data_name ≡ codes "data" → text ≡ out ++ picture_line place (attribute_field shown.items node media_type) (attribute_field shown.items node data_name) → text ≡ out ++ object_line shown node
unfolding object_line
object_line-is shown node place media_type data_name out text p m d e = e ∙ (λ i. out ++ picture_line (p i) (attribute_field shown.items node (m i)) (attribute_field shown.items node (d i)))

input_line : Place → NodeStyle → Option (List ℕ) → List ℕ
input_line place style value = option_map_or (λ (v : List ℕ). text_line place style (escaped Controls (bytes_of v))) value []

pub input_lines-some : (shown : Shown) (node : ℕ) (place : Place) (style : NodeStyle) (name value : List ℕ) → place ≡ place_of shown node → style ≡ style_at shown node → name ≡ codes "value" → Some value ≡ value_of shown.items node name → text_line place style (escaped Controls (bytes_of value)) ≡ input_lines shown node
unfolding input_lines input_line
input_lines-some shown node place style name value p s n e = λ i. input_line (p i) (s i) ((e ∙ ap (value_of shown.items node) n) i)

pub input_lines-none : (shown : Shown) (node : ℕ) (name : List ℕ) → name ≡ codes "value" → None ≡ value_of shown.items node name → [] ≡ input_lines shown node
unfolding input_lines input_line
input_lines-none shown node name n e = λ i. input_line (place_of shown node) (style_at shown node) ((e ∙ ap (value_of shown.items node) n) i)

pub focus_lines_of-visible : (shown : Shown) (node : ℕ) (place : Place) (style : NodeStyle) → place ≡ place_of shown node → style ≡ style_at shown node → style.is_visible ≡ true → focus_line place ≡ focus_lines_of shown node
unfolding focus_lines_of
focus_lines_of-visible shown node place style p s v = rw (sym (ap (λ (t : NodeStyle). t.is_visible) s) ∙ v) (ap focus_line p)

pub focus_lines_of-hidden : (shown : Shown) (node : ℕ) (style : NodeStyle) → style ≡ style_at shown node → style.is_visible ≡ false → [] ≡ focus_lines_of shown node
unfolding focus_lines_of
focus_lines_of-hidden shown node style s v = rw (sym (ap (λ (t : NodeStyle). t.is_visible) s) ∙ v) refl

pub inside_lines-input : (shown : Shown) (node : ℕ) → has_tag is_input_tag shown.items node ≡ true → input_lines shown node ≡ inside_lines shown node
unfolding inside_lines
inside_lines-input shown node e = rw e refl

pub inside_lines-object : (shown : Shown) (node : ℕ) → has_tag is_input_tag shown.items node ≡ false → has_tag is_object_tag shown.items node ≡ true → object_line shown node ≡ inside_lines shown node
unfolding inside_lines
inside_lines-object shown node e o = rw (e, o) refl

pub inside_lines-texts : (shown : Shown) (node : ℕ) → has_tag is_input_tag shown.items node ≡ false → has_tag is_object_tag shown.items node ≡ false → text_lines shown node ≡ inside_lines shown node
unfolding inside_lines
inside_lines-texts shown node e o = rw (e, o) refl

pub element_lines-is : (shown : Shown) (node : ℕ) (place : Place) (style : NodeStyle) (out box all : List ℕ) → place ≡ place_of shown node → style ≡ style_at shown node → box ≡ out ++ box_line place style → all ≡ box ++ inside_lines shown node → all ≡ out ++ element_lines shown node
unfolding element_lines
element_lines-is shown node place style out box all p s b e =
    e ∙ ap (λ (l : List ℕ). l ++ inside_lines shown node) b ∙ append_assoc out (box_line place style) (inside_lines shown node)
    ∙ (λ i. out ++ (box_line (p i) (s i) ++ inside_lines shown node))

pub display_lines-is : (shown whole : Shown) (focus : Option ℕ) (out boxes all : List ℕ) → shown ≡ whole → boxes ≡ out ++ flat_map (element_lines shown) (boxes_of shown) → all ≡ boxes ++ focus_lines shown focus → all ≡ out ++ display_lines whole focus
unfolding display_lines
display_lines-is shown whole focus out boxes all same b e =
    e ∙ ap (λ (l : List ℕ). l ++ focus_lines shown focus) b ∙ append_assoc out (flat_map (element_lines shown) (boxes_of shown)) (focus_lines shown focus)
    ∙ (λ i. out ++ (flat_map (element_lines (same i)) (boxes_of (same i)) ++ focus_lines (same i) focus))

-- an element is a node
element-below : (items : List Item) (node : ℕ) → IsElement items node → node < length items
element-below [] node e = absurd (cc e)
element-below (item ∷ items) zero e = omega arith
element-below (item ∷ items) (suc node) e = let low = element-below items node e in omega arith

pub focus-within : (items : List Item) (focus : Option NodeId) (count : ℕ) → count ≡ length items → IfSome focus (λ node. IsElement items node.0) → IfSome focus (λ node. node.0 < count)
focus-within items None count e h = h
focus-within items (Some node) count e h = let low = element-below items node.0 h in omega arith
