-- What is shown of a document: its nodes, and what the styles of its elements say (the properties of
-- BML, ARIB STD-B24 volume 2, in this project's own profile).
use Rattle.std.specs.Prelude.{ℕ, Bool, true, false, if◌then◌else◌, ℤ, pos, List, length, map, slice_index_or, is_some}
use Rattle.std.specs.List.{range_with_len}
use Rattle.dom_tree.specs.Items.{Item, tag_of}
use Rattle.style_reader.specs.declared.properties.Property.{Property}
use Rattle.style_reader.specs.declared.properties.Property.TheVariants.{Left, Top, Width, Height, Visibility, ZIndex, ColorIndex, BackgroundColorIndex, BorderWidth, BorderColorIndex, FontSize}
use Rattle.style_reader.specs.declared.properties.StyleValue.{StyleValue}
use Rattle.style_reader.specs.declared.properties.StyleValue.TheVariants.{Whole, NoValue, Visible, Hidden, Keys}
use Rattle.style_cascade.specs.Cascade.{Sources, style_value}
use Rattle.style_cascade.specs.States.{present_state}
use Rattle.style_cascade.specs.declared.states.Focus.{Focus}
use Rattle.display_list.specs.declared.node_styles.NodeStyle.{NodeStyle}

-- the number that a value is
abbrev pub number_in : StyleValue → ℤ
number_in (Whole number) = number
number_in NoValue = pos 0
number_in Visible = pos 0
number_in Hidden = pos 0
number_in (Keys _) = pos 0

abbrev pub is_visible_value : StyleValue → Bool
is_visible_value (Whole _) = false
is_visible_value NoValue = false
is_visible_value Visible = true
is_visible_value Hidden = false
is_visible_value (Keys _) = false

-- what the values of an element's properties say of its box and its texts
abbrev pub style_of : (Property → StyleValue) → NodeStyle
style_of value =
    record {
      left = number_in (value Left);
      top = number_in (value Top);
      width = number_in (value Width);
      height = number_in (value Height);
      level = number_in (value ZIndex);
      is_visible = is_visible_value (value Visibility);
      color = number_in (value ColorIndex);
      font_size = number_in (value FontSize);
      background = number_in (value BackgroundColorIndex);
      border_width = number_in (value BorderWidth);
      border_color = number_in (value BorderColorIndex);
    }

-- A text has no style of its own.
abbrev pub no_style : NodeStyle
no_style =
    record {
      left = pos 0;
      top = pos 0;
      width = pos 0;
      height = pos 0;
      level = pos 0;
      is_visible = false;
      color = pos 0;
      font_size = pos 0;
      background = pos 0;
      border_width = pos 0;
      border_color = pos 0;
    }

abbrev pub node_style : (ℕ → Property → StyleValue) → List Item → ℕ → NodeStyle
node_style value items node = if is_some (tag_of items node) then style_of (value node) else no_style

-- a document's nodes in document order, and the style of each
pub record Shown : Type 0 where
  pub items : List Item
  pub styles : List NodeStyle

-- the document, where the properties of its elements have these values
abbrev pub shown_with : (ℕ → Property → StyleValue) → List Item → Shown
shown_with value items =
    record {
      items = items;
      styles = map (node_style value items) (range_with_len 0 (length items));
    }

-- the style of the node of this number
abbrev pub style_at : Shown → ℕ → NodeStyle
style_at shown node = slice_index_or shown.styles node no_style

-- the value of a property that an element has in its present state
abbrev pub present_value : List Item → Sources → Focus → ℕ → Property → StyleValue
present_value items sources focus node property =
    style_value items sources (present_state focus) node (present_state focus node) property

-- the document with these sources of styles and this focus
abbrev pub shown_by : List Item → Sources → Focus → Shown
shown_by items sources focus = shown_with (present_value items sources focus) items
