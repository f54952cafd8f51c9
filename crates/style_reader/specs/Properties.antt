-- The properties of styles, each once: what a style and what a script calls it, which values it
-- takes, which value it has where nothing gives it one, and whether an element takes that of the
-- element it hangs in (after the properties of BML, ARIB STD-B24 volume 2; their choice, ranges and
-- initial values are this project's own).
use Rattle.std.specs.Prelude.{ℕ, Bool, true, false, ℤ, pos, negsuc, List, [], ◌∷◌, codes}
use Rattle.style_reader.specs.declared.properties.Property.{Property}
use Rattle.style_reader.specs.declared.properties.Property.TheVariants.{Left, Top, Width, Height, Visibility, ZIndex, NavIndex, NavUp, NavDown, NavLeft, NavRight, UsedKeyList, ColorIndex, BackgroundColorIndex, BorderWidth, BorderColorIndex, FontSize}
use Rattle.style_reader.specs.declared.properties.StyleValue.{StyleValue}
use Rattle.style_reader.specs.declared.properties.StyleValue.TheVariants.{Whole, NoValue, Visible, Keys}

-- The values of a property: whole numbers from a least to a most one, of pixels or plain, or these
-- and `none`; `visible` and `hidden`; groups of keys and `none`.
pub data Values : Type 0 where
  Pixels : (least most : ℤ) → Values
  Numbers : (least most : ℤ) → Values
  NumbersOrNone : (least most : ℤ) → Values
  VisibleOrHidden : Values
  KeyGroups : Values

pub record Row : Type 0 where
  pub name : List ℕ
  pub script_name : List ℕ
  pub values : Values
  pub initial : StyleValue
  pub is_inherited : Bool

abbrev pub row : List ℕ → List ℕ → Values → StyleValue → Row
row name script_name values initial =
    record {
      name =
          name;
      script_name = script_name;
      values = values;
      initial = initial;
      is_inherited = false;
    }

abbrev pub inherited : Row → Row
inherited row = record row { is_inherited = true }

-- the ranges: 16 bits with a sign, 15 bits, 8 bits
abbrev signed : (ℤ → ℤ → Values) → Values
signed values = values (negsuc 32767) (pos 32767)

abbrev unsigned : (ℤ → ℤ → Values) → Values
unsigned values = values (pos 0) (pos 32767)

abbrev colours : Values
colours = Numbers (pos 0) (pos 255)

-- each group of keys has a bit, 1, 2 and 4: basic, data-button, numeric-tuning
abbrev basic_and_data_button : StyleValue
basic_and_data_button = Keys 3

-- the table
abbrev pub row_of : Property → Row
row_of Left = row (codes "left") (codes "left") (signed Pixels) (Whole (pos 0))
row_of Top = row (codes "top") (codes "top") (signed Pixels) (Whole (pos 0))
row_of Width = row (codes "width") (codes "width") (unsigned Pixels) (Whole (pos 0))
row_of Height = row (codes "height") (codes "height") (unsigned Pixels) (Whole (pos 0))
row_of Visibility =
    inherited (row (codes "visibility") (codes "visibility") VisibleOrHidden Visible)
row_of ZIndex = row (codes "z-index") (codes "zIndex") (signed Numbers) (Whole (pos 0))
row_of NavIndex = row (codes "nav-index") (codes "navIndex") (unsigned NumbersOrNone) NoValue
row_of NavUp = row (codes "nav-up") (codes "navUp") (unsigned NumbersOrNone) NoValue
row_of NavDown = row (codes "nav-down") (codes "navDown") (unsigned NumbersOrNone) NoValue
row_of NavLeft = row (codes "nav-left") (codes "navLeft") (unsigned NumbersOrNone) NoValue
row_of NavRight = row (codes "nav-right") (codes "navRight") (unsigned NumbersOrNone) NoValue
row_of UsedKeyList =
    row (codes "used-key-list") (codes "usedKeyList") KeyGroups basic_and_data_button
row_of ColorIndex =
    inherited (row (codes "color-index") (codes "colorIndex") colours (Whole (pos 7)))
row_of BackgroundColorIndex =
    row (codes "background-color-index") (codes "backgroundColorIndex") colours (Whole (pos 8))
row_of BorderWidth =
    row (codes "border-width") (codes "borderWidth") (unsigned Pixels) (Whole (pos 0))
row_of BorderColorIndex =
    row (codes "border-color-index") (codes "borderColorIndex") colours (Whole (pos 7))
row_of FontSize =
    inherited (row (codes "font-size") (codes "fontSize") (unsigned Pixels) (Whole (pos 24)))

-- what the table says of a property
abbrev pub name_of : Property → List ℕ
name_of property = (row_of property).name

abbrev pub script_name_of : Property → List ℕ
script_name_of property = (row_of property).script_name

abbrev pub values_of : Property → Values
values_of property = (row_of property).values

abbrev pub initial_of : Property → StyleValue
initial_of property = (row_of property).initial

abbrev pub is_inherited : Property → Bool
is_inherited property = (row_of property).is_inherited

-- all of them, in the table's order
abbrev pub all_properties : List Property
all_properties =
    Left ∷ Top ∷ Width ∷ Height ∷ Visibility ∷ ZIndex ∷ NavIndex ∷ NavUp ∷ NavDown ∷ NavLeft
    ∷ NavRight ∷ UsedKeyList ∷ ColorIndex ∷ BackgroundColorIndex ∷ BorderWidth ∷ BorderColorIndex ∷ FontSize ∷ []
