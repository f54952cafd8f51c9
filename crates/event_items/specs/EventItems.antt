-- The event items of a document: its elements `beitem`, what their attributes ask, and what they match (after beitem of
-- BML, ARIB STD-B24 volume 2; which attributes count, and how, is this project's own profile).
use Rattle.std.specs.Prelude.{ℕ, suc, ◌==◌, ◌&&◌, ◌||◌, Bool, true, false, if◌then◌else◌, List, [], ◌∷◌, ◌++◌, Option, Some, None, codes, option_map, option_and_then}
use Rattle.std.specs.Option.{option_map_or}
use Rattle.bml_bytes.specs.Numerals.{decimal_field}
use Rattle.bml_bytes.specs.Words.{is_same}
use Rattle.dom_tree.specs.Items.{Item, attributes_in, tag_in, value_in}
use Rattle.event_messages.specs.declared.messages.Message.{Message}
use Rattle.multipart_entities.specs.declared.paths.Path.{Path}
use Rattle.multipart_entities.specs.Paths.{component_of, path_of_text}
use Rattle.event_items.specs.declared.asked.Asked.{Asked}
use Rattle.event_items.specs.declared.asked.Asked.TheVariants.{Anything, Exactly, NoNumber}
use Rattle.event_items.specs.declared.asked.AskedComponent.{AskedComponent}
use Rattle.event_items.specs.declared.asked.AskedComponent.TheVariants.{AnyComponent, Component, NoComponent}
use Rattle.event_queue.specs.declared.item_kinds.ItemKind.{ItemKind}
use Rattle.event_queue.specs.declared.item_kinds.ItemKind.TheVariants as kinds
use Rattle.event_queue.specs.ItemKinds.{kind_name, kind_named}

-- ---- what attributes ask of a message

-- What an attribute asks of a number. Where there is no attribute, any number will do. A text of one to ten decimal digits
-- asks for its number. Any other text asks for what no number is, so the item matches no message.
abbrev pub asked_by : Option (List ℕ) → Asked
asked_by None = Anything
asked_by (Some text) = option_map_or Exactly (decimal_field text) NoNumber

-- the number is the one that is asked for, where one is
abbrev pub answers : Asked → ℕ → Bool
answers Anything number = true
answers (Exactly asked) number = asked == number
answers NoNumber number = false

-- the same of an id or a version, where 255 asks for nothing
abbrev pub any_id : ℕ
any_id = 255

abbrev pub answers_or_any : Asked → ℕ → Bool
answers_or_any (Exactly asked) number = (asked == any_id) || (asked == number)
answers_or_any asked number = answers asked number

-- the component that is asked for: any where there is no attribute, and none where it names none
abbrev pub component_asked_by : Option (List ℕ) → AskedComponent
component_asked_by None = AnyComponent
component_asked_by (Some text) = option_map_or Component (component_of text) NoComponent

abbrev pub is_component : AskedComponent → ℕ → Bool
is_component AnyComponent tag = true
is_component (Component asked) tag = asked == tag
is_component NoComponent tag = false

-- ---- an item

-- The node; its kind, and none where its type is none of the five; what it asks of a message; and the component and the
-- module that its `module_ref` names, none where that is no path.
pub record EventItem : Type 0 where
  pub node : ℕ
  pub kind : Option ItemKind
  pub component : AskedComponent
  pub group : Asked
  pub id : Asked
  pub version : Asked
  pub about : Option (ℕ × ℕ)

abbrev pub attribute_of : Item → List ℕ → Option (List ℕ)
attribute_of item name = value_in (attributes_in item.content) name

-- the component and the module of a path; a name in it doesn't count
abbrev pub module_of : Path → ℕ × ℕ
module_of path = (path.component, path.module)

-- the item that the element with this number is, in a document at this path
abbrev pub item_of : Path → ℕ → Item → EventItem
item_of base node item =
    record {
      node = node;
      kind = option_and_then kind_named (attribute_of item (codes "type"));
      component = component_asked_by (attribute_of item (codes "es_ref"));
      group = asked_by (attribute_of item (codes "message_group_id"));
      id = asked_by (attribute_of item (codes "message_id"));
      version = asked_by (attribute_of item (codes "message_version"));
      about = option_map module_of
          (option_and_then (λ text. path_of_text text base)
          (attribute_of item (codes "module_ref")));
    }

-- ---- the items of a document

-- tags compare by case
abbrev pub is_event_item : Item → Bool
is_event_item item = option_map_or (λ tag. is_same tag (codes "beitem")) (tag_in item.content) false

abbrev pub item_at : Path → ℕ → Item → List EventItem
item_at base node item = if is_event_item item then item_of base node item ∷ [] else []

-- those of the nodes from a number on
abbrev pub items_from : Path → ℕ → List Item → List EventItem
items_from base node [] = []
items_from base node (item ∷ items) = item_at base node item ++ items_from base (suc node) items

-- in document order
unfoldable pub event_items : Path → List Item → List EventItem
event_items base items = items_from base 0 items

-- ---- what they match

abbrev pub is_kind : ItemKind → EventItem → Bool
is_kind kind item = option_map_or (λ its. is_same (kind_name its) (kind_name kind)) item.kind false

-- an item matches a message of a component by what its attributes ask
abbrev pub matches_message : ℕ → Message → EventItem → Bool
matches_message component message item =
    is_kind kinds.EventMessageFired item
    && (is_component item.component component
    && (answers item.group message.group
    && (answers_or_any item.id message.id && answers_or_any item.version message.version)))

-- an item of a kind of module events matches a change in the module that it is about
abbrev pub matches_module : ItemKind → ℕ → ℕ → EventItem → Bool
matches_module kind component number item =
    is_kind kind item
    && option_map_or (λ about. (about.0 == component) && (about.1 == number)) item.about false
