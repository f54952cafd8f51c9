-- Which items of a document are subscribed, and which of them fire (after beitem of BML, ARIB STD-B24 volume 2; that a
-- message that is repeated doesn't fire again is this project's own rule).
use Rattle.std.specs.Prelude.{ℕ, ◌&&◌, Bool, true, false, List, [], codes, filter, map, take, slice_get, slice_set, unwrap_or}
use Rattle.std.specs.Option.{option_map_or}
use Rattle.bml_bytes.specs.Words.{is_same}
use Rattle.dom_tree.specs.Items.{Item}
use Rattle.event_messages.specs.declared.messages.Message.{Message}
use Rattle.event_messages.specs.Kept.{FiringsOfItems, item_fires, with_forgotten, with_noted}
use Rattle.event_queue.specs.declared.item_kinds.ItemKind.{ItemKind}
use Rattle.event_queue.specs.declared.item_kinds.ItemKind.TheVariants as kinds
use Rattle.multipart_entities.specs.declared.paths.Path.{Path}
use Rattle.event_items.specs.EventItems.{EventItem, attribute_of, event_items, is_event_item, is_kind, matches_message, matches_module}

pub record ItemsState : Type 0 where
  -- the items as they stood in the document when it was read, in document order
  pub items : List EventItem
  -- for each node of the document, by its number, whether it is subscribed; only event items are asked
  pub subscribed : List Bool
  -- for each item what it fired for since it was subscribed
  pub fired : FiringsOfItems

-- ---- subscriptions

-- an item is subscribed at first where its attribute `subscribe` says so
abbrev pub starts_subscribed : Item → Bool
starts_subscribed item =
    is_event_item item
    && option_map_or (λ text. is_same text (codes "subscribe"))
    (attribute_of item (codes "subscribe")) false

-- the items of a document at this path, before anything fired
abbrev pub first_items : Path → List Item → ItemsState
first_items base nodes =
    record { items = event_items base nodes; subscribed = map starts_subscribed nodes; fired = [] }

abbrev pub is_subscribed : ℕ → ItemsState → Bool
is_subscribed node s = unwrap_or (slice_get s.subscribed node) false

-- `subscribe` is set to true, which forgets nothing, or to false, which also forgets the item's firings.
abbrev pub with_subscribed : ℕ → Bool → ItemsState → ItemsState
with_subscribed node true s = record s { subscribed = slice_set s.subscribed node true }
with_subscribed node false s =
    record s {
      subscribed = slice_set s.subscribed node false;
      fired = with_forgotten node s.fired;
    }

-- ---- what fires

-- A subscribed item fires for a message of a component that it matches, unless its last firing for that group and id
-- since it was subscribed had the same version.
abbrev pub fires_for_message : ℕ → Message → ItemsState → EventItem → Bool
fires_for_message component message s item =
    is_subscribed item.node s
    && (matches_message component message item && item_fires item.node message s.fired)

-- the firing of an item for a message is noted
abbrev pub with_firing : ℕ → Message → ItemsState → ItemsState
with_firing node message s = record s { fired = with_noted node message s.fired }

-- a subscribed item of this kind of module events fires for the module that its `module_ref` names
abbrev pub fires_for_module : ItemKind → ℕ → ℕ → ItemsState → EventItem → Bool
fires_for_module kind component number s item =
    is_subscribed item.node s && matches_module kind component number item

-- a subscribed item fires for the data button
abbrev pub fires_for_button : ItemsState → EventItem → Bool
fires_for_button s item = is_subscribed item.node s && is_kind kinds.DataButtonPressed item

-- a subscribed item fires for a data event
abbrev pub fires_for_data_event : ItemsState → EventItem → Bool
fires_for_data_event s item = is_subscribed item.node s && is_kind kinds.DataEventChanged item

-- so many items fire for a data event at most
unfoldable pub most_data_event_items : ℕ
most_data_event_items = 256

-- the nodes of those that fire for a data event now: the first ones in document order
abbrev pub data_event_items : ItemsState → List ℕ
data_event_items s =
    take most_data_event_items
    (map (λ item. item.node) (filter (fires_for_data_event s) s.items))
