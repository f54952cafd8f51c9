-- Events by their names (after the intrinsic events and the event items of BML, ARIB STD-B24 volume 2; `default` and
-- `timer` are this project's own).
use Rattle.std.specs.Prelude.{ℕ, List, Option, Some, None, codes}
use Rattle.event_queue.specs.declared.events.Event.{Event}
use Rattle.event_queue.specs.declared.events.Event.TheVariants.{Load, Unload, Focus, Blur, Click, KeyDown, KeyUp, Default, Timer, Fired, Updated, Locked, Button, DataEvent}
use Rattle.event_queue.specs.declared.item_kinds.ItemKind.TheVariants as kinds
use Rattle.event_queue.specs.ItemKinds.{kind_name}

-- what scripts read as the type of an event, and what lines print
abbrev pub name_of : Event → List ℕ
name_of Load = codes "load"
name_of Unload = codes "unload"
name_of (Focus node) = codes "focus"
name_of (Blur node) = codes "blur"
name_of (Click node) = codes "click"
name_of (KeyDown key) = codes "keydown"
name_of (KeyUp key) = codes "keyup"
name_of (Default key) = codes "default"
name_of (Timer number) = codes "timer"
name_of (Fired item component message) = kind_name kinds.EventMessageFired
name_of (Updated item status) = kind_name kinds.ModuleUpdated
name_of (Locked item status) = kind_name kinds.ModuleLocked
name_of (Button item) = kind_name kinds.DataButtonPressed
name_of (DataEvent item) = kind_name kinds.DataEventChanged

-- the node that the event names
abbrev pub target_of : Event → Option ℕ
target_of (Focus node) = Some node
target_of (Blur node) = Some node
target_of (Click node) = Some node
target_of (Fired item component message) = Some item
target_of (Updated item status) = Some item
target_of (Locked item status) = Some item
target_of (Button item) = Some item
target_of (DataEvent item) = Some item
target_of _ = None
