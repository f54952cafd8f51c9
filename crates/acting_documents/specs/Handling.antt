-- What the dispatch of an event does: the handler of its target runs, or the default action of a key is made
-- (after the intrinsic events and the navigation of BML, ARIB STD-B24 volume 2, in this project's own
-- profile), or a timer's function is called. Events do not bubble.
use Rattle.std.specs.Prelude.{ℕ, ◌==◌, Bool, if◌then◌else◌, drop, Option, Some, None, option_and_then}
use Rattle.std.specs.Option.{option_map_or}
use Rattle.dom_tree.specs.NodeNumbers.{number_of}
use Rattle.focus_keys.specs.Defaults.{action_of}
use Rattle.focus_keys.specs.KeyTables.{key_number}
use Rattle.focus_keys.specs.declared.keys.Key.TheVariants.{Enter}
use Rattle.display_list.specs.Bodies.{body_of}
use Rattle.document_load.specs.declared.handler_kinds.HandlerKind.{HandlerKind}
use Rattle.document_load.specs.declared.handler_kinds.HandlerKind.TheVariants as kinds
use Rattle.carousel_blocks.specs.declared.changes.Change.{Change}
use Rattle.event_messages.specs.declared.messages.Message.{Message}
use Rattle.event_queue.specs.Events.{name_of}
use Rattle.event_queue.specs.declared.events.Event.{Event}
use Rattle.event_queue.specs.declared.events.Event.TheVariants as events
use Rattle.event_queue.specs.Timers.{timer_of, with_settled}
use Rattle.document_stages.specs.Acting.{with_action, change_posts, with_due_events, key_posts, message_posts, with_timers}
use Rattle.acting_documents.specs.Documents.{Document, handler_in, passes}
use Rattle.acting_documents.specs.Runs.{Effect, Scene, effect_of_change, no_effect, run_function, run_program}

-- the kind of the handlers of an event; there is none for `default` and for timers
abbrev pub kind_of : Event → Option HandlerKind
kind_of events.Load = Some kinds.Load
kind_of events.Unload = Some kinds.Unload
kind_of (events.Focus node) = Some kinds.Focus
kind_of (events.Blur node) = Some kinds.Blur
kind_of (events.Click node) = Some kinds.Click
kind_of (events.KeyDown key) = Some kinds.KeyDown
kind_of (events.KeyUp key) = Some kinds.KeyUp
kind_of (events.Default key) = None
kind_of (events.Timer number) = None
kind_of (events.Fired item component message) = Some kinds.Occur
kind_of (events.Updated item status) = Some kinds.Occur
kind_of (events.Locked item status) = Some kinds.Occur
kind_of (events.Button item) = Some kinds.Occur
kind_of (events.DataEvent item) = Some kinds.Occur

-- the handler that a node has for an event runs, where it has one, with the event as the current one
abbrev pub run_handler : Event → ℕ → Scene → Effect
run_handler event node s =
    option_map_or
    (λ place. run_program (name_of event) (record { event = Some event; target = node }) place s)
    (option_and_then (handler_in s.document.handlers node) (kind_of event)) (no_effect s)

-- the same at a target that may be absent
abbrev pub event_effect_at : Option ℕ → Event → Scene → Effect
event_effect_at None event s = no_effect s
event_effect_at (Some node) event s = run_handler event node s

-- the element that has the focus
abbrev pub focus_of : Scene → Option ℕ
focus_of s = number_of s.document.tree.focus.focus

abbrev pub body_in : Scene → Option ℕ
body_in s = body_of s.document.tree.items

-- the default action of a key
abbrev pub default_action : ℕ → Scene → Effect
default_action key s = effect_of_change (with_action (action_of s.document.tree key)) s

-- ---- timers

-- an event of the timer of a number was taken
abbrev pub with_timer_taken : ℕ → Scene → Scene
with_timer_taken number s =
    record s { browser = with_timers (with_settled number s.browser.timers) s.browser }

-- The function of a timer is called. A timer that goes on no more ends before that, so its number and its place are
-- free then. Where no timer has the number any more nothing is done.
abbrev pub timer_effect : ℕ → Scene → Effect
timer_effect number s =
    option_map_or
    (λ timer.
    run_function (name_of (events.Timer number)) timer.function (with_timer_taken number s))
    (timer_of number s.browser.timers) (no_effect s)

-- All timers that are due at a moment, which is the time then, post their events.
unfoldable pub due_effect : ℕ → Scene → Effect
due_effect moment s = effect_of_change (with_due_events moment) (record s { now = moment })

-- ---- events

-- the first of the events that wait in a document, which it leaves
abbrev pub without_first : Scene → Scene
without_first s = record s { document = record s.document { queue = drop 1 s.document.queue } }

-- no element is active any more
abbrev pub without_active : Document → Document
without_active d =
    record d { tree = record d.tree { focus = record d.tree.focus { active = None } } }

-- `keyup` of enter ends the active state before its handler runs
abbrev pub with_key_released : ℕ → Scene → Scene
with_key_released key s =
    if key == key_number Enter then record s { document = without_active s.document } else s

-- Events of the focus, clicks and what items are told go to the node that they name, those of keys to the focus as it is
-- now, and those of a document to its body.
unfoldable pub event_effect : Event → Scene → Effect
event_effect events.Load s = event_effect_at (body_in s) events.Load s
event_effect events.Unload s = event_effect_at (body_in s) events.Unload s
event_effect (events.Focus node) s = run_handler (events.Focus node) node s
event_effect (events.Blur node) s = run_handler (events.Blur node) node s
event_effect (events.Click node) s = run_handler (events.Click node) node s
event_effect (events.KeyDown key) s = event_effect_at (focus_of s) (events.KeyDown key) s
event_effect (events.KeyUp key) s =
    event_effect_at (focus_of s) (events.KeyUp key) (with_key_released key s)
event_effect (events.Default key) s = default_action key s
event_effect (events.Timer number) s = timer_effect number s
event_effect (events.Fired item component message) s =
    run_handler (events.Fired item component message) item s
event_effect (events.Updated item status) s = run_handler (events.Updated item status) item s
event_effect (events.Locked item status) s = run_handler (events.Locked item status) item s
event_effect (events.Button item) s = run_handler (events.Button item) item s
event_effect (events.DataEvent item) s = run_handler (events.DataEvent item) item s

-- ---- messages and modules

-- a message of a component comes to the event items
unfoldable pub message_effect : ℕ → Message → Scene → Effect
message_effect component message s = effect_of_change (message_posts component message) s

-- so does a change in a module of a component
unfoldable pub change_effect : ℕ → Change → Scene → Effect
change_effect component change s = effect_of_change (change_posts component change) s

-- ---- keys

-- a key that passes posts what it does; no other does anything
unfoldable pub key_effect : ℕ → Bool → Scene → Effect
key_effect key down s =
    if passes key s.document then effect_of_change (key_posts down key) s else no_effect s
