-- What handlers and default actions act on, and what they do to it: posts, moves of the focus, timers, and the
-- rows of what scripts read and write, and of what they call of the document (after the events, the navigation,
-- the DOM interfaces and the browser object of BML, ARIB STD-B24 volume 2, in this project's own profile).
use Rattle.std.specs.Prelude.{ℕ, zero, suc, nat_lt, ◌==◌, ◌&&◌, ℤ, pos, Bool, true, false, if◌then◌else◌, List, [], ◌∷◌, ◌++◌, fold, length, slice_get, Option, Some, None, codes, is_some}
use Rattle.std.specs.Option.{option_map_or}
use Rattle.bml_bytes.specs.Words.{is_same}
use Rattle.dom_tree.specs.Items.{tag_of}
use Rattle.dom_tree.specs.NodeNumbers.{number_of}
use Rattle.dom_tree.specs.Walks.{node_of_id}
use Rattle.carousel_blocks.specs.declared.changes.Change.{Change}
use Rattle.multipart_entities.specs.declared.paths.Path.{Path}
use Rattle.style_cascade.specs.States.{is_node}
use Rattle.style_cascade.specs.StyledTrees.{StyledTree}
use Rattle.style_cascade.specs.declared.states.Focus.{Focus}
use Rattle.focus_keys.specs.Defaults.{Action}
use Rattle.focus_keys.specs.Defaults.Action.{NoAction, Moves, Activates, Accesses}
use Rattle.focus_keys.specs.KeyTables.{key_number}
use Rattle.focus_keys.specs.Targets.{can_have_focus, nav_target_of}
use Rattle.focus_keys.specs.declared.keys.Key.TheVariants.{Data}
use Rattle.es_values.specs.declared.hosts.HostAnswer.{HostAnswer}
use Rattle.es_values.specs.declared.hosts.HostAnswer.TheVariants.{Value as Answer, Ended, NotCallable}
use Rattle.es_values.specs.declared.numbers.Num.TheVariants.{NotANumber}
use Rattle.es_values.specs.declared.values.HostRef.{HostRef}
use Rattle.es_values.specs.declared.values.HostRef.TheVariants.{Browser, Greg, Node, Ureg}
use Rattle.es_values.specs.declared.values.Value.{Value}
use Rattle.es_values.specs.declared.values.Value.TheVariants.{Bool as Truth, Host, Number, Str, Undefined}
use Rattle.es_values.specs.Conversions.{text_of}
use Rattle.es_values.specs.Values.{truth_of}
use Rattle.es_values.specs.Objects.{ObjectState}
use Rattle.event_messages.specs.declared.messages.Message.{Message}
use Rattle.event_items.specs.EventItems.{EventItem, is_event_item}
use Rattle.event_items.specs.Subscriptions.{ItemsState, fires_for_message, fires_for_button, is_subscribed, fires_for_module, with_firing, with_subscribed}
use Rattle.event_queue.specs.Queues.{most_events, with_posted}
use Rattle.event_queue.specs.Timers.{TimersState, first_due, most_timers, no_timers, with_fired, with_settled}
use Rattle.event_queue.specs.declared.events.Event.{Event}
use Rattle.event_queue.specs.declared.events.Event.TheVariants as events
use Rattle.event_queue.specs.declared.item_kinds.ItemKind.TheVariants as kinds
use Rattle.browser_objects.specs.Calls.{BrowserParts}
use Rattle.browser_objects.specs.OpenTables.{no_tables}
use Rattle.browser_objects.specs.Registers.{empty_registers, register_text, with_register}
use Rattle.dom_objects.specs.Parts.{Parts}
use Rattle.dom_objects.specs.Reads.{node_value, read_value}
use Rattle.dom_objects.specs.Writes.{change_of, changed_tree}
use Rattle.dom_objects.specs.declared.current_events.CurrentEvent.{CurrentEvent}
use Rattle.dom_tree.specs.declared.node_ids.NodeId.{NodeId}
use Rattle.document_stages.specs.EventLines.{launch_line, lost_line}

-- What belongs to the receiver, before anything came, with this persistent area: empty registers, and neither timers nor
-- random words nor a date nor tables.
abbrev pub first_browser : List ℕ → BrowserParts
first_browser area =
    record {
      ureg = empty_registers;
      greg = empty_registers;
      area = area;
      timers = no_timers;
      random = [];
      date = None;
      tables = no_tables;
    }

abbrev pub with_timers : TimersState → BrowserParts → BrowserParts
with_timers timers browser = record browser { timers = timers }

-- one random word more
abbrev pub with_word : ℕ → BrowserParts → BrowserParts
with_word word browser = record browser { random = browser.random ++ word ∷ [] }

-- it is this second of this day, as the clock stands
abbrev pub with_date : ℤ → ℕ → ℕ → BrowserParts → BrowserParts
with_date day second clock browser = record browser { date = Some (day, second, clock) }

-- what handlers and default actions act on
pub record Acting : Type 0 where
  -- the path of the document
  pub path : Path
  -- its nodes with their styles, and which of them have the focus and are active
  pub tree : StyledTree
  -- its event items, with which of them are subscribed and what they fired for
  pub items : ItemsState
  -- the events that wait for their dispatch, the one that waits longest in front
  pub queue : List Event
  -- the registers, the persistent area, the random words and the date, which belong to the receiver; and the timers and
  -- the tables, which end with the document
  pub browser : BrowserParts
  -- the time in milliseconds
  pub now : ℕ
  -- the event whose handler runs
  pub event : CurrentEvent
  -- the path of the document that a script launched, which ends this one
  pub launched : Option Path
  -- what was printed since this began
  pub text : List ℕ

abbrev pub node_id : ℕ → NodeId
node_id number = record { 0 = number }

abbrev pub no_focus : Focus
no_focus = record { focus = None; active = None }

abbrev pub parts_of : Acting → Parts
parts_of a = record { tree = a.tree; event = a.event }

-- the element that has the focus
abbrev pub focused_node : Acting → Option ℕ
focused_node a = number_of a.tree.focus.focus

abbrev pub has_focus : ℕ → Acting → Bool
has_focus node a = is_node node a.tree.focus.focus

-- these have the focus and are active; no event is posted
abbrev pub with_focus : Focus → Acting → Acting
with_focus focus a = record a { tree = record a.tree { focus = focus } }

-- ---- posts and the focus

-- a place is left for one more event
abbrev pub has_room : Acting → Bool
has_room a = nat_lt (length a.queue) most_events

-- an event that is posted waits behind the others; where no place is left it is lost, which is told
abbrev pub loss_line : Event → List Event → List ℕ
loss_line event queue = if nat_lt (length queue) most_events then [] else lost_line event

abbrev pub with_event : Event → Acting → Acting
with_event event a =
    record a { queue = with_posted event a.queue; text = a.text ++ loss_line event a.queue }

-- the element has the focus and is not active
abbrev pub focus_on : ℕ → Focus
focus_on node = record { focus = Some (node_id node); active = None }

abbrev pub with_event_for : (ℕ → Event) → Option ℕ → Acting → Acting
with_event_for event None a = a
with_event_for event (Some node) a = with_event (event node) a

-- The focus moves to an element: that which had it is told by `blur`, and then this one by `focus`. No element
-- is active behind it. A move to the element that has the focus does nothing.
unfoldable pub with_focus_moved : ℕ → Acting → Acting
with_focus_moved node a =
    if has_focus node a then a
    else with_event (events.Focus node)
    (with_event_for events.Blur (focused_node a) (with_focus (focus_on node) a))

-- The focus is given up by the element that has it, which `blur` tells; no other element can give it up.
unfoldable pub without_focus_of : ℕ → Acting → Acting
without_focus_of node a =
    if has_focus node a then with_event (events.Blur node) (with_focus no_focus a) else a

-- ---- timers

-- with what became of the timers
abbrev pub acting_with_timers : TimersState → Acting → Acting
acting_with_timers timers a = record a { browser = with_timers timers a.browser }

-- An event of the timer of a number was dispatched or lost: the timer ends there where it goes on no more.
abbrev pub with_timer_settled : ℕ → Acting → Acting
with_timer_settled number a =
    acting_with_timers (with_settled number a.browser.timers) a

-- a timer fired: its event is posted, and where it is lost it is no longer out
abbrev pub with_timer_event : ℕ → Acting → Acting
with_timer_event number a =
    if has_room a then with_event (events.Timer number) a
    else with_timer_settled number (with_event (events.Timer number) a)

-- the first timer that is due at a moment fires
abbrev pub with_timer_fired : ℕ → ℕ → Acting → Acting
with_timer_fired moment number a =
    with_timer_event number
    (acting_with_timers (with_fired moment a.browser.timers) a)

-- as long as a timer is due at the moment, the first of them fires, so many times at most
unfoldable pub with_timers_fired : ℕ → ℕ → Acting → Acting
with_timers_fired zero moment a = a
with_timers_fired (suc more) moment a =
    option_map_or (λ number. with_timers_fired more moment (with_timer_fired moment number a))
    (first_due moment a.browser.timers) a

-- All timers that are due at a moment fire, in ascending number. Where the moment doesn't go past one at which a timer
-- was due, each fires once, since its next moment comes later; and there are no more than so many.
abbrev pub with_due_events : ℕ → Acting → Acting
with_due_events moment a = with_timers_fired most_timers moment a

-- ---- event items

-- something is done for each item of the document, in document order
abbrev pub each_item : (EventItem → Acting → Acting) → Acting → Acting
each_item step a = fold (λ acting item. step item acting) a a.items.items

abbrev pub with_event_where : Bool → Event → Acting → Acting
with_event_where test event a = if test then with_event event a else a

-- An item fires for a message: its event is posted, and where it is not lost the firing is noted.
abbrev pub with_item_fired : ℕ → Message → ℕ → Acting → Acting
with_item_fired component message node a =
    let after = with_event (events.Fired node component message) a in
    if has_room a then record after { items = with_firing node message a.items } else after

-- EventMessageFired for an item, where it fires for the message of a component
abbrev pub message_post : ℕ → Message → EventItem → Acting → Acting
message_post component message item a =
    if fires_for_message component message a.items item
    then with_item_fired component message item.node a else a

-- and for each item of the document
unfoldable pub message_posts : ℕ → Message → Acting → Acting
message_posts component message a = each_item (message_post component message) a

-- ModuleUpdated for an item, with what became of the module: 0 where its entry changed, 1 where it went, 2 where it
-- appeared
abbrev pub module_post : ℕ → ℕ → ℕ → EventItem → Acting → Acting
module_post component number status item a =
    with_event_where (fires_for_module kinds.ModuleUpdated component number a.items item)
    (events.Updated item.node status) a

-- and for each item; by a change without a status only the module's last block came, and nothing is posted
abbrev pub update_posts : ℕ → ℕ → Option ℕ → Acting → Acting
update_posts component number status a =
    option_map_or (λ status. each_item (module_post component number status) a) status a

-- ModuleLocked for an item, with status 0: a lock on its module keeps it from now on
abbrev pub lock_post : ℕ → ℕ → EventItem → Acting → Acting
lock_post component number item a =
    with_event_where (fires_for_module kinds.ModuleLocked component number a.items item)
    (events.Locked item.node 0) a

-- and for each item
unfoldable pub lock_posts : ℕ → ℕ → Acting → Acting
lock_posts component number a = each_item (lock_post component number) a

-- A change in a module of a component posts ModuleUpdated for each item that fires for the module. Where a lock that was
-- wanted on the module got its bytes, it then posts ModuleLocked.
unfoldable pub change_posts : ℕ → Change → Acting → Acting
change_posts component change a =
    let updated = update_posts component change.«module» change.status a in
    if change.locked then lock_posts component change.«module» updated else updated

-- DataButtonPressed for an item
abbrev pub button_post : EventItem → Acting → Acting
button_post item a = with_event_where (fires_for_button a.items item) (events.Button item.node) a

unfoldable pub button_posts : Acting → Acting
button_posts a = each_item button_post a

-- ---- default actions, keys and the first focus

-- what has the focus becomes active, and `click` is posted for it
abbrev pub with_active : ℕ → Acting → Acting
with_active node a =
    with_event (events.Click node)
    (with_focus (record a.tree.focus { active = Some (node_id node) }) a)

-- The focus moves; or what has it becomes active, and `click` is posted for it; or an element is given the focus, and
-- `click` is posted for it.
abbrev pub with_action : Action → Acting → Acting
with_action NoAction a = a
with_action (Moves node) a = with_focus_moved node a
with_action (Activates node) a = with_active node a
with_action (Accesses node) a = with_event (events.Click node) (with_focus_moved node a)

-- A key that is pressed posts `keydown` and then `default`, and the data button then DataButtonPressed for its items. A
-- key that is released posts `keyup`.
abbrev pub with_press : ℕ → Acting → Acting
with_press key a = with_event (events.Default key) (with_event (events.KeyDown key) a)

abbrev pub key_posts : Bool → ℕ → Acting → Acting
key_posts true key a =
    if key == key_number Data then button_posts (with_press key a) else with_press key a
key_posts false key a = with_event (events.KeyUp key) a

-- where no element has the focus, that with the nav-index 0 gets it first
abbrev pub first_focus : Acting → Option ℕ
first_focus a =
    if is_some a.tree.focus.focus then None else nav_target_of a.tree (pos 0)

-- a document that begins posts `load`, and then `focus` for the first focus
abbrev pub with_first_events : Option ℕ → Acting → Acting
with_first_events None a = with_event events.Load a
with_first_events (Some node) a =
    with_event (events.Focus node) (with_event events.Load (with_focus (focus_on node) a))

-- ---- what scripts read and write

-- the registers of the browser object
abbrev pub browser_value : List ℕ → Value
browser_value name =
    if is_same name (codes "Ureg") then Host Ureg
    else if is_same name (codes "Greg") then Host Greg
    else Undefined

-- the text of a register; a name that none has reads as Undefined
abbrev pub register_value : List (List ℕ) → List ℕ → Value
register_value registers name = option_map_or Str (register_text registers name) Undefined

-- the node is an event item, and the name is that of its subscription
abbrev pub is_subscription : Acting → ℕ → List ℕ → Bool
is_subscription a node name =
    is_same name (codes "subscribe")
    && option_map_or is_event_item (slice_get a.tree.items node) false

abbrev pub node_member : Acting → ℕ → List ℕ → Value
node_member a node name =
    if is_subscription a node name then Truth (is_subscribed node a.items)
    else read_value (parts_of a) (Node node) name

abbrev pub member_value : Acting → HostRef → List ℕ → Value
member_value a Browser name = browser_value name
member_value a Ureg name = register_value a.browser.ureg name
member_value a Greg name = register_value a.browser.greg name
member_value a (Node node) name = node_member a node name
member_value a other name = read_value (parts_of a) other name

abbrev pub with_browser : BrowserParts → Acting → Acting
with_browser browser a = record a { browser = browser }

-- a text is written under a name of a reference
abbrev pub with_text_written : Acting → HostRef → List ℕ → List ℕ → Acting
with_text_written a Ureg name text =
    let browser = a.browser in
    with_browser (record browser { ureg = with_register name text browser.ureg }) a
with_text_written a Greg name text =
    let browser = a.browser in
    with_browser (record browser { greg = with_register name text browser.greg }) a
with_text_written a base name text =
    record a { tree = changed_tree (change_of a.tree.items base name text) a.tree }

-- a subscription is written as a truth, and all else as text
abbrev pub with_node_written : Acting → ℕ → List ℕ → Value → List ObjectState → Acting
with_node_written a node name value heap =
    if is_subscription a node name
    then record a { items = with_subscribed node (truth_of value) a.items }
    else with_text_written a (Node node) name (text_of heap value)

abbrev pub with_member_set : Acting → HostRef → List ℕ → Value → List ObjectState → Acting
with_member_set a (Node node) name value heap = with_node_written a node name value heap
with_member_set a base name value heap = with_text_written a base name (text_of heap value)

-- ---- what scripts call

-- the answer, what is acted on behind the call, and the objects behind it
pub record CallAnswer : Type 0 where
  pub answer : HostAnswer
  pub acting : Acting
  pub heap : List ObjectState

abbrev pub gives : Value → Acting → List ObjectState → CallAnswer
gives value a heap = record { answer = Answer value; acting = a; heap = heap }

abbrev pub not_callable : Acting → List ObjectState → CallAnswer
not_callable a heap = record { answer = NotCallable; acting = a; heap = heap }

-- an absent argument is Undefined
abbrev pub first_argument : List Value → Value
first_argument [] = Undefined
first_argument (value ∷ arguments) = value

-- `getElementById` gives the first element in document order that has the id, or Null
abbrev pub document_call : Acting → List ℕ → List ℕ → List ObjectState → CallAnswer
document_call a name id heap =
    if is_same name (codes "getElementById")
    then gives (node_value (node_of_id a.tree.items id)) a heap
    else not_callable a heap

-- `focus` moves the focus to the element where it can have it
abbrev pub with_focus_asked : ℕ → Acting → Acting
with_focus_asked node a = if can_have_focus a.tree node then with_focus_moved node a else a

abbrev pub element_call : Acting → ℕ → List ℕ → List ObjectState → CallAnswer
element_call a node name heap =
    if is_same name (codes "focus") then gives Undefined (with_focus_asked node a) heap
    else if is_same name (codes "blur") then gives Undefined (without_focus_of node a) heap
    else not_callable a heap

-- a text has nothing that can be called
abbrev pub node_call : Acting → ℕ → List ℕ → List ObjectState → CallAnswer
node_call a node name heap =
    if is_some (tag_of a.tree.items node) then element_call a node name heap
    else not_callable a heap

-- ---- launches

abbrev pub with_line : List ℕ → Acting → Acting
with_line line a = record a { text = a.text ++ line }

-- NaN, and nothing is done
abbrev pub gives_nan : Acting → List ObjectState → CallAnswer
gives_nan a heap = gives (Number NotANumber) a heap

-- the handler runs because the document ends: that of `unload`, or one of a data event
abbrev pub is_ending : Option Event → Bool
is_ending (Some events.Unload) = true
is_ending (Some (events.DataEvent item)) = true
is_ending other = false

-- A launch is told and ends the handler. A handler that runs because the document ends cannot launch another one.
abbrev pub launch : Path → Acting → List ObjectState → CallAnswer
launch path a heap =
    if is_ending a.event.event then gives_nan a heap
    else record {
      answer = Ended;
      acting = record (with_line (launch_line path) a) { launched = Some path };
      heap = heap;
    }
