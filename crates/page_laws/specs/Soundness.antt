-- What a page keeps names what is there: nodes of its document, objects of its heap, functions of
-- its programs; and its timers and the document that is wanted fit the one that is there. (This
-- project's own.)
use Rattle.std.specs.Prelude.{◌≡◌, ℕ, nat_lt, ◌<◌, ◌≤◌, Bool, false, true, is_some, List, length, All, IfSome, Option, None, map}
use Rattle.std.specs.List.{AllPairs}
use Rattle.std.specs.Option.{option_map_or}
use Rattle.dom_tree.specs.Items.{Item, tag_of}
use Rattle.dom_tree.specs.NodeNumbers.{number_of}
use Rattle.dom_tree.specs.Walks.{IsTree}
use Rattle.es_values.specs.declared.values.HostRef.{HostRef}
use Rattle.es_values.specs.declared.values.HostRef.TheVariants.{Node, Style}
use Rattle.es_values.specs.declared.values.Value.{Value}
use Rattle.es_values.specs.declared.values.Value.TheVariants.{Function, Host}
use Rattle.es_values.specs.Heaps.{IsLive}
use Rattle.es_values.specs.Heaps as heaps
use Rattle.script_laws.specs.Soundness.{function_limit}
use Rattle.es_shapes.specs.Sources.{program_of}
use Rattle.event_queue.specs.Queues.{most_events}
use Rattle.event_queue.specs.Timers.{TimersState, most_timers, no_timers}
use Rattle.event_queue.specs.declared.events.Event.{Event}
use Rattle.event_queue.specs.declared.events.Event.TheVariants as events
use Rattle.document_load.specs.Scripts.{HandlerState}
use Rattle.script_laws.specs.Passing.{HeapPasses}
use Rattle.acting_documents.specs.Documents.{Document}
use Rattle.module_locks.specs.Locks.{most_locks}
use Rattle.page.specs.State.{State}
use Rattle.page.specs.State.Wanted.{NoDocument}

-- a node of the document, and an element of it
abbrev pub has_node : List Item → ℕ → Bool
has_node items node = nat_lt node (length items)

abbrev pub has_element : List Item → ℕ → Bool
has_element items node = is_some (tag_of items node)

-- A reference to a node names one that is there, and one to a style an element's. The document, the
-- browser, the registers and the current event are always there.
abbrev pub names_well : List Item → HostRef → Bool
names_well items (Node node) = has_node items node
names_well items (Style node state) = has_element items node
names_well items other = true

-- so does a value that is a reference, and a function is built in or one of the programs'
abbrev pub is_good : List Item → ℕ → Value → Bool
is_good items limit (Host reference) = names_well items reference
is_good items limit (Function number) = nat_lt number limit
is_good items limit other = true

-- What happens to the focus, a click, and what an item is told go to an element. Nothing posts `unload`, which is handled
-- where a document gives way.
abbrev pub is_good_event : List Item → Event → Bool
is_good_event items (events.Focus node) = has_element items node
is_good_event items (events.Blur node) = has_element items node
is_good_event items (events.Click node) = has_element items node
is_good_event items (events.Fired node component message) = has_element items node
is_good_event items (events.Updated node status) = has_element items node
is_good_event items (events.Locked node status) = has_element items node
is_good_event items (events.Button node) = has_element items node
is_good_event items (events.DataEvent node) = has_element items node
is_good_event items events.Unload = false
is_good_event items other = true

-- there is none, or it is an element
abbrev pub is_good_place : List Item → Option ℕ → Bool
is_good_place items node = option_map_or (has_element items) node true

-- a handler is one of an element, and runs one of so many programs
pub record IsGoodHandler (items : List Item) (programs : ℕ) (handler : HandlerState)
    : Type 0 where
  pub node : has_element items handler.node ≡ true
  pub program : handler.program < programs

-- each function of a document has a number below this one
abbrev pub limit_of : Document → ℕ
limit_of d = function_limit (map program_of d.programs)

abbrev pub is_good_in : Document → Value → Bool
is_good_in d = is_good d.tree.items (limit_of d)

pub record IsSoundDocument (d : Document) : Type 0 where
  pub tree : IsTree d.tree.items
  -- what has the focus, and what is active
  pub focus : is_good_place d.tree.items (number_of d.tree.focus.focus) ≡ true
  pub active : is_good_place d.tree.items (number_of d.tree.focus.active) ≡ true
  -- the events that wait
  pub room : length d.queue ≤ most_events
  pub events : All (λ event. is_good_event d.tree.items event ≡ true) d.queue
  -- the event items, for each node whether it is one that is subscribed, and the items that fired
  pub items : All (λ item. has_element d.tree.items item.node ≡ true) d.items.items
  pub subscribed : length d.items.subscribed ≡ length d.tree.items
  pub fired : All (λ firings. has_element d.tree.items firings.0 ≡ true) d.items.fired
  -- the handlers
  pub handlers : All (IsGoodHandler d.tree.items (length d.programs)) d.handlers
  -- the variables and the objects of the scripts
  pub globals : All (λ global. is_good_in d global.1 ≡ true) d.globals
  pub properties : HeapPasses (is_good_in d) d.heap
  pub live : All (λ global. IsLive d.heap global.1) d.globals
  pub objects : heaps.IsSound d.heap

-- the timers that stand, and the number of the next one
pub record AreTimers (s : TimersState) : Type 0 where
  -- their numbers ascend, and the next one is above them
  pub ascend : AllPairs (λ one other. one.number < other.number) s.timers
  pub below : All (λ timer. timer.number < s.next) s.timers
  pub most : length s.timers ≤ most_timers

-- Without a document there is nothing that could name something, and the timers are as where one
-- begins. With one no other is wanted.
pub record IsSound (s : State) : Type 0 where
  pub document : IfSome s.document IsSoundDocument
  pub timers : AreTimers s.browser.timers
  pub none_without : s.document ≡ None → s.browser.timers ≡ no_timers
  pub wanted : IfSome s.document (λ d. s.wanted ≡ NoDocument)
  -- the locks on modules
  pub locks : length s.modules.locks ≤ most_locks
