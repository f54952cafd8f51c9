-- What scripts write to the nodes of a document, and what these have then. A reference to a node is its number, so all
-- references with one number are to the one node. (This project's own, after the DOM interfaces of BML, ARIB STD-B24,
-- volume 2.)
use Rattle.std.specs.Prelude.{ℕ, ◌==◌, Bool, false, ◌&&◌, if◌then◌else◌, List, [], ◌∷◌, ◌++◌, map, Option, Some, None, option_and_then}
use Rattle.std.specs.Option.{option_map_or, option_or}
use Rattle.bml_bytes.specs.Words.{is_same}
use Rattle.dom_tree.specs.Items.{Item}
use Rattle.style_cascade.specs.Cascade.{Sources}
use Rattle.style_cascade.specs.StyledTrees.{StyledTree}
use Rattle.es_values.specs.declared.values.HostRef.{HostRef}
use Rattle.es_values.specs.declared.values.HostRef.TheVariants.{Node}
use Rattle.es_values.specs.Conversions.{text_of}
use Rattle.es_eval.specs.Evaluation.{global_run, run_at}
use Rattle.es_eval.specs.Worlds.{Run}
use Rattle.es_eval.specs.Worlds.Run.{Over, Reads, Writes, Calls}
use Rattle.es_shapes.specs.Sources.{program_of}
use Rattle.event_queue.specs.Timers.{timer_of}
use Rattle.event_queue.specs.declared.events.Event.{Event}
use Rattle.event_queue.specs.declared.events.Event.TheVariants as events
use Rattle.dom_objects.specs.Writes.{Change, change_of, changed_items, changed_sources}
use Rattle.dom_objects.specs.declared.current_events.CurrentEvent.{CurrentEvent}
use Rattle.document_stages.specs.Acting.{Acting, is_subscription, member_value, with_member_set}
use Rattle.document_stages.specs.Hosting.{HostParts, reply_of_call}
use Rattle.acting_documents.specs.Documents.{handler_in}
use Rattle.acting_documents.specs.Handling.{body_in, focus_of, kind_of, with_key_released, with_timer_taken}
use Rattle.acting_documents.specs.Runs.{Scene, host_parts_in, most_steps, no_event}

-- the nodes of a document, and what was written to their styles
pub record Nodes : Type 0 where
  pub items : List Item
  pub sources : Sources

abbrev pub nodes_of : StyledTree → Nodes
nodes_of tree = record { items = tree.items; sources = tree.sources }

-- a text that a script writes under a name of a reference
pub record Write : Type 0 where
  pub base : HostRef
  pub name : List ℕ
  pub text : List ℕ

-- what it makes of the nodes
abbrev pub with_change : Change → Nodes → Nodes
with_change change nodes =
    record {
      items = changed_items change nodes.items;
      sources = changed_sources change nodes.sources;
    }

abbrev pub with_write : Write → Nodes → Nodes
with_write w nodes = with_change (change_of nodes.items w.base w.name w.text) nodes

-- what several make of them, in their order
abbrev pub with_writes : List Write → Nodes → Nodes
with_writes [] nodes = nodes
with_writes (w ∷ writes) nodes = with_writes writes (with_write w nodes)

-- ---- the writes of scripts, in their order

-- A write is one, unless it subscribes an event item.
abbrev pub write_made : Acting → HostRef → List ℕ → List ℕ → List Write
write_made a (Node node) name text =
    if is_subscription a node name then []
    else record { base = Node node; name = name; text = text } ∷ []
write_made a base name text = record { base = base; name = name; text = text } ∷ []

-- those of a run, of which each question is answered by the document and the browser object
unfoldable pub writes_of : Run → HostParts → List Write
writes_of (Over outcome w) h = []
writes_of (Reads base name go) h = writes_of (go (member_value h.acting base name)) h
writes_of (Writes base name value heap go) h =
    write_made h.acting base name (text_of heap value)
    ++ writes_of go (record h { acting = with_member_set h.acting base name value heap })
writes_of (Calls base name arguments heap go) h =
    writes_of (go (reply_of_call h base name arguments heap).answer
    (reply_of_call h base name arguments heap).heap)
    (reply_of_call h base name arguments heap).hosted

-- those of the program at a place, as the handler of an event
unfoldable pub program_writes : CurrentEvent → ℕ → Scene → List Write
program_writes event place s =
    writes_of
    (run_at (map program_of s.document.programs) place s.document.globals s.document.heap
    most_steps) (host_parts_in event s)

-- those of the function of a timer
unfoldable pub function_writes : List ℕ → Scene → List Write
function_writes function s =
    writes_of
    (global_run (map program_of s.document.programs) function s.document.globals s.document.heap
    most_steps) (host_parts_in no_event s)

-- those of the handler that a node has for an event
abbrev pub handler_writes : Event → ℕ → Scene → List Write
handler_writes event node s =
    option_map_or
    (λ place. program_writes (record { event = Some event; target = node }) place s)
    (option_and_then (handler_in s.document.handlers node) (kind_of event)) []

abbrev pub writes_at : Option ℕ → Event → Scene → List Write
writes_at node event s = option_map_or (λ node. handler_writes event node s) node []

abbrev pub timer_writes : ℕ → Scene → List Write
timer_writes number s =
    option_map_or (λ timer. function_writes timer.function (with_timer_taken number s))
    (timer_of number s.browser.timers) []

-- Those of what is done for an event: of the handler that its target has for it, or of the timer's function. The default
-- action of a key writes nothing.
unfoldable pub event_writes : Event → Scene → List Write
event_writes events.Load s = writes_at (body_in s) events.Load s
event_writes events.Unload s = writes_at (body_in s) events.Unload s
event_writes (events.Focus node) s = handler_writes (events.Focus node) node s
event_writes (events.Blur node) s = handler_writes (events.Blur node) node s
event_writes (events.Click node) s = handler_writes (events.Click node) node s
event_writes (events.KeyDown key) s = writes_at (focus_of s) (events.KeyDown key) s
event_writes (events.KeyUp key) s =
    writes_at (focus_of s) (events.KeyUp key) (with_key_released key s)
event_writes (events.Default key) s = []
event_writes (events.Timer number) s = timer_writes number s
event_writes (events.Fired item component message) s =
    handler_writes (events.Fired item component message) item s
event_writes (events.Updated item status) s = handler_writes (events.Updated item status) item s
event_writes (events.Locked item status) s = handler_writes (events.Locked item status) item s
event_writes (events.Button item) s = handler_writes (events.Button item) item s
event_writes (events.DataEvent item) s = handler_writes (events.DataEvent item) item s

-- ---- the last write

-- it is to the node of this number, under this name
abbrev pub is_node : ℕ → HostRef → Bool
is_node node (Node other) = other == node
is_node node other = false

abbrev pub is_to : ℕ → List ℕ → Write → Bool
is_to node name w = is_node node w.base && is_same w.name name

-- the text of the last of the writes that is
abbrev pub last_to : ℕ → List ℕ → List Write → Option (List ℕ)
last_to node name [] = None
last_to node name (w ∷ writes) =
    option_or (last_to node name writes) (if is_to node name w then Some w.text else None)
