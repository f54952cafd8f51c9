-- A run of a script leaves the nodes as its writes make them, and so does what a document does for an event.
use Rattle.std.proofs.Common.{◌≡◌, ◌∙◌, ℕ, Bool, true, false, List, [], ◌∷◌, ◌++◌, Option, Some, None, map, refl, sym, ap}
use Rattle.std.specs.Prelude.{◌==◌, if◌then◌else◌, option_and_then}
use Rattle.std.specs.Option.{option_map_or}
use Rattle.carousel_blocks.specs.declared.changes.Change.{Change}
use Rattle.focus_keys.specs.Defaults.{action_of}
use Rattle.focus_keys.specs.KeyTables.{key_number}
use Rattle.focus_keys.specs.declared.keys.Key.TheVariants.{Enter}
use Rattle.es_values.specs.declared.values.HostRef.{HostRef}
use Rattle.es_values.specs.declared.values.HostRef.TheVariants as ref
use Rattle.es_values.specs.declared.values.Value.{Value}
use Rattle.es_values.specs.Conversions.{text_of}
use Rattle.es_values.specs.Objects.{ObjectState}
use Rattle.es_values.specs.Values.{truth_of}
use Rattle.event_items.specs.Subscriptions.{with_subscribed}
use Rattle.es_eval.specs.Evaluation.{global_run, run_at}
use Rattle.es_eval.specs.Worlds.{Run}
use Rattle.es_eval.specs.Worlds.Run.{Over, Reads, Writes, Calls}
use Rattle.es_shapes.specs.Sources.{program_of}
use Rattle.event_messages.specs.declared.messages.Message.{Message}
use Rattle.event_queue.specs.Events.{name_of}
use Rattle.event_queue.specs.Timers.{Timer, timer_of}
use Rattle.event_queue.specs.declared.events.Event.{Event}
use Rattle.event_queue.specs.declared.events.Event.TheVariants as events
use Rattle.dom_objects.specs.Writes.{change_of}
use Rattle.dom_objects.specs.declared.current_events.CurrentEvent.{CurrentEvent}
use Rattle.document_stages.specs.Acting.{Acting, with_action, is_subscription, key_posts, member_value, with_text_written, with_member_set}
use Rattle.document_stages.specs.Hosting.{HostParts, reply_of_call}
use Rattle.acting_documents.specs.Documents.{handler_in, passes}
use Rattle.acting_documents.specs.Handling.{body_in, change_effect, without_active, due_effect, focus_of, event_effect, event_effect_at, key_effect, kind_of, message_effect, with_key_released, run_handler, timer_effect, with_timer_taken}
use Rattle.acting_documents.specs.Runs.{Scene, acting_in, effect_of_change, end_of_run, host_parts_in, most_steps, no_event, no_effect, run_function, run_program}
use Rattle.page_laws.specs.Nodes.{Nodes, Write, event_writes, function_writes, handler_writes, nodes_of, program_writes, timer_writes, with_write, with_writes, write_made, writes_at, writes_of}
use Rattle.page_laws.proofs.NodeActingLemmas.{acted-stay, called-stay, changes-stay, due-stay, keys-stay, messages-stay}

-- ---- one write

text-write : (a : Acting) (base : HostRef) (name text : List ℕ)
    → nodes_of (with_text_written a base name text).tree
    ≡ with_write (record { base = base; name = name; text = text }) (nodes_of a.tree)
unfolding change_of
text-write a ref.Ureg name text = refl
text-write a ref.Greg name text = refl
text-write a ref.Browser name text = refl
text-write a ref.Document name text = refl
text-write a ref.Event name text = refl
text-write a (ref.Node node) name text = refl
text-write a (ref.Style node state) name text = refl

pub one-write : (a : Acting) (base : HostRef) (name : List ℕ) (value : Value) (heap : List ObjectState)
    → nodes_of (with_member_set a base name value heap).tree
    ≡ with_writes (write_made a base name (text_of heap value)) (nodes_of a.tree)
one-write a (ref.Node node) name value heap = by (is_subscription a node name)
  where
    by : (t : Bool) → nodes_of (if t then record a { items = with_subscribed node (truth_of value) a.items } else with_text_written a (ref.Node node) name (text_of heap value)).tree
        ≡ with_writes (if t then [] else record { base = ref.Node node; name = name; text = text_of heap value } ∷ []) (nodes_of a.tree)
    by true = refl
    by false = refl
one-write a ref.Ureg name value heap = text-write a ref.Ureg name (text_of heap value)
one-write a ref.Greg name value heap = text-write a ref.Greg name (text_of heap value)
one-write a ref.Browser name value heap = text-write a ref.Browser name (text_of heap value)
one-write a ref.Document name value heap = text-write a ref.Document name (text_of heap value)
one-write a ref.Event name value heap = text-write a ref.Event name (text_of heap value)
one-write a (ref.Style node state) name value heap = text-write a (ref.Style node state) name (text_of heap value)

pub writes-then : (writes others : List Write) (nodes : Nodes) → with_writes (writes ++ others) nodes ≡ with_writes others (with_writes writes nodes)
writes-then [] others nodes = refl
writes-then (w ∷ writes) others nodes = writes-then writes others (with_write w nodes)

-- ---- a run

pub run-writes : (run : Run) (h : HostParts) → nodes_of (end_of_run run h).hosted.acting.tree ≡ with_writes (writes_of run h) (nodes_of h.acting.tree)
unfolding end_of_run writes_of
run-writes (Over outcome w) h = refl
run-writes (Reads base name go) h = run-writes (go (member_value h.acting base name)) h
run-writes (Writes base name value heap go) h =
    let next : HostParts = record h { acting = with_member_set h.acting base name value heap } in
    run-writes go next
    ∙ ap (with_writes (writes_of go next)) (one-write h.acting base name value heap)
    ∙ sym (writes-then (write_made h.acting base name (text_of heap value)) (writes_of go next) (nodes_of h.acting.tree))
run-writes (Calls base name arguments heap go) h =
    let c = reply_of_call h base name arguments heap in
    run-writes (go c.answer c.heap) c.hosted
    ∙ ap (with_writes (writes_of (go c.answer c.heap) c.hosted)) (called-stay (nodes_of h.acting.tree) h base name arguments heap refl)

-- ---- what a document does

abbrev pub nodes_in : Scene → Nodes
nodes_in s = nodes_of s.document.tree

program-writes : (name : List ℕ) (event : CurrentEvent) (place : ℕ) (s : Scene)
    → nodes_in (run_program name event place s).scene ≡ with_writes (program_writes event place s) (nodes_in s)
unfolding run_program program_writes
program-writes name event place s =
    run-writes (run_at (map program_of s.document.programs) place s.document.globals s.document.heap most_steps) (host_parts_in event s)

function-writes : (name function : List ℕ) (s : Scene)
    → nodes_in (run_function name function s).scene ≡ with_writes (function_writes function s) (nodes_in s)
unfolding run_function function_writes
function-writes name function s =
    run-writes (global_run (map program_of s.document.programs) function s.document.globals s.document.heap most_steps) (host_parts_in no_event s)

handler-writes : (event : Event) (node : ℕ) (s : Scene)
    → nodes_in (run_handler event node s).scene ≡ with_writes (handler_writes event node s) (nodes_in s)
handler-writes event node s = by (option_and_then (handler_in s.document.handlers node) (kind_of event))
  where
    current : CurrentEvent
    current = record { event = Some event; target = node }

    by : (place : Option ℕ)
        → nodes_in (option_map_or (λ place. run_program (name_of event) current place s) place (no_effect s)).scene
        ≡ with_writes (option_map_or (λ place. program_writes current place s) place []) (nodes_in s)
    by None = refl
    by (Some place) = program-writes (name_of event) current place s

at-writes : (node : Option ℕ) (event : Event) (s : Scene)
    → nodes_in (event_effect_at node event s).scene ≡ with_writes (writes_at node event s) (nodes_in s)
at-writes None event s = refl
at-writes (Some node) event s = handler-writes event node s

timer-writes : (number : ℕ) (s : Scene) → nodes_in (timer_effect number s).scene ≡ with_writes (timer_writes number s) (nodes_in s)
timer-writes number s = by (timer_of number s.browser.timers)
  where
    by : (timer : Option Timer)
        → nodes_in (option_map_or (λ timer. run_function (name_of (events.Timer number)) timer.function (with_timer_taken number s)) timer (no_effect s)).scene
        ≡ with_writes (option_map_or (λ timer. function_writes timer.function (with_timer_taken number s)) timer []) (nodes_in s)
    by None = refl
    by (Some timer) = function-writes (name_of (events.Timer number)) timer.function (with_timer_taken number s)

released-nodes : (key : ℕ) (s : Scene) → nodes_in (with_key_released key s) ≡ nodes_in s
released-nodes key s = by (key == key_number Enter)
  where
    by : (t : Bool) → nodes_in (if t then record s { document = without_active s.document } else s) ≡ nodes_in s
    by true = refl
    by false = refl

-- something is done outside of scripts
done-stays : (change : Acting → Acting) (s : Scene)
    → nodes_of (change (acting_in no_event s)).tree ≡ nodes_in s → nodes_in (effect_of_change change s).scene ≡ nodes_in s
done-stays change s h = h

pub event-writes : (event : Event) (s : Scene) → nodes_in (event_effect event s).scene ≡ with_writes (event_writes event s) (nodes_in s)
unfolding event_effect event_writes
event-writes events.Load s = at-writes (body_in s) events.Load s
event-writes events.Unload s = at-writes (body_in s) events.Unload s
event-writes (events.Focus node) s = handler-writes (events.Focus node) node s
event-writes (events.Blur node) s = handler-writes (events.Blur node) node s
event-writes (events.Click node) s = handler-writes (events.Click node) node s
event-writes (events.KeyDown key) s = at-writes (focus_of s) (events.KeyDown key) s
event-writes (events.KeyUp key) s =
    at-writes (focus_of s) (events.KeyUp key) (with_key_released key s)
    ∙ ap (with_writes (writes_at (focus_of s) (events.KeyUp key) (with_key_released key s))) (released-nodes key s)
event-writes (events.Default key) s =
    done-stays (with_action (action_of s.document.tree key)) s (acted-stay (nodes_in s) (action_of s.document.tree key) (acting_in no_event s) refl)
event-writes (events.Timer number) s = timer-writes number s
event-writes (events.Fired item component message) s = handler-writes (events.Fired item component message) item s
event-writes (events.Updated item status) s = handler-writes (events.Updated item status) item s
event-writes (events.Locked item status) s = handler-writes (events.Locked item status) item s
event-writes (events.Button item) s = handler-writes (events.Button item) item s
event-writes (events.DataEvent item) s = handler-writes (events.DataEvent item) item s

pub message-nodes : (component : ℕ) (message : Message) (s : Scene) → nodes_in (message_effect component message s).scene ≡ nodes_in s
unfolding message_effect
message-nodes component message s = messages-stay (nodes_in s) component message (acting_in no_event s) refl

pub change-nodes : (component : ℕ) (change : Change) (s : Scene) → nodes_in (change_effect component change s).scene ≡ nodes_in s
unfolding change_effect
change-nodes component change s = changes-stay (nodes_in s) component change (acting_in no_event s) refl

pub due-nodes : (moment : ℕ) (s : Scene) → nodes_in (due_effect moment s).scene ≡ nodes_in s
unfolding due_effect
due-nodes moment s = due-stay (nodes_in s) moment (acting_in no_event (record s { now = moment })) refl

pub key-nodes : (key : ℕ) (down : Bool) (s : Scene) → nodes_in (key_effect key down s).scene ≡ nodes_in s
unfolding key_effect
key-nodes key down s = by (passes key s.document)
  where
    by : (t : Bool) → nodes_in (if t then effect_of_change (key_posts down key) s else no_effect s).scene ≡ nodes_in s
    by true = keys-stay (nodes_in s) down key (acting_in no_event s) refl
    by false = refl
