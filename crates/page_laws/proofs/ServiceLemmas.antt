-- What a document does leaves the modules of the service: of these its scripts change the locks alone.
use Rattle.std.proofs.Common.{◌≡◌, ℕ, Bool, true, false, List, [], ◌∷◌, Option, Some, None, refl, ◌∙◌}
use Rattle.std.specs.Prelude.{◌==◌, if◌then◌else◌, map, option_and_then}
use Rattle.std.specs.Option.{option_map_or}
use Rattle.focus_keys.specs.KeyTables.{key_number}
use Rattle.focus_keys.specs.declared.keys.Key.TheVariants.{Enter}
use Rattle.module_locks.specs.Locks.{with_lock}
use Rattle.es_values.specs.declared.values.HostRef.{HostRef}
use Rattle.es_values.specs.declared.values.HostRef.TheVariants as ref
use Rattle.es_values.specs.declared.values.Value.{Value}
use Rattle.es_values.specs.Objects.{ObjectState}
use Rattle.es_eval.specs.Evaluation.{global_run, run_at}
use Rattle.es_eval.specs.Worlds.{Run}
use Rattle.es_eval.specs.Worlds.Run.{Over, Reads, Writes, Calls}
use Rattle.es_shapes.specs.Sources.{program_of}
use Rattle.event_queue.specs.Events.{name_of}
use Rattle.event_queue.specs.Timers.{Timer, timer_of}
use Rattle.event_queue.specs.declared.events.Event.{Event}
use Rattle.event_queue.specs.declared.events.Event.TheVariants as events
use Rattle.browser_objects.specs.Calls.{CallOutcome, call_of}
use Rattle.browser_objects.specs.declared.effects.Effect as of_browser
use Rattle.browser_objects.specs.declared.effects.Effect.TheVariants as effects
use Rattle.multipart_entities.specs.declared.paths.Path.{Path}
use Rattle.dom_objects.specs.declared.current_events.CurrentEvent.{CurrentEvent}
use Rattle.document_stages.specs.Acting.{member_value, with_browser, with_member_set}
use Rattle.document_stages.specs.Hosting.{HostParts, reply_of_call, reply_of_effect}
use Rattle.acting_documents.specs.Beginnings.{begin, load_effect, run_scripts, script_places, unload_effect, without_waiting, data_event_effect, items_effect}
use Rattle.acting_documents.specs.Documents.{Document, handler_in}
use Rattle.acting_documents.specs.Handling.{body_in, without_active, focus_of, event_effect, event_effect_at, kind_of, run_handler, timer_effect, with_timer_taken}
use Rattle.acting_documents.specs.Runs.{Effect, Scene, and_then, end_of_run, host_parts_in, most_steps, no_event, no_effect, run_function, run_program, unless_launched}
use Rattle.event_items.specs.Subscriptions.{data_event_items}

-- ---- scripts

-- a call leaves the modules of the service
done-service : (effect : of_browser.Effect) (value : Value) (h : HostParts) (heap : List ObjectState)
    → (reply_of_effect effect value h heap).hosted.modules.stored ≡ h.modules.stored
unfolding with_lock
done-service effects.Nothing value h heap = refl
done-service (effects.Sound sound) value h heap = refl
done-service (effects.Kept slot size) value h heap = refl
done-service (effects.Launch path) value h heap = refl
done-service (effects.Lock path) value h heap = refl
done-service (effects.Unlock path) value h heap = refl
done-service (effects.Table path kinds) value h heap = refl

called-service : (h : HostParts) (base : HostRef) (name : List ℕ) (arguments : List Value)
    (heap : List ObjectState)
    → (reply_of_call h base name arguments heap).hosted.modules.stored ≡ h.modules.stored
unfolding reply_of_call
called-service h ref.Document name arguments heap = refl
called-service h (ref.Node node) name arguments heap = refl
called-service h ref.Browser name arguments heap =
    let a = h.acting in
    let outcome : CallOutcome = call_of name a.path a.now arguments heap a.browser in
    done-service outcome.called.effect outcome.called.value
    (record h { acting = with_browser outcome.called.state a }) outcome.heap
called-service h _ name arguments heap = refl

run-service : (run : Run) (h : HostParts) → (end_of_run run h).hosted.modules.stored ≡ h.modules.stored
unfolding end_of_run
run-service (Over outcome w) h = refl
run-service (Reads base name go) h = run-service (go (member_value h.acting base name)) h
run-service (Writes base name value heap go) h =
    run-service go (record h { acting = with_member_set h.acting base name value heap })
run-service (Calls base name arguments heap go) h =
    let c = reply_of_call h base name arguments heap in
    run-service (go c.answer c.heap) c.hosted ∙ called-service h base name arguments heap

-- ---- documents

-- the effect leaves the modules of the service of this scene
abbrev pub LeavesService : Scene → Effect → Type 0
LeavesService s e = e.scene.modules.stored ≡ s.modules.stored

then-service : (more : Scene → Effect) → ((s : Scene) → LeavesService s (more s)) → (s : Scene)
    (e : Effect) → LeavesService s e → LeavesService s (and_then more e)
then-service more leaves s e h = by e.launched
  where
    by : (launched : Option Path) → LeavesService s (unless_launched launched more e)
    by None = leaves e.scene ∙ h
    by (Some path) = h

program-service : (name : List ℕ) (event : CurrentEvent) (place : ℕ) (s : Scene)
    → LeavesService s (run_program name event place s)
unfolding run_program
program-service name event place s =
    let d : Document = s.document in
    run-service (run_at (map program_of d.programs) place d.globals d.heap most_steps)
    (host_parts_in event s)

function-service : (name function : List ℕ) (s : Scene)
    → LeavesService s (run_function name function s)
unfolding run_function
function-service name function s =
    let d : Document = s.document in
    run-service (global_run (map program_of d.programs) function d.globals d.heap most_steps)
    (host_parts_in no_event s)

-- ---- events

handler-service : (event : Event) (node : ℕ) (s : Scene)
    → LeavesService s (run_handler event node s)
handler-service event node s =
    by (option_and_then (handler_in s.document.handlers node) (kind_of event))
  where
    by : (place : Option ℕ) → LeavesService s (option_map_or
        (λ place. run_program (name_of event) (record { event = Some event; target = node }) place s)
        place (no_effect s))
    by None = refl
    by (Some place) = program-service (name_of event) _ place s

handled_at-service : (node : Option ℕ) (event : Event) (s : Scene)
    → LeavesService s (event_effect_at node event s)
handled_at-service None event s = refl
handled_at-service (Some node) event s = handler-service event node s

timer-service : (number : ℕ) (s : Scene) → LeavesService s (timer_effect number s)
timer-service number s = by (timer_of number s.browser.timers)
  where
    by : (timer : Option Timer) → LeavesService s (option_map_or
        (λ timer. run_function (name_of (events.Timer number)) timer.function (with_timer_taken number s))
        timer (no_effect s))
    by None = refl
    by (Some timer) =
        function-service (name_of (events.Timer number)) timer.function (with_timer_taken number s)

pub handled-service : (event : Event) (s : Scene) → LeavesService s (event_effect event s)
unfolding event_effect
handled-service events.Load s = handled_at-service (body_in s) events.Load s
handled-service events.Unload s = handled_at-service (body_in s) events.Unload s
handled-service (events.Focus node) s = handler-service (events.Focus node) node s
handled-service (events.Blur node) s = handler-service (events.Blur node) node s
handled-service (events.Click node) s = handler-service (events.Click node) node s
handled-service (events.KeyDown key) s = handled_at-service (focus_of s) (events.KeyDown key) s
handled-service (events.KeyUp key) s = by (key == key_number Enter)
  where
    by : (enter : Bool) → LeavesService s (event_effect_at (focus_of s) (events.KeyUp key)
        (if enter then record s { document = without_active s.document } else s))
    by true = handled_at-service (focus_of s) (events.KeyUp key) _
    by false = handled_at-service (focus_of s) (events.KeyUp key) s
handled-service (events.Default key) s = refl
handled-service (events.Timer number) s = timer-service number s
handled-service (events.Fired item component message) s =
    handler-service (events.Fired item component message) item s
handled-service (events.Updated item status) s =
    handler-service (events.Updated item status) item s
handled-service (events.Locked item status) s = handler-service (events.Locked item status) item s
handled-service (events.Button item) s = handler-service (events.Button item) item s
handled-service (events.DataEvent item) s = handler-service (events.DataEvent item) item s

-- ---- loads and ends

scripts-service : (places : List ℕ) (s : Scene) → LeavesService s (run_scripts places s)
scripts-service [] s = refl
scripts-service (place ∷ places) s =
    then-service (run_scripts places) (scripts-service places) s _
    (program-service _ no_event place s)

pub load-service : (s : Scene) → LeavesService s (load_effect s)
unfolding load_effect
load-service s =
    then-service begin (λ now. refl) s _ (scripts-service (script_places s.document) s)

pub unload-service : (s : Scene) → LeavesService s (unload_effect s)
unfolding unload_effect
unload-service s = handled-service events.Unload (without_waiting s)

items-service : (items : List ℕ) (s : Scene) → LeavesService s (items_effect items s)
items-service [] s = refl
items-service (item ∷ items) s =
    items-service items (event_effect (events.DataEvent item) s).scene
    ∙ handled-service (events.DataEvent item) s

pub data_event-service : (s : Scene) → LeavesService s (data_event_effect s)
unfolding data_event_effect
data_event-service s =
    let items = data_event_items s.document.items in
    handled-service events.Unload (items_effect items (without_waiting s)).scene
    ∙ items-service items (without_waiting s)
