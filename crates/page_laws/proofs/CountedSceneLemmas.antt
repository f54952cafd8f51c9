-- What a document does leaves as many events of each timer out as wait: its scripts, its handlers, its default actions
-- and its beginning.
use Rattle.std.proofs.Common.{◌≡◌, ℕ, Bool, true, false, List, [], ◌∷◌, Option, Some, None, refl}
use Rattle.std.specs.Prelude.{◌==◌, if◌then◌else◌, map, option_and_then}
use Rattle.std.specs.Option.{option_map_or}
use Rattle.carousel_blocks.specs.declared.changes.Change.{Change}
use Rattle.multipart_entities.specs.declared.paths.Path.{Path}
use Rattle.focus_keys.specs.Defaults.{action_of}
use Rattle.focus_keys.specs.KeyTables.{key_number}
use Rattle.focus_keys.specs.declared.keys.Key.TheVariants.{Enter}
use Rattle.es_eval.specs.Evaluation.{global_run, run_at}
use Rattle.es_eval.specs.Worlds.{Run}
use Rattle.es_shapes.specs.Sources.{program_of}
use Rattle.event_messages.specs.declared.messages.Message.{Message}
use Rattle.event_queue.specs.Events.{name_of}
use Rattle.event_queue.specs.Timers.{Timer, most_timers, timer_of}
use Rattle.event_queue.specs.declared.events.Event.{Event}
use Rattle.event_queue.specs.declared.events.Event.TheVariants as events
use Rattle.dom_objects.specs.declared.current_events.CurrentEvent.{CurrentEvent}
use Rattle.document_stages.specs.Acting.{Acting, with_action, with_first_events, change_posts, with_due_events, first_focus, key_posts, message_posts}
use Rattle.acting_documents.specs.Documents.{Document, handler_in, passes}
use Rattle.acting_documents.specs.Handling.{body_in, change_effect, without_active, due_effect, focus_of, event_effect, event_effect_at, key_effect, kind_of, message_effect, run_handler, timer_effect, with_timer_taken}
use Rattle.acting_documents.specs.Beginnings.{begin, load_effect, run_scripts, script_places}
use Rattle.acting_documents.specs.Runs.{Effect, Scene, acting_in, and_then, effect_of_change, effect_of_end, end_of_run, host_parts_in, most_steps, no_event, no_effect, run_function, run_program, unless_launched}
use Rattle.page_laws.proofs.CountLemmas.{IsApart, IsCounted, settled-counted, taken-counted, unknown-counted}
use Rattle.page_laws.proofs.CountedActingLemmas.{ActsCounted, acted-counted, begun-counted, changes-counted, keys-counted, messages-counted, run-counted, timers-counted}

abbrev pub SceneCounted : Scene → Type 0
SceneCounted s = IsCounted s.document.queue s.browser.timers

done-counted : (change : Acting → Acting) (s : Scene)
    → ((a : Acting) → ActsCounted a → ActsCounted (change a)) → SceneCounted s
    → SceneCounted (effect_of_change change s).scene
done-counted change s keeps h =
    keeps (acting_in no_event s) h

then-counted : (more : Scene → Effect)
    → ((s : Scene) → SceneCounted s → SceneCounted (more s).scene) → (e : Effect)
    → SceneCounted e.scene → SceneCounted (and_then more e).scene
then-counted more keeps e h = by e.launched
  where
    by : (launched : Option Path) → SceneCounted (unless_launched launched more e).scene
    by None = keeps e.scene h
    by (Some path) = h

-- ---- programs

end-counted : (name : List ℕ) (event : CurrentEvent) (run : Run) (s : Scene)
    → SceneCounted s
    → SceneCounted (effect_of_end name s (end_of_run run (host_parts_in event s))).scene
end-counted name event run s h =
    run-counted run (host_parts_in event s) h

program-counted : (name : List ℕ) (event : CurrentEvent) (place : ℕ) (s : Scene)
    → SceneCounted s → SceneCounted (run_program name event place s).scene
unfolding run_program
program-counted name event place s h =
    let d : Document = s.document in
    end-counted name event
    (run_at (map program_of d.programs) place d.globals d.heap most_steps) s h

function-counted : (name function : List ℕ) (s : Scene) → SceneCounted s
    → SceneCounted (run_function name function s).scene
unfolding run_function
function-counted name function s h =
    let d : Document = s.document in
    end-counted name no_event
    (global_run (map program_of d.programs) function d.globals d.heap most_steps) s h

-- ---- events

handler-counted : (event : Event) (node : ℕ) (s : Scene) → SceneCounted s
    → SceneCounted (run_handler event node s).scene
handler-counted event node s h =
    by (option_and_then (handler_in s.document.handlers node) (kind_of event))
  where
    by : (place : Option ℕ) → SceneCounted (option_map_or
        (λ place. run_program (name_of event) (record { event = Some event; target = node })
        place s) place (no_effect s)).scene
    by None = h
    by (Some place) = program-counted (name_of event) _ place s h

handled_at-counted : (node : Option ℕ) (event : Event) (s : Scene) → SceneCounted s
    → SceneCounted (event_effect_at node event s).scene
handled_at-counted None event s h = h
handled_at-counted (Some node) event s h = handler-counted event node s h

-- the event of a timer was taken
timer-counted : (number : ℕ) (s : Scene)
    → IsCounted (events.Timer number ∷ s.document.queue) s.browser.timers
    → SceneCounted (timer_effect number s).scene
timer-counted number s h = by (timer_of number s.browser.timers) refl
  where
    by : (timer : Option Timer) → timer_of number s.browser.timers ≡ timer
        → SceneCounted (option_map_or
        (λ timer. run_function (name_of (events.Timer number)) timer.function
        (with_timer_taken number s)) timer (no_effect s)).scene
    by None e = unknown-counted number s.document.queue s.browser.timers e h
    by (Some timer) e =
        function-counted (name_of (events.Timer number)) timer.function (with_timer_taken number s)
        (settled-counted number s.document.queue s.browser.timers h)

-- an event was taken, which is none of a timer
others-counted : (event : Event) (s : Scene) → IsApart event
    → IsCounted (event ∷ s.document.queue) s.browser.timers → SceneCounted s
others-counted event s apart h = taken-counted event s.document.queue s.browser.timers apart h

-- the event that was taken is handled
pub handled-counted : (event : Event) (s : Scene)
    → IsCounted (event ∷ s.document.queue) s.browser.timers
    → SceneCounted (event_effect event s).scene
unfolding event_effect
handled-counted events.Load s h =
    handled_at-counted (body_in s) events.Load s (others-counted events.Load s (λ n. refl) h)
handled-counted events.Unload s h =
    handled_at-counted (body_in s) events.Unload s (others-counted events.Unload s (λ n. refl) h)
handled-counted (events.Focus node) s h =
    let event : Event = events.Focus node in
    handler-counted event node s (others-counted event s (λ n. refl) h)
handled-counted (events.Blur node) s h =
    let event : Event = events.Blur node in
    handler-counted event node s (others-counted event s (λ n. refl) h)
handled-counted (events.Click node) s h =
    let event : Event = events.Click node in
    handler-counted event node s (others-counted event s (λ n. refl) h)
handled-counted (events.KeyDown key) s h =
    let event : Event = events.KeyDown key in
    handled_at-counted (focus_of s) event s (others-counted event s (λ n. refl) h)
handled-counted (events.KeyUp key) s h = by (key == key_number Enter)
  where
    after : SceneCounted s
    after = others-counted (events.KeyUp key) s (λ n. refl) h

    by : (enter : Bool) → SceneCounted (event_effect_at (focus_of s) (events.KeyUp key)
        (if enter then record s { document = without_active s.document } else s)).scene
    by true = handled_at-counted (focus_of s) (events.KeyUp key) _ after
    by false = handled_at-counted (focus_of s) (events.KeyUp key) s after
handled-counted (events.Default key) s h =
    done-counted (with_action (action_of s.document.tree key)) s
    (acted-counted (action_of s.document.tree key))
    (others-counted (events.Default key) s (λ n. refl) h)
handled-counted (events.Timer number) s h = timer-counted number s h
handled-counted (events.Fired item component message) s h =
    let event : Event = events.Fired item component message in
    handler-counted event item s (others-counted event s (λ n. refl) h)
handled-counted (events.Updated item status) s h =
    let event : Event = events.Updated item status in
    handler-counted event item s (others-counted event s (λ n. refl) h)
handled-counted (events.Locked item status) s h =
    let event : Event = events.Locked item status in
    handler-counted event item s (others-counted event s (λ n. refl) h)
handled-counted (events.Button item) s h =
    handler-counted (events.Button item) item s
    (others-counted (events.Button item) s (λ n. refl) h)
handled-counted (events.DataEvent item) s h =
    handler-counted (events.DataEvent item) item s
    (others-counted (events.DataEvent item) s (λ n. refl) h)

-- ---- messages, changes of modules, keys and moments

pub message-counted : (component : ℕ) (message : Message) (s : Scene) → SceneCounted s
    → SceneCounted (message_effect component message s).scene
unfolding message_effect
message-counted component message s h =
    done-counted (message_posts component message) s (messages-counted component message) h

pub change-counted : (component : ℕ) (change : Change) (s : Scene) → SceneCounted s
    → SceneCounted (change_effect component change s).scene
unfolding change_effect
change-counted component change s h =
    done-counted (change_posts component change) s (changes-counted component change) h

pub key-counted : (key : ℕ) (down : Bool) (s : Scene) → SceneCounted s
    → SceneCounted (key_effect key down s).scene
unfolding key_effect
key-counted key down s h = by (passes key s.document)
  where
    by : (t : Bool) → SceneCounted
        (if t then effect_of_change (key_posts down key) s else no_effect s).scene
    by true = done-counted (key_posts down key) s (keys-counted down key) h
    by false = h

pub due-counted : (moment : ℕ) (s : Scene) → SceneCounted s
    → SceneCounted (due_effect moment s).scene
unfolding due_effect
due-counted moment s h =
    done-counted (with_due_events moment) (record s { now = moment })
    (timers-counted most_timers moment) h

-- ---- loads

scripts-counted : (places : List ℕ) (s : Scene) → SceneCounted s
    → SceneCounted (run_scripts places s).scene
scripts-counted [] s h = h
scripts-counted (place ∷ places) s h =
    then-counted (run_scripts places) (scripts-counted places) _
    (program-counted _ no_event place s h)

begin-counted : (s : Scene) → SceneCounted s → SceneCounted (begin s).scene
begin-counted s h =
    done-counted (λ a. with_first_events (first_focus a) a) s (λ a. begun-counted (first_focus a) a) h

pub load-counted : (s : Scene) → SceneCounted s → SceneCounted (load_effect s).scene
unfolding load_effect
load-counted s h =
    then-counted begin begin-counted (run_scripts (script_places s.document) s) (scripts-counted (script_places s.document) s h)
