-- What a document does leaves its timers due later than the clock: its scripts, its handlers, its default actions
-- and its beginning.
use Rattle.std.proofs.Common.{ℕ, Bool, true, false, List, [], ◌∷◌, Option, Some, None}
use Rattle.std.specs.Prelude.{◌==◌, if◌then◌else◌, map, option_and_then}
use Rattle.std.specs.Option.{option_map_or}
use Rattle.carousel_blocks.specs.declared.changes.Change.{Change}
use Rattle.multipart_entities.specs.declared.paths.Path.{Path}
use Rattle.focus_keys.specs.Defaults.{action_of}
use Rattle.focus_keys.specs.KeyTables.{key_number}
use Rattle.focus_keys.specs.declared.keys.Key.TheVariants.{Enter}
use Rattle.es_eval.specs.Evaluation.{global_run, run_at}
use Rattle.es_eval.specs.Worlds.{Run}
use Rattle.es_shapes.specs.Sources.{program_of}
use Rattle.event_messages.specs.declared.messages.Message.{Message}
use Rattle.event_queue.specs.Events.{name_of}
use Rattle.event_queue.specs.Timers.{Timer, timer_of}
use Rattle.event_queue.specs.declared.events.Event.{Event}
use Rattle.event_queue.specs.declared.events.Event.TheVariants as events
use Rattle.dom_objects.specs.declared.current_events.CurrentEvent.{CurrentEvent}
use Rattle.document_stages.specs.Acting.{Acting, with_action, with_first_events, change_posts, first_focus, key_posts, message_posts}
use Rattle.acting_documents.specs.Documents.{Document, handler_in, passes}
use Rattle.acting_documents.specs.Handling.{body_in, change_effect, without_active, focus_of, event_effect, event_effect_at, key_effect, kind_of, message_effect, run_handler, timer_effect, with_timer_taken}
use Rattle.acting_documents.specs.Beginnings.{begin, load_effect, run_scripts, script_places}
use Rattle.acting_documents.specs.Runs.{Effect, Scene, acting_in, and_then, effect_of_change, effect_of_end, end_of_run, host_parts_in, most_steps, no_event, no_effect, run_function, run_program, unless_launched}
use Rattle.page_laws.proofs.LaterActingLemmas.{ActsTimely, IsTimely, acted-timely, begun-timely, changes-timely, keys-timely, messages-timely, run-timely}
use Rattle.page_laws.proofs.LaterLemmas.{with_settled-later}

abbrev pub SceneTimely : ℕ → Scene → Type 0
SceneTimely clock s = IsTimely clock s.now s.browser

module _ (clock : ℕ) where
  done-timely : (change : Acting → Acting) (s : Scene)
      → ((a : Acting) → ActsTimely clock a → ActsTimely clock (change a)) → SceneTimely clock s
      → SceneTimely clock (effect_of_change change s).scene
  done-timely change s keeps h =
      record { is_now = h.is_now; timers = (keeps (acting_in no_event s) h).timers }

  then-timely : (more : Scene → Effect)
      → ((s : Scene) → SceneTimely clock s → SceneTimely clock (more s).scene) → (e : Effect)
      → SceneTimely clock e.scene → SceneTimely clock (and_then more e).scene
  then-timely more keeps e h = by e.launched
    where
      by : (launched : Option Path) → SceneTimely clock (unless_launched launched more e).scene
      by None = keeps e.scene h
      by (Some path) = h

  -- ---- programs

  end-timely : (name : List ℕ) (event : CurrentEvent) (run : Run) (s : Scene)
      → SceneTimely clock s
      → SceneTimely clock (effect_of_end name s (end_of_run run (host_parts_in event s))).scene
  end-timely name event run s h =
      record { is_now = h.is_now; timers = (run-timely clock run (host_parts_in event s) h).timers }

  program-timely : (name : List ℕ) (event : CurrentEvent) (place : ℕ) (s : Scene)
      → SceneTimely clock s → SceneTimely clock (run_program name event place s).scene
  unfolding run_program
  program-timely name event place s h =
      let d : Document = s.document in
      end-timely name event
      (run_at (map program_of d.programs) place d.globals d.heap most_steps) s h

  function-timely : (name function : List ℕ) (s : Scene) → SceneTimely clock s
      → SceneTimely clock (run_function name function s).scene
  unfolding run_function
  function-timely name function s h =
      let d : Document = s.document in
      end-timely name no_event
      (global_run (map program_of d.programs) function d.globals d.heap most_steps) s h

  -- ---- events

  handler-timely : (event : Event) (node : ℕ) (s : Scene) → SceneTimely clock s
      → SceneTimely clock (run_handler event node s).scene
  handler-timely event node s h =
      by (option_and_then (handler_in s.document.handlers node) (kind_of event))
    where
      by : (place : Option ℕ) → SceneTimely clock (option_map_or
          (λ place. run_program (name_of event) (record { event = Some event; target = node })
          place s) place (no_effect s)).scene
      by None = h
      by (Some place) = program-timely (name_of event) _ place s h

  handled_at-timely : (node : Option ℕ) (event : Event) (s : Scene) → SceneTimely clock s
      → SceneTimely clock (event_effect_at node event s).scene
  handled_at-timely None event s h = h
  handled_at-timely (Some node) event s h = handler-timely event node s h

  timer-timely : (number : ℕ) (s : Scene) → SceneTimely clock s
      → SceneTimely clock (timer_effect number s).scene
  timer-timely number s h = by (timer_of number s.browser.timers)
    where
      by : (timer : Option Timer) → SceneTimely clock (option_map_or
          (λ timer. run_function (name_of (events.Timer number)) timer.function
          (with_timer_taken number s)) timer (no_effect s)).scene
      by None = h
      by (Some timer) =
          function-timely (name_of (events.Timer number)) timer.function (with_timer_taken number s)
          (record {
            is_now = h.is_now;
            timers = with_settled-later clock number s.browser.timers h.timers;
          })

  pub handled-timely : (event : Event) (s : Scene) → SceneTimely clock s
      → SceneTimely clock (event_effect event s).scene
  unfolding event_effect
  handled-timely events.Load s h = handled_at-timely (body_in s) events.Load s h
  handled-timely events.Unload s h = handled_at-timely (body_in s) events.Unload s h
  handled-timely (events.Focus node) s h = handler-timely (events.Focus node) node s h
  handled-timely (events.Blur node) s h = handler-timely (events.Blur node) node s h
  handled-timely (events.Click node) s h = handler-timely (events.Click node) node s h
  handled-timely (events.KeyDown key) s h =
      handled_at-timely (focus_of s) (events.KeyDown key) s h
  handled-timely (events.KeyUp key) s h = by (key == key_number Enter)
    where
      by : (enter : Bool) → SceneTimely clock (event_effect_at (focus_of s) (events.KeyUp key)
          (if enter then record s { document = without_active s.document } else s)).scene
      by true = handled_at-timely (focus_of s) (events.KeyUp key) _ h
      by false = handled_at-timely (focus_of s) (events.KeyUp key) s h
  handled-timely (events.Default key) s h =
      done-timely (with_action (action_of s.document.tree key)) s
      (acted-timely clock (action_of s.document.tree key)) h
  handled-timely (events.Timer number) s h = timer-timely number s h
  handled-timely (events.Fired item component message) s h =
      handler-timely (events.Fired item component message) item s h
  handled-timely (events.Updated item status) s h =
      handler-timely (events.Updated item status) item s h
  handled-timely (events.Locked item status) s h =
      handler-timely (events.Locked item status) item s h
  handled-timely (events.Button item) s h = handler-timely (events.Button item) item s h
  handled-timely (events.DataEvent item) s h = handler-timely (events.DataEvent item) item s h

  -- ---- messages, changes of modules and keys

  pub message-timely : (component : ℕ) (message : Message) (s : Scene) → SceneTimely clock s
      → SceneTimely clock (message_effect component message s).scene
  unfolding message_effect
  message-timely component message s h =
      done-timely (message_posts component message) s (messages-timely clock component message) h

  pub change-timely : (component : ℕ) (change : Change) (s : Scene) → SceneTimely clock s
      → SceneTimely clock (change_effect component change s).scene
  unfolding change_effect
  change-timely component change s h =
      done-timely (change_posts component change) s (changes-timely clock component change) h

  pub key-timely : (key : ℕ) (down : Bool) (s : Scene) → SceneTimely clock s
      → SceneTimely clock (key_effect key down s).scene
  unfolding key_effect
  key-timely key down s h = by (passes key s.document)
    where
      by : (t : Bool) → SceneTimely clock
          (if t then effect_of_change (key_posts down key) s else no_effect s).scene
      by true = done-timely (key_posts down key) s (keys-timely clock down key) h
      by false = h

  -- ---- loads

  scripts-timely : (places : List ℕ) (s : Scene) → SceneTimely clock s
      → SceneTimely clock (run_scripts places s).scene
  scripts-timely [] s h = h
  scripts-timely (place ∷ places) s h =
      then-timely (run_scripts places) (scripts-timely places) _
      (program-timely _ no_event place s h)

  begin-timely : (s : Scene) → SceneTimely clock s → SceneTimely clock (begin s).scene
  begin-timely s h =
      done-timely (λ a. with_first_events (first_focus a) a) s (λ a. begun-timely clock (first_focus a) a) h

  pub load-timely : (s : Scene) → SceneTimely clock s → SceneTimely clock (load_effect s).scene
  unfolding load_effect
  load-timely s h =
      then-timely begin begin-timely _ (scripts-timely (script_places s.document) s h)
