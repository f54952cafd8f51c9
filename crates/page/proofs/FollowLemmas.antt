-- What a document does with the modules of the service: its scripts set locks, and take them away.
use Rattle.std.proofs.Common.{◌≡◌, ◌∙◌, ℕ, Bool, true, false, List, [], ◌∷◌, ◌++◌, Option, Some, None, refl, sym, ap}
use Rattle.std.specs.Prelude.{◌==◌, if◌then◌else◌, map, option_and_then}
use Rattle.std.specs.Option.{option_map_or}
use Rattle.focus_keys.specs.KeyTables.{key_number}
use Rattle.focus_keys.specs.declared.keys.Key.TheVariants.{Enter}
use Rattle.module_locks.specs.Histories.{Happening, behind_all, modules_behind}
use Rattle.module_locks.specs.Histories.Happening.{Fed, Mapped, Locked, Unlocked}
use Rattle.module_locks.specs.Locks.{Modules, at_start, with_lock, with_map, with_section, without_lock}
use Rattle.es_values.specs.declared.values.HostRef.{HostRef}
use Rattle.es_values.specs.declared.values.HostRef.TheVariants as ref
use Rattle.es_values.specs.declared.values.Value.{Value}
use Rattle.es_values.specs.Objects.{ObjectState}
use Rattle.es_eval.specs.Evaluation.{global_run, run_at}
use Rattle.es_eval.specs.Worlds.{Run}
use Rattle.es_eval.specs.Worlds.Run.{Over, Reads, Writes, Calls}
use Rattle.es_shapes.specs.Sources.{program_of}
use Rattle.event_items.specs.Subscriptions.{data_event_items}
use Rattle.event_queue.specs.Events.{name_of}
use Rattle.event_queue.specs.Timers.{Timer, timer_of}
use Rattle.event_queue.specs.declared.events.Event.{Event}
use Rattle.event_queue.specs.declared.events.Event.TheVariants as events
use Rattle.browser_objects.specs.Calls.{CallOutcome, call_of}
use Rattle.browser_objects.specs.declared.effects.Effect as of_browser
use Rattle.browser_objects.specs.declared.effects.Effect.TheVariants as effects
use Rattle.multipart_entities.specs.declared.paths.Path.{Path}
use Rattle.dom_objects.specs.declared.current_events.CurrentEvent.{CurrentEvent}
use Rattle.document_stages.specs.Acting.{member_value, with_browser, with_member_set}
use Rattle.document_stages.specs.Hosting.{HostParts, reply_of_call, reply_of_effect}
use Rattle.acting_documents.specs.Beginnings.{begin, data_event_effect, items_effect, load_effect, run_scripts, script_places, unload_effect, without_waiting}
use Rattle.acting_documents.specs.Documents.{Document, handler_in}
use Rattle.carousel_blocks.specs.declared.changes.Change.{Change}
use Rattle.event_messages.specs.declared.messages.Message.{Message}
use Rattle.document_stages.specs.Acting.{key_posts}
use Rattle.acting_documents.specs.Documents.{passes}
use Rattle.acting_documents.specs.Notices.{notice_effect}
use Rattle.acting_documents.specs.declared.notices.Notice.{Notice}
use Rattle.acting_documents.specs.declared.notices.Notice.TheVariants as notices
use Rattle.acting_documents.specs.Handling.{change_effect, due_effect, key_effect, message_effect}
use Rattle.acting_documents.specs.Runs.{effect_of_change}
use Rattle.acting_documents.specs.Handling.{body_in, without_active, focus_of, event_effect, event_effect_at, kind_of, run_handler, timer_effect, with_timer_taken}
use Rattle.acting_documents.specs.Runs.{Effect, Scene, and_then, end_of_run, host_parts_in, most_steps, no_event, no_effect, run_function, run_program, unless_launched}

-- ---- what happens to modules

pub behind_both : (modules : Modules) (first more : List Happening) → modules_behind modules (first ++ more) ≡ modules_behind (modules_behind modules first) more
behind_both modules [] more = refl
behind_both modules (Fed component section ∷ first) more = behind_both (with_section component section modules) first more
behind_both modules (Mapped components ∷ first) more = behind_both (with_map components modules) first more
behind_both modules (Locked component number ∷ first) more = behind_both (with_lock component number modules) first more
behind_both modules (Unlocked component number ∷ first) more = behind_both (without_lock component number modules) first more

-- what these modules are behind something that happened to those
pub record Follows (before after : Modules) : Type 0 where
  pub more : List Happening
  pub reached : after ≡ modules_behind before more

pub stays : (modules : Modules) → Follows modules modules
stays modules = record { more = []; reached = refl }

pub follows_on : (first between last : Modules) → Follows first between → Follows between last → Follows first last
follows_on first between last one other = record {
  more = one.more ++ other.more;
  reached = other.reached ∙ ap (λ (m : Modules). modules_behind m other.more) one.reached ∙ sym (behind_both first one.more other.more);
}

-- what happened to modules from the start on goes on so
pub reached_later : (before after : Modules) (happened : List Happening) → before ≡ behind_all happened → (follows : Follows before after) → after ≡ behind_all (happened ++ follows.more)
reached_later before after happened reached follows = follows.reached ∙ ap (λ (m : Modules). modules_behind m follows.more) reached ∙ sym (behind_both at_start happened follows.more)

-- ---- scripts

-- a call locks a module, or unlocks it, or leaves them
done-follows : (effect : of_browser.Effect) (value : Value) (h : HostParts) (heap : List ObjectState)
    → Follows h.modules (reply_of_effect effect value h heap).hosted.modules
done-follows effects.Nothing value h heap = stays h.modules
done-follows (effects.Sound sound) value h heap = stays h.modules
done-follows (effects.Kept slot size) value h heap = stays h.modules
done-follows (effects.Launch path) value h heap = stays h.modules
done-follows (effects.Lock path) value h heap = record { more = Locked path.component path.«module» ∷ []; reached = refl }
done-follows (effects.Unlock path) value h heap = record { more = Unlocked path.component path.«module» ∷ []; reached = refl }
done-follows (effects.Table path kinds) value h heap = stays h.modules

called-follows : (h : HostParts) (base : HostRef) (name : List ℕ) (arguments : List Value)
    (heap : List ObjectState)
    → Follows h.modules (reply_of_call h base name arguments heap).hosted.modules
unfolding reply_of_call
called-follows h ref.Document name arguments heap = stays h.modules
called-follows h (ref.Node node) name arguments heap = stays h.modules
called-follows h ref.Browser name arguments heap =
    let a = h.acting in
    let outcome : CallOutcome = call_of name a.path a.now arguments heap a.browser in
    done-follows outcome.called.effect outcome.called.value
    (record h { acting = with_browser outcome.called.state a }) outcome.heap
called-follows h _ name arguments heap = stays h.modules

run-follows : (run : Run) (h : HostParts) → Follows h.modules (end_of_run run h).hosted.modules
unfolding end_of_run
run-follows (Over outcome w) h = stays h.modules
run-follows (Reads base name go) h = run-follows (go (member_value h.acting base name)) h
run-follows (Writes base name value heap go) h =
    run-follows go (record h { acting = with_member_set h.acting base name value heap })
run-follows (Calls base name arguments heap go) h =
    let c = reply_of_call h base name arguments heap in
    follows_on h.modules c.hosted.modules (end_of_run (go c.answer c.heap) c.hosted).hosted.modules (called-follows h base name arguments heap) (run-follows (go c.answer c.heap) c.hosted)

-- ---- documents

-- the modules behind the effect
abbrev pub FollowsScene : Scene → Effect → Type 0
FollowsScene s e = Follows s.modules e.scene.modules

then-follows : (more : Scene → Effect) → ((s : Scene) → FollowsScene s (more s)) → (s : Scene)
    (e : Effect) → FollowsScene s e → FollowsScene s (and_then more e)
then-follows more leaves s e h = by e.launched
  where
    by : (launched : Option Path) → FollowsScene s (unless_launched launched more e)
    by None = follows_on s.modules e.scene.modules (more e.scene).scene.modules h (leaves e.scene)
    by (Some path) = h

program-follows : (name : List ℕ) (event : CurrentEvent) (place : ℕ) (s : Scene)
    → FollowsScene s (run_program name event place s)
unfolding run_program
program-follows name event place s =
    let d : Document = s.document in
    run-follows (run_at (map program_of d.programs) place d.globals d.heap most_steps)
    (host_parts_in event s)

function-follows : (name function : List ℕ) (s : Scene)
    → FollowsScene s (run_function name function s)
unfolding run_function
function-follows name function s =
    let d : Document = s.document in
    run-follows (global_run (map program_of d.programs) function d.globals d.heap most_steps)
    (host_parts_in no_event s)

-- ---- events

handler-follows : (event : Event) (node : ℕ) (s : Scene)
    → FollowsScene s (run_handler event node s)
handler-follows event node s =
    by (option_and_then (handler_in s.document.handlers node) (kind_of event))
  where
    by : (place : Option ℕ) → FollowsScene s (option_map_or
        (λ place. run_program (name_of event) (record { event = Some event; target = node }) place s)
        place (no_effect s))
    by None = stays s.modules
    by (Some place) = program-follows (name_of event) _ place s

handled_at-follows : (node : Option ℕ) (event : Event) (s : Scene)
    → FollowsScene s (event_effect_at node event s)
handled_at-follows None event s = stays s.modules
handled_at-follows (Some node) event s = handler-follows event node s

timer-follows : (number : ℕ) (s : Scene) → FollowsScene s (timer_effect number s)
timer-follows number s = by (timer_of number s.browser.timers)
  where
    by : (timer : Option Timer) → FollowsScene s (option_map_or
        (λ timer. run_function (name_of (events.Timer number)) timer.function (with_timer_taken number s))
        timer (no_effect s))
    by None = stays s.modules
    by (Some timer) =
        function-follows (name_of (events.Timer number)) timer.function (with_timer_taken number s)

pub handled-follows : (event : Event) (s : Scene) → FollowsScene s (event_effect event s)
unfolding event_effect
handled-follows events.Load s = handled_at-follows (body_in s) events.Load s
handled-follows events.Unload s = handled_at-follows (body_in s) events.Unload s
handled-follows (events.Focus node) s = handler-follows (events.Focus node) node s
handled-follows (events.Blur node) s = handler-follows (events.Blur node) node s
handled-follows (events.Click node) s = handler-follows (events.Click node) node s
handled-follows (events.KeyDown key) s = handled_at-follows (focus_of s) (events.KeyDown key) s
handled-follows (events.KeyUp key) s = by (key == key_number Enter)
  where
    by : (enter : Bool) → FollowsScene s (event_effect_at (focus_of s) (events.KeyUp key)
        (if enter then record s { document = without_active s.document } else s))
    by true = handled_at-follows (focus_of s) (events.KeyUp key) _
    by false = handled_at-follows (focus_of s) (events.KeyUp key) s
handled-follows (events.Default key) s = stays s.modules
handled-follows (events.Timer number) s = timer-follows number s
handled-follows (events.Fired item component message) s =
    handler-follows (events.Fired item component message) item s
handled-follows (events.Updated item status) s =
    handler-follows (events.Updated item status) item s
handled-follows (events.Locked item status) s = handler-follows (events.Locked item status) item s
handled-follows (events.Button item) s = handler-follows (events.Button item) item s
handled-follows (events.DataEvent item) s = handler-follows (events.DataEvent item) item s

-- ---- loads and ends

scripts-follows : (places : List ℕ) (s : Scene) → FollowsScene s (run_scripts places s)
scripts-follows [] s = stays s.modules
scripts-follows (place ∷ places) s =
    then-follows (run_scripts places) (scripts-follows places) s _
    (program-follows _ no_event place s)

pub load-follows : (s : Scene) → FollowsScene s (load_effect s)
unfolding load_effect
load-follows s =
    then-follows begin (λ now. stays now.modules) s _ (scripts-follows (script_places s.document) s)

pub unload-follows : (s : Scene) → FollowsScene s (unload_effect s)
unfolding unload_effect
unload-follows s = handled-follows events.Unload (without_waiting s)

items-follows : (items : List ℕ) (s : Scene) → FollowsScene s (items_effect items s)
items-follows [] s = stays s.modules
items-follows (item ∷ items) s =
    let e = event_effect (events.DataEvent item) s in
    follows_on s.modules e.scene.modules (items_effect items e.scene).scene.modules
    (handled-follows (events.DataEvent item) s) (items-follows items e.scene)

pub data-event-follows : (s : Scene) → FollowsScene s (data_event_effect s)
unfolding data_event_effect
data-event-follows s =
    let items = data_event_items s.document.items in
    let e = items_effect items (without_waiting s) in
    follows_on s.modules e.scene.modules (event_effect events.Unload e.scene).scene.modules
    (items-follows items (without_waiting s)) (handled-follows events.Unload e.scene)

-- ---- what a document is told

message-follows : (component : ℕ) (message : Message) (s : Scene) → FollowsScene s (message_effect component message s)
unfolding message_effect
message-follows component message s = stays s.modules

change-follows : (component : ℕ) (change : Change) (s : Scene) → FollowsScene s (change_effect component change s)
unfolding change_effect
change-follows component change s = stays s.modules

key-follows : (key : ℕ) (down : Bool) (s : Scene) → FollowsScene s (key_effect key down s)
unfolding key_effect
key-follows key down s = by (passes key s.document)
  where
    by : (b : Bool) → FollowsScene s (if b then effect_of_change (key_posts down key) s else no_effect s)
    by true = stays s.modules
    by false = stays s.modules

due-follows : (moment : ℕ) (s : Scene) → FollowsScene s (due_effect moment s)
unfolding due_effect
due-follows moment s = stays s.modules

pub notice-follows : (notice : Notice) (s : Scene) → FollowsScene s (notice_effect notice s)
notice-follows (notices.Key key down) s = key-follows key down s
notice-follows (notices.Message component message) s = message-follows component message.now s
notice-follows (notices.Change component change) s = change-follows component change.now s
notice-follows (notices.Moment moment) s = due-follows moment s
