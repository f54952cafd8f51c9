-- What the run of a script comes to, where each question is answered by the rows of the document and of the browser object.
use Rattle.std.proofs.Common.{◌≡◌, ℕ, zero, suc, Bool, true, false, eqb, List, [], ◌∷◌, Option, Some, None, refl, sym, ap, ◌∙◌, subst}
use Rattle.std.specs.Prelude.{codes, fold, if◌then◌else◌, is_some, nat_lt, length}
use Rattle.std.specs.Option.{option_map_or}
use Rattle.bml_bytes.specs.Words.{is_same}
use Rattle.dom_tree.specs.Items.{tag_of}
use Rattle.carousel_blocks.specs.declared.changes.Change.{Change}
use Rattle.multipart_entities.specs.declared.paths.Path.{Path}
use Rattle.focus_keys.specs.Defaults.{Action}
use Rattle.focus_keys.specs.Defaults.Action.{NoAction, Moves, Activates, Accesses}
use Rattle.focus_keys.specs.KeyTables.{key_number}
use Rattle.focus_keys.specs.Targets.{can_have_focus}
use Rattle.focus_keys.specs.declared.keys.Key.TheVariants.{Data}
use Rattle.es_values.specs.declared.hosts.HostAnswer.{HostAnswer}
use Rattle.es_values.specs.declared.values.HostRef.{HostRef}
use Rattle.es_values.specs.declared.values.HostRef.TheVariants as host
use Rattle.es_values.specs.declared.values.Value.{Value}
use Rattle.es_values.specs.Conversions.{text_of}
use Rattle.es_values.specs.Objects.{ObjectState}
use Rattle.es_values.specs.Values.{truth_of}
use Rattle.es_eval.specs.declared.outcomes.Outcome.{Outcome}
use Rattle.es_eval.specs.Endings.{MayEnd}
use Rattle.es_eval.specs.Worlds.{World, Run}
use Rattle.es_eval.specs.Worlds.Run.{Over, Reads, Writes, Calls}
use Rattle.event_items.specs.EventItems.{EventItem}
use Rattle.event_items.specs.Subscriptions.{fires_for_message, fires_for_button, fires_for_module, with_firing, with_subscribed}
use Rattle.event_messages.specs.declared.messages.Message.{Message}
use Rattle.event_queue.specs.Queues.{most_events}
use Rattle.event_queue.specs.Timers.{first_due, most_timers, with_fired}
use Rattle.event_queue.specs.declared.events.Event.{Event}
use Rattle.event_queue.specs.declared.events.Event.TheVariants as events
use Rattle.event_queue.specs.declared.item_kinds.ItemKind.TheVariants as kinds
use Rattle.browser_objects.specs.Calls.{CallOutcome, call_of, number}
use Rattle.browser_objects.specs.declared.effects.Effect as of_browser
use Rattle.browser_objects.specs.declared.effects.Effect.TheVariants as effects
use Rattle.dom_objects.specs.Writes.{change_of}
use Rattle.document_stages.specs.Acting.{Acting, CallAnswer, with_action, acting_with_timers, with_first_events, button_post, button_posts, change_posts, with_due_events, element_call, with_item_fired, focus_on, with_focus_asked, focused_node, gives, has_focus, has_room, is_subscription, is_ending, key_posts, launch, without_focus_of, lock_post, lock_posts, message_post, message_posts, module_post, with_focus_moved, no_focus, with_node_written, with_event, with_event_for, with_event_where, with_press, member_value, gives_nan, with_text_written, with_timer_fired, with_timer_event, with_timer_settled, with_timers_fired, update_posts, with_browser, with_focus, with_member_set}
use Rattle.document_stages.specs.Hosting.{HostParts, reply_of_outcome, reply_of_call, reply_of_effect, answer_of_lock}
use Rattle.display_list.specs.Bodies.{body_of}
use Rattle.acting_documents.specs.Runs.{End, end_of_run}
use Rattle.document_stages.specs.Calling.{HasCalled, HasRead, HasWritten, Replies}
use Rattle.document_stages.specs.declared.script_hosts.ScriptHost.{ScriptHost}
use Rattle.module_locks.specs.Locks.{lock_answer, lock_on}
use Rattle.module_locks.specs.Standing.{ModulesState, StandsFor}
use Rattle.module_locks.specs.declared.answers.LockAnswer.{LockAnswer}
use Rattle.module_locks.specs.declared.answers.LockAnswer.TheVariants as answers
use Rattle.acting_documents.proofs.BodyLemmas.{body-changed}

-- ---- what is left as it is: the path, the time, and which node is the body

pub record Stays : Type 0 where
  pub path : Path
  pub now : ℕ
  pub body : Option ℕ

abbrev pub stays_of : Acting → Stays
stays_of a = record { path = a.path; now = a.now; body = body_of a.tree.items }

-- ---- by moves of the focus, and launches

moved_to-stays : (node : ℕ) (a : Acting) → stays_of (with_focus_moved node a) ≡ stays_of a
unfolding with_focus_moved
moved_to-stays node a = go (has_focus node a) (focused_node a)
  where
    go : (has : Bool) (before : Option ℕ) → stays_of (if has then a else with_event (events.Focus node) (with_event_for events.Blur before (with_focus (focus_on node) a))) ≡ stays_of a
    go true before = refl
    go false None = refl
    go false (Some other) = refl

left_by-stays : (node : ℕ) (a : Acting) → stays_of (without_focus_of node a) ≡ stays_of a
unfolding without_focus_of
left_by-stays node a = go (has_focus node a)
  where
    go : (has : Bool) → stays_of (if has then with_event (events.Blur node) (with_focus no_focus a) else a) ≡ stays_of a
    go true = refl
    go false = refl

chosen : (b : Bool) (x y : CallAnswer) (s : Stays) → stays_of x.acting ≡ s → stays_of y.acting ≡ s → stays_of (if b then x else y).acting ≡ s
chosen true x y s e f = e
chosen false x y s e f = f

focused-stays : (node : ℕ) (a : Acting) → stays_of (with_focus_asked node a) ≡ stays_of a
focused-stays node a = go (can_have_focus a.tree node)
  where
    go : (can : Bool) → stays_of (if can then with_focus_moved node a else a) ≡ stays_of a
    go true = moved_to-stays node a
    go false = refl

element_call-stays : (a : Acting) (node : ℕ) (name : List ℕ) (heap : List ObjectState) → stays_of (element_call a node name heap).acting ≡ stays_of a
element_call-stays a node name heap =
    chosen (is_same name (codes "focus")) _ _ (stays_of a) (focused-stays node a)
    (chosen (is_same name (codes "blur")) _ _ (stays_of a) (left_by-stays node a) refl)

launch-stays : (path : Path) (a : Acting) (heap : List ObjectState) → stays_of (launch path a heap).acting ≡ stays_of a
launch-stays path a heap = chosen (is_ending a.event.event) _ _ (stays_of a) refl refl

-- ---- by writes

text_written-stays : (a : Acting) (base : HostRef) (name text : List ℕ) → stays_of (with_text_written a base name text) ≡ stays_of a
text_written-stays a host.Ureg name text = refl
text_written-stays a host.Greg name text = refl
text_written-stays a base name text =
    ap (λ (b : Option ℕ). let s : Stays = record { path = a.path; now = a.now; body = b } in s)
    (body-changed (change_of a.tree.items base name text) a.tree.items)

node_written-stays : (a : Acting) (node : ℕ) (name : List ℕ) (value : Value) (heap : List ObjectState) → stays_of (with_node_written a node name value heap) ≡ stays_of a
node_written-stays a node name value heap = go (is_subscription a node name)
  where
    go : (subscription : Bool) → stays_of (if subscription then record a { items = with_subscribed node (truth_of value) a.items } else with_text_written a (host.Node node) name (text_of heap value)) ≡ stays_of a
    go true = refl
    go false = text_written-stays a (host.Node node) name (text_of heap value)

written-stays : (a : Acting) (base : HostRef) (name : List ℕ) (value : Value) (heap : List ObjectState) → stays_of (with_member_set a base name value heap) ≡ stays_of a
written-stays a (host.Node node) name value heap = node_written-stays a node name value heap
written-stays a base name value heap = text_written-stays a base name (text_of heap value)

-- ---- by what event items are told

posted_where-stays : (test : Bool) (event : Event) (a : Acting) → stays_of (with_event_where test event a) ≡ stays_of a
posted_where-stays true event a = refl
posted_where-stays false event a = refl

items-stay : (step : EventItem → Acting → Acting) → ((item : EventItem) (a : Acting) → stays_of (step item a) ≡ stays_of a) → (items : List EventItem) (a : Acting) → stays_of (fold (λ acting item. step item acting) a items) ≡ stays_of a
items-stay step keeps [] a = refl
items-stay step keeps (item ∷ items) a = items-stay step keeps items (step item a) ∙ keeps item a

fired-stays : (component : ℕ) (message : Message) (node : ℕ) (a : Acting) → stays_of (with_item_fired component message node a) ≡ stays_of a
fired-stays component message node a = go (has_room a)
  where
    go : (room : Bool) → stays_of (let after = with_event (events.Fired node component message) a in if room then record after { items = with_firing node message a.items } else after) ≡ stays_of a
    go true = refl
    go false = refl

message_post-stays : (component : ℕ) (message : Message) (item : EventItem) (a : Acting) → stays_of (message_post component message item a) ≡ stays_of a
message_post-stays component message item a = go (fires_for_message component message a.items item)
  where
    go : (fires_now : Bool) → stays_of (if fires_now then with_item_fired component message item.node a else a) ≡ stays_of a
    go true = fired-stays component message item.node a
    go false = refl

pub message_posts-stays : (component : ℕ) (message : Message) (a : Acting) → stays_of (message_posts component message a) ≡ stays_of a
unfolding message_posts
message_posts-stays component message a = items-stay (message_post component message) (message_post-stays component message) a.items.items a

module_post-stays : (component number status : ℕ) (item : EventItem) (a : Acting) → stays_of (module_post component number status item a) ≡ stays_of a
module_post-stays component number status item a =
    posted_where-stays (fires_for_module kinds.ModuleUpdated component number a.items item) (events.Updated item.node status) a

update_posts-stays : (component number : ℕ) (status : Option ℕ) (a : Acting) → stays_of (update_posts component number status a) ≡ stays_of a
update_posts-stays component number None a = refl
update_posts-stays component number (Some status) a = items-stay (module_post component number status) (module_post-stays component number status) a.items.items a

lock_post-stays : (component number : ℕ) (item : EventItem) (a : Acting) → stays_of (lock_post component number item a) ≡ stays_of a
lock_post-stays component number item a =
    posted_where-stays (fires_for_module kinds.ModuleLocked component number a.items item) (events.Locked item.node 0) a

lock_posts-stays : (component number : ℕ) (a : Acting) → stays_of (lock_posts component number a) ≡ stays_of a
unfolding lock_posts
lock_posts-stays component number a = items-stay (lock_post component number) (lock_post-stays component number) a.items.items a

pub change_posts-stays : (component : ℕ) (change : Change) (a : Acting) → stays_of (change_posts component change a) ≡ stays_of a
unfolding change_posts
change_posts-stays component change a = go (update_posts component change.«module» change.status a) change.locked (update_posts-stays component change.«module» change.status a)
  where
    go : (updated : Acting) (locked : Bool) → stays_of updated ≡ stays_of a → stays_of (if locked then lock_posts component change.«module» updated else updated) ≡ stays_of a
    go updated true same = lock_posts-stays component change.«module» updated ∙ same
    go updated false same = same

button_posts-stays : (a : Acting) → stays_of (button_posts a) ≡ stays_of a
unfolding button_posts
button_posts-stays a = items-stay button_post (λ item a. posted_where-stays (fires_for_button a.items item) (events.Button item.node) a) a.items.items a

-- ---- by keys, default actions, the first focus and timers that fire

pub key_posts-stays : (down : Bool) (key : ℕ) (a : Acting) → stays_of (key_posts down key a) ≡ stays_of a
key_posts-stays true key a = go (eqb key (key_number Data))
  where
    go : (data_button : Bool) → stays_of (if data_button then button_posts (with_press key a) else with_press key a) ≡ stays_of a
    go true = button_posts-stays (with_press key a)
    go false = refl
key_posts-stays false key a = refl

pub acted-stays : (action : Action) (a : Acting) → stays_of (with_action action a) ≡ stays_of a
acted-stays NoAction a = refl
acted-stays (Moves node) a = moved_to-stays node a
acted-stays (Activates node) a = refl
acted-stays (Accesses node) a = moved_to-stays node a

pub begun-stays : (first : Option ℕ) (a : Acting) → stays_of (with_first_events first a) ≡ stays_of a
begun-stays None a = refl
begun-stays (Some node) a = refl

timer_posted-stays : (number : ℕ) (a : Acting) → stays_of (with_timer_event number a) ≡ stays_of a
timer_posted-stays number a = go (nat_lt (length a.queue) most_events)
  where
    go : (place : Bool) → stays_of (if place then with_event (events.Timer number) a else with_timer_settled number (with_event (events.Timer number) a)) ≡ stays_of a
    go true = refl
    go false = refl

timers_fired-stays : (n moment : ℕ) (a : Acting) → stays_of (with_timers_fired n moment a) ≡ stays_of a
unfolding with_timers_fired
timers_fired-stays zero moment a = refl
timers_fired-stays (suc more) moment a = go (timers_fired-stays more moment) (first_due moment a.browser.timers)
  where
    go : ((b : Acting) → stays_of (with_timers_fired more moment b) ≡ stays_of b) → (due : Option ℕ) → stays_of (option_map_or (λ number. with_timers_fired more moment (with_timer_fired moment number a)) due a) ≡ stays_of a
    go others None = refl
    go others (Some number) =
        others (with_timer_fired moment number a)
        ∙ timer_posted-stays number (acting_with_timers (with_fired moment a.browser.timers) a)

pub due_posted-stays : (moment : ℕ) (a : Acting) → stays_of (with_due_events moment a) ≡ stays_of a
due_posted-stays moment a = timers_fired-stays most_timers moment a

-- ---- by calls of scripts

lock_answered-stays : (answer : LockAnswer) (path : Path) (a : Acting) (heap : List ObjectState) → stays_of (answer_of_lock answer path a heap).acting ≡ stays_of a
lock_answered-stays answers.Kept path a heap = lock_posts-stays path.component path.«module» a
lock_answered-stays answers.Had path a heap = refl
lock_answered-stays answers.Wanted path a heap = refl
lock_answered-stays answers.NoEntry path a heap = refl
lock_answered-stays answers.Full path a heap = refl

done_for-stays : (effect : of_browser.Effect) (value : Value) (h : HostParts) (heap : List ObjectState) → stays_of (reply_of_effect effect value h heap).hosted.acting ≡ stays_of h.acting
done_for-stays effects.Nothing value h heap = refl
done_for-stays (effects.Sound sound) value h heap = refl
done_for-stays (effects.Kept slot size) value h heap = refl
done_for-stays (effects.Launch path) value h heap = launch-stays path h.acting heap
done_for-stays (effects.Lock path) value h heap = lock_answered-stays (lock_answer path.component path.«module» h.modules) path h.acting heap
done_for-stays (effects.Unlock path) value h heap =
    chosen (is_some (lock_on h.modules.locks path.component path.«module»)) (gives (number 1) h.acting heap) (gives_nan h.acting heap) (stays_of h.acting) refl refl
done_for-stays (effects.Table path kinds) value h heap = refl

browser_done-stays : (outcome : CallOutcome) (h : HostParts) → stays_of (reply_of_outcome outcome h).hosted.acting ≡ stays_of h.acting
browser_done-stays outcome h =
    done_for-stays outcome.called.effect outcome.called.value (record h { acting = with_browser outcome.called.state h.acting }) outcome.heap

called-stays : (h : HostParts) (base : HostRef) (name : List ℕ) (arguments : List Value) (heap : List ObjectState) → stays_of (reply_of_call h base name arguments heap).hosted.acting ≡ stays_of h.acting
unfolding reply_of_call
called-stays h host.Document name arguments heap = chosen (is_same name (codes "getElementById")) _ _ (stays_of h.acting) refl refl
called-stays h (host.Node node) name arguments heap = chosen (is_some (tag_of h.acting.tree.items node)) _ _ (stays_of h.acting) (element_call-stays h.acting node name heap) refl
called-stays h host.Browser name arguments heap = browser_done-stays (call_of name h.acting.path h.acting.now arguments heap h.acting.browser) h
called-stays h _ name arguments heap = refl

-- ---- by runs

pub ended-stays : (run : Run) (h : HostParts) → stays_of (end_of_run run h).hosted.acting ≡ stays_of h.acting
unfolding end_of_run
ended-stays (Over outcome w) h = refl
ended-stays (Reads base name go) h = ended-stays (go (member_value h.acting base name)) h
ended-stays (Writes base name value heap go) h =
    ended-stays go (record h { acting = with_member_set h.acting base name value heap }) ∙ written-stays h.acting base name value heap
ended-stays (Calls base name arguments heap go) h =
    ended-stays (go (reply_of_call h base name arguments heap).answer (reply_of_call h base name arguments heap).heap) (reply_of_call h base name arguments heap).hosted
    ∙ called-stays h base name arguments heap

-- ---- each end of a run with a host is that of the rows

-- it ended so, and the host is what was acted on, with the modules
pub record EndsAs (e : End) (outcome : Outcome) (w : World) (last : ScriptHost) : Type 0 where
  pub outcome_is : e.outcome ≡ outcome
  pub world_is : e.world ≡ w
  pub acting_is : e.hosted.acting ≡ last.stage.acting
  pub modules : StandsFor last.modules e.hosted.modules

pub ends_as : (run : Run) (h : ScriptHost) (outcome : Outcome) (w : World) (last : ScriptHost) (s : HostParts) → MayEnd HasRead HasWritten HasCalled run h outcome w last → h.stage.acting ≡ s.acting → StandsFor h.modules s.modules → EndsAs (end_of_run run s) outcome w last
unfolding MayEnd end_of_run
ends_as (Over o v) h outcome w last s m e stands = record {
  outcome_is = m.0;
  world_is = m.1;
  acting_is = sym e ∙ ap (λ (x : ScriptHost). x.stage.acting) m.2;
  modules = subst (λ (x : ScriptHost). StandsFor x.modules s.modules) m.2 stands;
}
ends_as (Reads base name go) h outcome w last s m e stands =
    subst (λ (v : Value). EndsAs (end_of_run (go v) s) outcome w last)
    (m.2.value_is ∙ ap (λ (x : Acting). member_value x base name) e)
    (ends_as (go m.0) m.1 outcome w last s m.4 (m.2.same ∙ e)
    (subst (λ (x : ModulesState). StandsFor x s.modules) (sym m.2.modules) stands))
ends_as (Writes base name value heap go) h outcome w last s m e stands =
    ends_as go m.0 outcome w last (record s { acting = with_member_set s.acting base name value heap }) m.2
    (m.1.acting_is ∙ ap (λ (x : Acting). with_member_set x base name value heap) e)
    (subst (λ (x : ModulesState). StandsFor x s.modules) (sym m.1.modules) stands)
ends_as (Calls base name arguments heap go) h outcome w last s m e stands =
    let told = reply_of_call s base name arguments heap in
    let replies : Replies m.1 m.0 m.2 told =
    subst (λ (x : Acting). Replies m.1 m.0 m.2 (reply_of_call (record { acting = x; modules = s.modules }) base name arguments heap)) e
    (m.3 s.modules stands) in
    subst (λ (v : HostAnswer). EndsAs (end_of_run (go v told.heap) told.hosted) outcome w last) replies.answer_is
    (subst (λ (left : List ObjectState). EndsAs (end_of_run (go m.0 left) told.hosted) outcome w last) replies.heap_is
    (ends_as (go m.0 m.2) m.1 outcome w last told.hosted m.7 replies.acting_is replies.modules_stand))
