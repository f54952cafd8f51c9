-- What handlers act on goes on to have as many events of each timer out as wait.
use Rattle.std.proofs.Common.{◌≡◌, ℕ, zero, suc, Bool, true, false, List, [], ◌∷◌, ◌++◌, length, Option, Some, None, refl, sym, subst}
use Rattle.std.specs.Prelude.{◌==◌, codes, find, if◌then◌else◌, is_some, nat_lt, option_map}
use Rattle.std.specs.Option.{option_map_or}
use Rattle.bml_bytes.specs.Words.{is_same}
use Rattle.dom_tree.specs.Items.{tag_of}
use Rattle.dom_tree.specs.NodeNumbers.{number_of}
use Rattle.carousel_blocks.specs.declared.changes.Change.{Change}
use Rattle.module_locks.specs.Locks.{lock_answer, lock_on}
use Rattle.module_locks.specs.declared.answers.LockAnswer.{LockAnswer}
use Rattle.module_locks.specs.declared.answers.LockAnswer.TheVariants as answers
use Rattle.multipart_entities.specs.declared.paths.Path.{Path}
use Rattle.style_cascade.specs.States.{is_node}
use Rattle.focus_keys.specs.Defaults.{Action}
use Rattle.focus_keys.specs.Defaults.Action.{NoAction, Moves, Activates, Accesses}
use Rattle.focus_keys.specs.KeyTables.{key_number}
use Rattle.focus_keys.specs.Targets.{can_have_focus}
use Rattle.focus_keys.specs.declared.keys.Key.TheVariants.{Data}
use Rattle.es_values.specs.declared.values.HostRef.{HostRef}
use Rattle.es_values.specs.declared.values.HostRef.TheVariants as ref
use Rattle.es_values.specs.declared.values.Value.{Value}
use Rattle.es_values.specs.Conversions.{text_of}
use Rattle.es_values.specs.Objects.{ObjectState}
use Rattle.es_eval.specs.Worlds.{Run}
use Rattle.es_eval.specs.Worlds.Run.{Over, Reads, Writes, Calls}
use Rattle.event_messages.specs.declared.messages.Message.{Message}
use Rattle.event_queue.specs.Queues.{most_events}
use Rattle.event_queue.specs.Timers.{Timer, first_due, is_due, with_fired, with_settled}
use Rattle.event_queue.specs.declared.events.Event.{Event}
use Rattle.event_queue.specs.declared.events.Event.TheVariants as events
use Rattle.event_items.specs.EventItems.{EventItem}
use Rattle.event_items.specs.Subscriptions.{fires_for_message}
use Rattle.browser_objects.specs.Calls.{CallOutcome, call_of}
use Rattle.browser_objects.specs.declared.effects.Effect as of_browser
use Rattle.browser_objects.specs.declared.effects.Effect.TheVariants as effects
use Rattle.document_stages.specs.Acting.{Acting, CallAnswer, with_action, acting_with_timers, with_first_events, button_posts, button_post, change_posts, each_item, element_call, with_item_fired, focus_on, with_focus_asked, has_room, is_subscription, is_ending, key_posts, launch, without_focus_of, lock_posts, lock_post, message_posts, message_post, module_post, with_focus_moved, no_focus, node_id, with_node_written, with_event, with_event_for, with_event_where, with_press, member_value, with_text_written, with_timer_fired, with_timer_settled, with_timers_fired, update_posts, with_browser, with_focus, with_member_set}
use Rattle.document_stages.specs.Hosting.{HostParts, Reply, browser_call, reply_of_call, reply_of_effect, answer_of_lock}
use Rattle.acting_documents.specs.Runs.{end_of_run}
use Rattle.page_laws.proofs.BrowserLemmas.{call-good}
use Rattle.page_laws.proofs.CountLemmas.{IsApart, IsCounted, calls-counted, fired-counted, posted-counted}
use Rattle.page_laws.proofs.EventItemLemmas.{told_in_turn}

-- of each timer so many events are out as wait
abbrev pub ActsCounted : Acting → Type 0
ActsCounted a = IsCounted a.queue a.browser.timers

either : {A : Type 0} (P : A → Type 0) (t : Bool) (one other : A) → P one → P other
    → P (if t then one else other)
either P true one other h more = h
either P false one other h more = more

-- ---- posts

-- of an event that is none of a timer
post-counted : (event : Event) (a : Acting) → IsApart event → ActsCounted a
    → ActsCounted (with_event event a)
post-counted event a apart h = posted-counted event a.queue a.browser.timers apart h

-- ---- event items

abbrev KeepsCounted : (EventItem → Acting → Acting) → Type 0
KeepsCounted step =
    (item : EventItem) (a : Acting) → ActsCounted a → ActsCounted (step item a)

in_turn-counted : (step : EventItem → Acting → Acting) → KeepsCounted step
    → (told : List EventItem) (a : Acting) → ActsCounted a
    → ActsCounted (told_in_turn step told a)
in_turn-counted step keeps [] a h = h
in_turn-counted step keeps (item ∷ told) a h =
    in_turn-counted step keeps told (step item a) (keeps item a h)

each-counted : (step : EventItem → Acting → Acting) → KeepsCounted step → (a : Acting)
    → ActsCounted a → ActsCounted (each_item step a)
each-counted step keeps a h = in_turn-counted step keeps a.items.items a h

where-counted : (t : Bool) (event : Event) (a : Acting) → IsApart event → ActsCounted a
    → ActsCounted (with_event_where t event a)
where-counted t event a apart h =
    either ActsCounted t (with_event event a) a (post-counted event a apart h) h

told-counted : (component : ℕ) (message : Message)
    → KeepsCounted (message_post component message)
told-counted component message item a h =
    let after = post-counted (events.Fired item.node component message) a (λ n. refl) h in
    either ActsCounted (fires_for_message component message a.items item)
    (with_item_fired component message item.node a) a
    (either ActsCounted (has_room a) _ _ after after) h

pub messages-counted : (component : ℕ) (message : Message) (a : Acting) → ActsCounted a
    → ActsCounted (message_posts component message a)
unfolding message_posts
messages-counted component message a h =
    each-counted (message_post component message) (told-counted component message) a h

locks-counted : (component number : ℕ) (a : Acting) → ActsCounted a
    → ActsCounted (lock_posts component number a)
unfolding lock_posts
locks-counted component number a h =
    each-counted (lock_post component number)
    (λ item b h. where-counted _ (events.Locked item.node 0) b (λ n. refl) h) a h

updates-counted : (component number : ℕ) (status : Option ℕ) (a : Acting) → ActsCounted a
    → ActsCounted (update_posts component number status a)
updates-counted component number None a h = h
updates-counted component number (Some status) a h =
    each-counted (module_post component number status)
    (λ item b h. where-counted _ (events.Updated item.node status) b (λ n. refl) h) a h

pub changes-counted : (component : ℕ) (change : Change) (a : Acting) → ActsCounted a
    → ActsCounted (change_posts component change a)
unfolding change_posts
changes-counted component change a h =
    let updated : Acting = update_posts component change.«module» change.status a in
    let after = updates-counted component change.«module» change.status a h in
    either ActsCounted change.locked _ updated
    (locks-counted component change.«module» updated after) after

button-counted : (a : Acting) → ActsCounted a → ActsCounted (button_posts a)
unfolding button_posts
button-counted a h =
    each-counted button_post
    (λ item b h. where-counted _ (events.Button item.node) b (λ n. refl) h) a h

-- ---- the focus, default actions, keys and beginnings

blur-counted : (node : Option ℕ) (a : Acting) → ActsCounted a
    → ActsCounted (with_event_for events.Blur node a)
blur-counted None a h = h
blur-counted (Some node) a h = post-counted (events.Blur node) a (λ n. refl) h

moved-counted : (node : ℕ) (a : Acting) → ActsCounted a → ActsCounted (with_focus_moved node a)
unfolding with_focus_moved
moved-counted node a h =
    let before : Acting =
    with_event_for events.Blur (number_of a.tree.focus.focus) (with_focus (focus_on node) a) in
    either ActsCounted (is_node node a.tree.focus.focus) a (with_event (events.Focus node) before) h
    (post-counted (events.Focus node) before (λ n. refl)
    (blur-counted (number_of a.tree.focus.focus) (with_focus (focus_on node) a) h))

left-counted : (node : ℕ) (a : Acting) → ActsCounted a → ActsCounted (without_focus_of node a)
unfolding without_focus_of
left-counted node a h =
    either ActsCounted (is_node node a.tree.focus.focus)
    (with_event (events.Blur node) (with_focus no_focus a)) a
    (post-counted (events.Blur node) (with_focus no_focus a) (λ n. refl) h) h

focused-counted : (node : ℕ) (a : Acting) → ActsCounted a → ActsCounted (with_focus_asked node a)
focused-counted node a h =
    either ActsCounted (can_have_focus a.tree node) _ a (moved-counted node a h) h

pub acted-counted : (action : Action) (a : Acting) → ActsCounted a → ActsCounted (with_action action a)
acted-counted NoAction a h = h
acted-counted (Moves node) a h = moved-counted node a h
acted-counted (Activates node) a h =
    post-counted (events.Click node)
    (with_focus (record a.tree.focus { active = Some (node_id node) }) a) (λ n. refl) h
acted-counted (Accesses node) a h =
    post-counted (events.Click node) (with_focus_moved node a) (λ n. refl) (moved-counted node a h)

pub keys-counted : (down : Bool) (key : ℕ) (a : Acting) → ActsCounted a
    → ActsCounted (key_posts down key a)
keys-counted true key a h =
    let after : ActsCounted (with_press key a) =
    post-counted (events.Default key) (with_event (events.KeyDown key) a) (λ n. refl)
    (post-counted (events.KeyDown key) a (λ n. refl) h) in
    either ActsCounted (key == key_number Data) (button_posts (with_press key a)) (with_press key a)
    (button-counted (with_press key a) after) after
keys-counted false key a h = post-counted (events.KeyUp key) a (λ n. refl) h

pub begun-counted : (node : Option ℕ) (a : Acting) → ActsCounted a → ActsCounted (with_first_events node a)
begun-counted None a h = post-counted events.Load a (λ n. refl) h
begun-counted (Some node) a h =
    let first : Acting = with_focus (focus_on node) a in
    post-counted (events.Focus node) (with_event events.Load first) (λ n. refl)
    (post-counted events.Load first (λ n. refl) h)

-- ---- what scripts write

text-counted : (a : Acting) (base : HostRef) (name text : List ℕ) → ActsCounted a
    → ActsCounted (with_text_written a base name text)
text-counted a ref.Ureg name text h = h
text-counted a ref.Greg name text h = h
text-counted a ref.Browser name text h = h
text-counted a ref.Document name text h = h
text-counted a ref.Event name text h = h
text-counted a (ref.Node node) name text h = h
text-counted a (ref.Style node state) name text h = h

node-counted : (a : Acting) (node : ℕ) (name : List ℕ) (value : Value)
    (heap : List ObjectState) → ActsCounted a
    → ActsCounted (with_node_written a node name value heap)
node-counted a node name value heap h =
    either ActsCounted (is_subscription a node name) _ _ h h

written-counted : (a : Acting) (base : HostRef) (name : List ℕ) (value : Value)
    (heap : List ObjectState) → ActsCounted a
    → ActsCounted (with_member_set a base name value heap)
written-counted a (ref.Node node) name value heap h = node-counted a node name value heap h
written-counted a ref.Ureg name value heap h =
    text-counted a ref.Ureg name (text_of heap value) h
written-counted a ref.Greg name value heap h =
    text-counted a ref.Greg name (text_of heap value) h
written-counted a ref.Browser name value heap h =
    text-counted a ref.Browser name (text_of heap value) h
written-counted a ref.Document name value heap h =
    text-counted a ref.Document name (text_of heap value) h
written-counted a ref.Event name value heap h =
    text-counted a ref.Event name (text_of heap value) h
written-counted a (ref.Style node state) name value heap h =
    text-counted a (ref.Style node state) name (text_of heap value) h

-- ---- what scripts call

abbrev AnswersCounted : CallAnswer → Type 0
AnswersCounted r = ActsCounted r.acting

element-counted : (a : Acting) (node : ℕ) (name : List ℕ) (heap : List ObjectState)
    → ActsCounted a → AnswersCounted (element_call a node name heap)
element-counted a node name heap h =
    either AnswersCounted (is_same name (codes "focus")) _ _ (focused-counted node a h)
    (either AnswersCounted (is_same name (codes "blur")) _ _ (left-counted node a h) h)

launch-counted : (path : Path) (a : Acting) (heap : List ObjectState) → ActsCounted a
    → AnswersCounted (launch path a heap)
launch-counted path a heap h = either AnswersCounted (is_ending a.event.event) _ _ h h

-- ---- calls that may lock and unlock modules

abbrev RepliesCounted : Reply → Type 0
RepliesCounted r = ActsCounted r.hosted.acting

lock-counted : (answer : LockAnswer) (path : Path) (a : Acting) (heap : List ObjectState)
    → ActsCounted a → AnswersCounted (answer_of_lock answer path a heap)
lock-counted answers.Kept path a heap h = locks-counted path.component path.«module» a h
lock-counted answers.Had path a heap h = h
lock-counted answers.Wanted path a heap h = h
lock-counted answers.NoEntry path a heap h = h
lock-counted answers.Full path a heap h = h

done-counted : (effect : of_browser.Effect) (value : Value) (s : HostParts)
    (heap : List ObjectState) → ActsCounted s.acting
    → RepliesCounted (reply_of_effect effect value s heap)
done-counted effects.Nothing value s heap h = h
done-counted (effects.Sound sound) value s heap h = h
done-counted (effects.Kept slot size) value s heap h = h
done-counted (effects.Launch path) value s heap h = launch-counted path s.acting heap h
done-counted (effects.Lock path) value s heap h =
    lock-counted (lock_answer path.component path.«module» s.modules) path s.acting heap h
done-counted (effects.Unlock path) value s heap h =
    either AnswersCounted (is_some (lock_on s.modules.locks path.component path.«module»)) _ _ h h
done-counted (effects.Table path kinds) value s heap h = h

browser-counted : (s : HostParts) (name : List ℕ) (arguments : List Value)
    (heap : List ObjectState) → ActsCounted s.acting
    → RepliesCounted (browser_call s name arguments heap)
browser-counted s name arguments heap h =
    let a : Acting = s.acting in
    let outcome : CallOutcome = call_of name a.path a.now arguments heap a.browser in
    let good =
    call-good (IsCounted a.queue) a.now a.browser (calls-counted a.queue a.now a.browser.timers h)
    name a.path arguments heap in
    done-counted outcome.called.effect outcome.called.value
    (record s { acting = with_browser outcome.called.state a }) outcome.heap good.timers

called-counted : (s : HostParts) (base : HostRef) (name : List ℕ) (arguments : List Value)
    (heap : List ObjectState) → ActsCounted s.acting
    → RepliesCounted (reply_of_call s base name arguments heap)
unfolding reply_of_call
called-counted s ref.Document name arguments heap h =
    either AnswersCounted (is_same name (codes "getElementById")) _ _ h h
called-counted s (ref.Node node) name arguments heap h =
    either AnswersCounted (is_some (tag_of s.acting.tree.items node)) _ _
    (element-counted s.acting node name heap h) h
called-counted s ref.Browser name arguments heap h = browser-counted s name arguments heap h
called-counted s _ name arguments heap h = h

-- ---- runs

pub run-counted : (run : Run) (s : HostParts) → ActsCounted s.acting
    → ActsCounted (end_of_run run s).hosted.acting
unfolding end_of_run
run-counted (Over outcome w) s h = h
run-counted (Reads base name go) s h = run-counted (go (member_value s.acting base name)) s h
run-counted (Writes base name value heap go) s h =
    run-counted go (record s { acting = with_member_set s.acting base name value heap })
    (written-counted s.acting base name value heap h)
run-counted (Calls base name arguments heap go) s h =
    let c = reply_of_call s base name arguments heap in
    run-counted (go c.answer c.heap) c.hosted (called-counted s base name arguments heap h)

-- ---- timers that are due

timer-counted : (moment : ℕ) (first : Timer) (a : Acting)
    → find (is_due moment) a.browser.timers.timers ≡ Some first → ActsCounted a
    → ActsCounted (with_timer_fired moment first.number a)
timer-counted moment first a e h =
    by (nat_lt (length a.queue) most_events) refl
    (fired-counted moment first a.queue a.browser.timers e h)
  where
    next : Acting
    next = acting_with_timers (with_fired moment a.browser.timers) a

    by : (room : Bool) → nat_lt (length a.queue) most_events ≡ room
        → (nat_lt (length a.queue) most_events ≡ true
        → IsCounted (a.queue ++ events.Timer first.number ∷ [])
        (with_fired moment a.browser.timers))
        × IsCounted a.queue (with_settled first.number (with_fired moment a.browser.timers))
        → ActsCounted (if room then with_event (events.Timer first.number) next
        else with_timer_settled first.number (with_event (events.Timer first.number) next))
    by true is after =
        subst (λ (t : Bool). IsCounted
        (if t then a.queue ++ events.Timer first.number ∷ [] else a.queue)
        (with_fired moment a.browser.timers))
        (sym is) (after.0 is)
    by false is after =
        subst (λ (t : Bool). IsCounted
        (if t then a.queue ++ events.Timer first.number ∷ [] else a.queue)
        (with_settled first.number (with_fired moment a.browser.timers)))
        (sym is) after.1

pub timers-counted : (more moment : ℕ) (a : Acting) → ActsCounted a
    → ActsCounted (with_timers_fired more moment a)
unfolding with_timers_fired first_due
timers-counted zero moment a h = h
timers-counted (suc more) moment a h =
    by (timers-counted more moment) (find (is_due moment) a.browser.timers.timers) refl
  where
    by : ((a : Acting) → ActsCounted a → ActsCounted (with_timers_fired more moment a))
        → (found : Option Timer) → find (is_due moment) a.browser.timers.timers ≡ found
        → ActsCounted (option_map_or
        (λ number. with_timers_fired more moment (with_timer_fired moment number a))
        (option_map (λ timer. timer.number) found) a)
    by rest None e = h
    by rest (Some first) e =
        rest (with_timer_fired moment first.number a) (timer-counted moment first a e h)
