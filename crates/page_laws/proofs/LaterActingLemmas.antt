-- What handlers act on goes on to have timers that are due later than the clock.
use Rattle.std.proofs.Common.{◌≡◌, ℕ, Bool, true, false, List, [], ◌∷◌, Option, Some, None, sym, subst}
use Rattle.std.specs.Prelude.{◌==◌, codes, if◌then◌else◌, is_some}
use Rattle.bml_bytes.specs.Words.{is_same}
use Rattle.dom_tree.specs.Items.{tag_of}
use Rattle.dom_tree.specs.NodeNumbers.{number_of}
use Rattle.carousel_blocks.specs.declared.changes.Change.{Change}
use Rattle.module_locks.specs.Locks.{lock_answer, lock_on}
use Rattle.module_locks.specs.declared.answers.LockAnswer.{LockAnswer}
use Rattle.module_locks.specs.declared.answers.LockAnswer.TheVariants as answers
use Rattle.multipart_entities.specs.declared.paths.Path.{Path}
use Rattle.style_cascade.specs.States.{is_node}
use Rattle.focus_keys.specs.Defaults.{Action}
use Rattle.focus_keys.specs.Defaults.Action.{NoAction, Moves, Activates, Accesses}
use Rattle.focus_keys.specs.KeyTables.{key_number}
use Rattle.focus_keys.specs.Targets.{can_have_focus}
use Rattle.focus_keys.specs.declared.keys.Key.TheVariants.{Data}
use Rattle.es_values.specs.declared.values.HostRef.{HostRef}
use Rattle.es_values.specs.declared.values.HostRef.TheVariants as ref
use Rattle.es_values.specs.declared.values.Value.{Value}
use Rattle.es_values.specs.Conversions.{text_of}
use Rattle.es_values.specs.Objects.{ObjectState}
use Rattle.es_eval.specs.Worlds.{Run}
use Rattle.es_eval.specs.Worlds.Run.{Over, Reads, Writes, Calls}
use Rattle.event_messages.specs.declared.messages.Message.{Message}
use Rattle.event_queue.specs.declared.events.Event.{Event}
use Rattle.event_queue.specs.declared.events.Event.TheVariants as events
use Rattle.event_items.specs.EventItems.{EventItem}
use Rattle.event_items.specs.Subscriptions.{fires_for_message}
use Rattle.browser_objects.specs.Calls.{BrowserParts, CallOutcome, call_of}
use Rattle.browser_objects.specs.declared.effects.Effect as of_browser
use Rattle.browser_objects.specs.declared.effects.Effect.TheVariants as effects
use Rattle.document_stages.specs.Acting.{Acting, CallAnswer, with_action, with_first_events, button_posts, button_post, change_posts, each_item, element_call, with_item_fired, focus_on, with_focus_asked, has_room, is_subscription, is_ending, key_posts, launch, without_focus_of, lock_posts, lock_post, message_posts, message_post, module_post, with_focus_moved, with_node_written, with_event, with_event_for, with_event_where, with_press, member_value, with_text_written, update_posts, with_browser, with_focus, with_member_set}
use Rattle.document_stages.specs.Hosting.{HostParts, Reply, browser_call, reply_of_call, reply_of_effect, answer_of_lock}
use Rattle.acting_documents.specs.Runs.{end_of_run}
use Rattle.page_laws.proofs.BrowserLemmas.{call-good}
use Rattle.page_laws.proofs.EventItemLemmas.{told_in_turn}
use Rattle.page_laws.proofs.LaterLemmas.{LaterThan, calls-later}

-- the time is that of the clock, and these timers of the browser are due later
pub record IsTimely (clock now : ℕ) (browser : BrowserParts) : Type 0 where
  pub is_now : now ≡ clock
  pub timers : LaterThan clock browser.timers

abbrev pub ActsTimely : ℕ → Acting → Type 0
ActsTimely clock a = IsTimely clock a.now a.browser

module _ (clock : ℕ) where
  either : {A : Type 0} (P : A → Type 0) (t : Bool) (one other : A) → P one → P other
      → P (if t then one else other)
  either P true one other h more = h
  either P false one other h more = more

  -- ---- event items

  abbrev KeepsTimely : (EventItem → Acting → Acting) → Type 0
  KeepsTimely step =
      (item : EventItem) (a : Acting) → ActsTimely clock a → ActsTimely clock (step item a)

  in_turn-timely : (step : EventItem → Acting → Acting) → KeepsTimely step
      → (told : List EventItem) (a : Acting) → ActsTimely clock a
      → ActsTimely clock (told_in_turn step told a)
  in_turn-timely step keeps [] a h = h
  in_turn-timely step keeps (item ∷ told) a h =
      in_turn-timely step keeps told (step item a) (keeps item a h)

  each-timely : (step : EventItem → Acting → Acting) → KeepsTimely step → (a : Acting)
      → ActsTimely clock a → ActsTimely clock (each_item step a)
  each-timely step keeps a h = in_turn-timely step keeps a.items.items a h

  where-timely : (t : Bool) (event : Event) (a : Acting) → ActsTimely clock a
      → ActsTimely clock (with_event_where t event a)
  where-timely t event a h = either (ActsTimely clock) t (with_event event a) a h h

  told-timely : (component : ℕ) (message : Message)
      → KeepsTimely (message_post component message)
  told-timely component message item a h =
      either (ActsTimely clock) (fires_for_message component message a.items item)
      (with_item_fired component message item.node a) a
      (either (ActsTimely clock) (has_room a) _ _ h h) h

  pub messages-timely : (component : ℕ) (message : Message) (a : Acting) → ActsTimely clock a
      → ActsTimely clock (message_posts component message a)
  unfolding message_posts
  messages-timely component message a h =
      each-timely (message_post component message) (told-timely component message) a h

  locks-timely : (component number : ℕ) (a : Acting) → ActsTimely clock a
      → ActsTimely clock (lock_posts component number a)
  unfolding lock_posts
  locks-timely component number a h =
      each-timely (lock_post component number)
      (λ item b h. where-timely _ (events.Locked item.node 0) b h) a h

  updates-timely : (component number : ℕ) (status : Option ℕ) (a : Acting) → ActsTimely clock a
      → ActsTimely clock (update_posts component number status a)
  updates-timely component number None a h = h
  updates-timely component number (Some status) a h =
      each-timely (module_post component number status)
      (λ item b h. where-timely _ (events.Updated item.node status) b h) a h

  pub changes-timely : (component : ℕ) (change : Change) (a : Acting) → ActsTimely clock a
      → ActsTimely clock (change_posts component change a)
  unfolding change_posts
  changes-timely component change a h =
      let updated : Acting = update_posts component change.«module» change.status a in
      let after = updates-timely component change.«module» change.status a h in
      either (ActsTimely clock) change.locked _ updated
      (locks-timely component change.«module» updated after) after

  button-timely : (a : Acting) → ActsTimely clock a → ActsTimely clock (button_posts a)
  unfolding button_posts
  button-timely a h =
      each-timely button_post (λ item b h. where-timely _ (events.Button item.node) b h) a h

  -- ---- the focus, default actions, keys and beginnings

  posted-timely : (event : ℕ → Event) (node : Option ℕ) (a : Acting) → ActsTimely clock a
      → ActsTimely clock (with_event_for event node a)
  posted-timely event None a h = h
  posted-timely event (Some node) a h = h

  moved-timely : (node : ℕ) (a : Acting) → ActsTimely clock a
      → ActsTimely clock (with_focus_moved node a)
  unfolding with_focus_moved
  moved-timely node a h =
      either (ActsTimely clock) (is_node node a.tree.focus.focus) a _ h
      (posted-timely events.Blur (number_of a.tree.focus.focus) (with_focus (focus_on node) a) h)

  left-timely : (node : ℕ) (a : Acting) → ActsTimely clock a → ActsTimely clock (without_focus_of node a)
  unfolding without_focus_of
  left-timely node a h = either (ActsTimely clock) (is_node node a.tree.focus.focus) _ a h h

  focused-timely : (node : ℕ) (a : Acting) → ActsTimely clock a
      → ActsTimely clock (with_focus_asked node a)
  focused-timely node a h =
      either (ActsTimely clock) (can_have_focus a.tree node) _ a (moved-timely node a h) h

  pub acted-timely : (action : Action) (a : Acting) → ActsTimely clock a
      → ActsTimely clock (with_action action a)
  acted-timely NoAction a h = h
  acted-timely (Moves node) a h = moved-timely node a h
  acted-timely (Activates node) a h = h
  acted-timely (Accesses node) a h = moved-timely node a h

  pub keys-timely : (down : Bool) (key : ℕ) (a : Acting) → ActsTimely clock a
      → ActsTimely clock (key_posts down key a)
  keys-timely true key a h =
      either (ActsTimely clock) (key == key_number Data) (button_posts (with_press key a))
      (with_press key a) (button-timely (with_press key a) h) h
  keys-timely false key a h = h

  pub begun-timely : (node : Option ℕ) (a : Acting) → ActsTimely clock a
      → ActsTimely clock (with_first_events node a)
  begun-timely None a h = h
  begun-timely (Some node) a h = h

  -- ---- what scripts write

  text-timely : (a : Acting) (base : HostRef) (name text : List ℕ) → ActsTimely clock a
      → ActsTimely clock (with_text_written a base name text)
  text-timely a ref.Ureg name text h = record { is_now = h.is_now; timers = h.timers }
  text-timely a ref.Greg name text h = record { is_now = h.is_now; timers = h.timers }
  text-timely a ref.Browser name text h = h
  text-timely a ref.Document name text h = h
  text-timely a ref.Event name text h = h
  text-timely a (ref.Node node) name text h = h
  text-timely a (ref.Style node state) name text h = h

  node-timely : (a : Acting) (node : ℕ) (name : List ℕ) (value : Value)
      (heap : List ObjectState) → ActsTimely clock a
      → ActsTimely clock (with_node_written a node name value heap)
  node-timely a node name value heap h =
      either (ActsTimely clock) (is_subscription a node name) _ _ h h

  written-timely : (a : Acting) (base : HostRef) (name : List ℕ) (value : Value)
      (heap : List ObjectState) → ActsTimely clock a
      → ActsTimely clock (with_member_set a base name value heap)
  written-timely a (ref.Node node) name value heap h = node-timely a node name value heap h
  written-timely a ref.Ureg name value heap h =
      text-timely a ref.Ureg name (text_of heap value) h
  written-timely a ref.Greg name value heap h =
      text-timely a ref.Greg name (text_of heap value) h
  written-timely a ref.Browser name value heap h =
      text-timely a ref.Browser name (text_of heap value) h
  written-timely a ref.Document name value heap h =
      text-timely a ref.Document name (text_of heap value) h
  written-timely a ref.Event name value heap h =
      text-timely a ref.Event name (text_of heap value) h
  written-timely a (ref.Style node state) name value heap h =
      text-timely a (ref.Style node state) name (text_of heap value) h

  -- ---- what scripts call

  abbrev AnswersTimely : CallAnswer → Type 0
  AnswersTimely r = ActsTimely clock r.acting

  element-timely : (a : Acting) (node : ℕ) (name : List ℕ) (heap : List ObjectState)
      → ActsTimely clock a → AnswersTimely (element_call a node name heap)
  element-timely a node name heap h =
      either AnswersTimely (is_same name (codes "focus")) _ _ (focused-timely node a h)
      (either AnswersTimely (is_same name (codes "blur")) _ _ (left-timely node a h) h)

  launch-timely : (path : Path) (a : Acting) (heap : List ObjectState) → ActsTimely clock a
      → AnswersTimely (launch path a heap)
  launch-timely path a heap h = either AnswersTimely (is_ending a.event.event) _ _ h h

  -- ---- calls that may lock and unlock modules

  abbrev RepliesTimely : Reply → Type 0
  RepliesTimely r = ActsTimely clock r.hosted.acting

  lock-timely : (answer : LockAnswer) (path : Path) (a : Acting) (heap : List ObjectState)
      → ActsTimely clock a → AnswersTimely (answer_of_lock answer path a heap)
  lock-timely answers.Kept path a heap h = locks-timely path.component path.«module» a h
  lock-timely answers.Had path a heap h = h
  lock-timely answers.Wanted path a heap h = h
  lock-timely answers.NoEntry path a heap h = h
  lock-timely answers.Full path a heap h = h

  done-timely : (effect : of_browser.Effect) (value : Value) (s : HostParts)
      (heap : List ObjectState) → ActsTimely clock s.acting
      → RepliesTimely (reply_of_effect effect value s heap)
  done-timely effects.Nothing value s heap h = h
  done-timely (effects.Sound sound) value s heap h = h
  done-timely (effects.Kept slot size) value s heap h = h
  done-timely (effects.Launch path) value s heap h = launch-timely path s.acting heap h
  done-timely (effects.Lock path) value s heap h =
      lock-timely (lock_answer path.component path.«module» s.modules) path s.acting heap h
  done-timely (effects.Unlock path) value s heap h =
      either AnswersTimely (is_some (lock_on s.modules.locks path.component path.«module»)) _ _ h h
  done-timely (effects.Table path kinds) value s heap h = record { is_now = h.is_now; timers = h.timers }

  browser-timely : (s : HostParts) (name : List ℕ) (arguments : List Value)
      (heap : List ObjectState) → ActsTimely clock s.acting
      → RepliesTimely (browser_call s name arguments heap)
  browser-timely s name arguments heap h =
      let a : Acting = s.acting in
      let outcome : CallOutcome = call_of name a.path a.now arguments heap a.browser in
      let all : LaterThan a.now a.browser.timers =
      subst (λ (n : ℕ). LaterThan n a.browser.timers) (sym h.is_now) h.timers in
      let good =
      call-good (LaterThan a.now) a.now a.browser (calls-later a.now a.browser.timers all) name
      a.path arguments heap in
      done-timely outcome.called.effect outcome.called.value
      (record s { acting = with_browser outcome.called.state a }) outcome.heap
      (record {
        is_now = h.is_now;
        timers = subst (λ (n : ℕ). LaterThan n outcome.called.state.timers) h.is_now good.timers;
      })

  called-timely : (s : HostParts) (base : HostRef) (name : List ℕ) (arguments : List Value)
      (heap : List ObjectState) → ActsTimely clock s.acting
      → RepliesTimely (reply_of_call s base name arguments heap)
  unfolding reply_of_call
  called-timely s ref.Document name arguments heap h =
      either AnswersTimely (is_same name (codes "getElementById")) _ _ h h
  called-timely s (ref.Node node) name arguments heap h =
      either AnswersTimely (is_some (tag_of s.acting.tree.items node)) _ _
      (element-timely s.acting node name heap h) h
  called-timely s ref.Browser name arguments heap h = browser-timely s name arguments heap h
  called-timely s _ name arguments heap h = h

  -- ---- runs

  pub run-timely : (run : Run) (s : HostParts) → ActsTimely clock s.acting
      → ActsTimely clock (end_of_run run s).hosted.acting
  unfolding end_of_run
  run-timely (Over outcome w) s h = h
  run-timely (Reads base name go) s h = run-timely (go (member_value s.acting base name)) s h
  run-timely (Writes base name value heap go) s h =
      run-timely go (record s { acting = with_member_set s.acting base name value heap })
      (written-timely s.acting base name value heap h)
  run-timely (Calls base name arguments heap go) s h =
      let c = reply_of_call s base name arguments heap in
      run-timely (go c.answer c.heap) c.hosted (called-timely s base name arguments heap h)
