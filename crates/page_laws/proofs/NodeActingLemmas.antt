-- Posts, moves of the focus, timers, default actions and calls leave the nodes of a document as they are, with what is
-- written to their styles.
use Rattle.std.proofs.Common.{◌≡◌, ℕ, zero, suc, Bool, true, false, List, [], ◌∷◌, Option, Some, None}
use Rattle.std.specs.Prelude.{◌==◌, codes, if◌then◌else◌, is_some}
use Rattle.bml_bytes.specs.Words.{is_same}
use Rattle.dom_tree.specs.Items.{tag_of}
use Rattle.dom_tree.specs.NodeNumbers.{number_of}
use Rattle.carousel_blocks.specs.declared.changes.Change.{Change}
use Rattle.module_locks.specs.Locks.{lock_answer, lock_on}
use Rattle.module_locks.specs.declared.answers.LockAnswer.{LockAnswer}
use Rattle.module_locks.specs.declared.answers.LockAnswer.TheVariants as answers
use Rattle.multipart_entities.specs.declared.paths.Path.{Path}
use Rattle.style_cascade.specs.States.{is_node}
use Rattle.focus_keys.specs.Defaults.{Action}
use Rattle.focus_keys.specs.Defaults.Action.{NoAction, Moves, Activates, Accesses}
use Rattle.focus_keys.specs.KeyTables.{key_number}
use Rattle.focus_keys.specs.Targets.{can_have_focus}
use Rattle.focus_keys.specs.declared.keys.Key.TheVariants.{Data}
use Rattle.es_values.specs.declared.values.HostRef.{HostRef}
use Rattle.es_values.specs.declared.values.HostRef.TheVariants as ref
use Rattle.es_values.specs.declared.values.Value.{Value}
use Rattle.es_values.specs.Objects.{ObjectState}
use Rattle.event_messages.specs.declared.messages.Message.{Message}
use Rattle.event_queue.specs.declared.events.Event.{Event}
use Rattle.event_queue.specs.declared.events.Event.TheVariants as events
use Rattle.event_items.specs.EventItems.{EventItem}
use Rattle.event_items.specs.Subscriptions.{fires_for_message}
use Rattle.browser_objects.specs.Calls.{CallOutcome, call_of}
use Rattle.browser_objects.specs.declared.effects.Effect as of_browser
use Rattle.browser_objects.specs.declared.effects.Effect.TheVariants as effects
use Rattle.document_stages.specs.Acting.{Acting, CallAnswer, with_action, button_posts, button_post, change_posts, each_item, element_call, with_item_fired, focus_on, with_focus_asked, has_room, is_ending, key_posts, launch, without_focus_of, lock_posts, lock_post, message_posts, message_post, module_post, with_focus_moved, with_event, with_event_for, with_event_where, with_press, update_posts, with_browser, with_focus, acting_with_timers, with_timer_fired, with_timers_fired, with_due_events}
use Rattle.document_stages.specs.Hosting.{HostParts, Reply, browser_call, reply_of_call, reply_of_effect, answer_of_lock}
use Rattle.page_laws.proofs.EventItemLemmas.{told_in_turn}
use Rattle.page_laws.specs.Nodes.{Nodes, nodes_of}
use Rattle.std.specs.Option.{option_map_or}
use Rattle.event_queue.specs.Timers.{first_due, most_timers, with_fired}

abbrev pub HasNodes : Nodes → Acting → Type 0
HasNodes nodes a = nodes_of a.tree ≡ nodes

module _ (nodes : Nodes) where
  either : {A : Type 0} (P : A → Type 0) (t : Bool) (one other : A) → P one → P other
      → P (if t then one else other)
  either P true one other h more = h
  either P false one other h more = more

  -- ---- event items

  abbrev KeepsNodes : (EventItem → Acting → Acting) → Type 0
  KeepsNodes step =
      (item : EventItem) (a : Acting) → HasNodes nodes a → HasNodes nodes (step item a)

  in_turn-stay : (step : EventItem → Acting → Acting) → KeepsNodes step
      → (told : List EventItem) (a : Acting) → HasNodes nodes a
      → HasNodes nodes (told_in_turn step told a)
  in_turn-stay step keeps [] a h = h
  in_turn-stay step keeps (item ∷ told) a h =
      in_turn-stay step keeps told (step item a) (keeps item a h)

  each-stay : (step : EventItem → Acting → Acting) → KeepsNodes step → (a : Acting)
      → HasNodes nodes a → HasNodes nodes (each_item step a)
  each-stay step keeps a h = in_turn-stay step keeps a.items.items a h

  where-stay : (t : Bool) (event : Event) (a : Acting) → HasNodes nodes a
      → HasNodes nodes (with_event_where t event a)
  where-stay t event a h = either (HasNodes nodes) t (with_event event a) a h h

  told-stay : (component : ℕ) (message : Message)
      → KeepsNodes (message_post component message)
  told-stay component message item a h =
      either (HasNodes nodes) (fires_for_message component message a.items item)
      (with_item_fired component message item.node a) a
      (either (HasNodes nodes) (has_room a) _ _ h h) h

  pub messages-stay : (component : ℕ) (message : Message) (a : Acting) → HasNodes nodes a
      → HasNodes nodes (message_posts component message a)
  unfolding message_posts
  messages-stay component message a h =
      each-stay (message_post component message) (told-stay component message) a h

  locks-stay : (component number : ℕ) (a : Acting) → HasNodes nodes a
      → HasNodes nodes (lock_posts component number a)
  unfolding lock_posts
  locks-stay component number a h =
      each-stay (lock_post component number)
      (λ item b h. where-stay _ (events.Locked item.node 0) b h) a h

  updates-stay : (component number : ℕ) (status : Option ℕ) (a : Acting) → HasNodes nodes a
      → HasNodes nodes (update_posts component number status a)
  updates-stay component number None a h = h
  updates-stay component number (Some status) a h =
      each-stay (module_post component number status)
      (λ item b h. where-stay _ (events.Updated item.node status) b h) a h

  pub changes-stay : (component : ℕ) (change : Change) (a : Acting) → HasNodes nodes a
      → HasNodes nodes (change_posts component change a)
  unfolding change_posts
  changes-stay component change a h =
      let updated : Acting = update_posts component change.«module» change.status a in
      let after = updates-stay component change.«module» change.status a h in
      either (HasNodes nodes) change.locked _ updated
      (locks-stay component change.«module» updated after) after

  button-stay : (a : Acting) → HasNodes nodes a → HasNodes nodes (button_posts a)
  unfolding button_posts
  button-stay a h =
      each-stay button_post (λ item b h. where-stay _ (events.Button item.node) b h) a h

  -- ---- the focus, default actions, keys and beginnings

  posted-stay : (event : ℕ → Event) (node : Option ℕ) (a : Acting) → HasNodes nodes a
      → HasNodes nodes (with_event_for event node a)
  posted-stay event None a h = h
  posted-stay event (Some node) a h = h

  moved-stay : (node : ℕ) (a : Acting) → HasNodes nodes a
      → HasNodes nodes (with_focus_moved node a)
  unfolding with_focus_moved
  moved-stay node a h =
      either (HasNodes nodes) (is_node node a.tree.focus.focus) a _ h
      (posted-stay events.Blur (number_of a.tree.focus.focus) (with_focus (focus_on node) a) h)

  left-stay : (node : ℕ) (a : Acting) → HasNodes nodes a → HasNodes nodes (without_focus_of node a)
  unfolding without_focus_of
  left-stay node a h = either (HasNodes nodes) (is_node node a.tree.focus.focus) _ a h h

  focused-stay : (node : ℕ) (a : Acting) → HasNodes nodes a
      → HasNodes nodes (with_focus_asked node a)
  focused-stay node a h =
      either (HasNodes nodes) (can_have_focus a.tree node) _ a (moved-stay node a h) h

  pub acted-stay : (action : Action) (a : Acting) → HasNodes nodes a
      → HasNodes nodes (with_action action a)
  acted-stay NoAction a h = h
  acted-stay (Moves node) a h = moved-stay node a h
  acted-stay (Activates node) a h = h
  acted-stay (Accesses node) a h = moved-stay node a h

  pub keys-stay : (down : Bool) (key : ℕ) (a : Acting) → HasNodes nodes a
      → HasNodes nodes (key_posts down key a)
  keys-stay true key a h =
      either (HasNodes nodes) (key == key_number Data) (button_posts (with_press key a))
      (with_press key a) (button-stay (with_press key a) h) h
  keys-stay false key a h = h

  -- ---- what scripts call

  abbrev AnswersWith : CallAnswer → Type 0
  AnswersWith r = HasNodes nodes r.acting

  element-stay : (a : Acting) (node : ℕ) (name : List ℕ) (heap : List ObjectState)
      → HasNodes nodes a → AnswersWith (element_call a node name heap)
  element-stay a node name heap h =
      either AnswersWith (is_same name (codes "focus")) _ _ (focused-stay node a h)
      (either AnswersWith (is_same name (codes "blur")) _ _ (left-stay node a h) h)

  launch-stay : (path : Path) (a : Acting) (heap : List ObjectState) → HasNodes nodes a
      → AnswersWith (launch path a heap)
  launch-stay path a heap h = either AnswersWith (is_ending a.event.event) _ _ h h

  -- ---- calls that may lock and unlock modules

  abbrev RepliesWith : Reply → Type 0
  RepliesWith r = HasNodes nodes r.hosted.acting

  lock-stay : (answer : LockAnswer) (path : Path) (a : Acting) (heap : List ObjectState)
      → HasNodes nodes a → AnswersWith (answer_of_lock answer path a heap)
  lock-stay answers.Kept path a heap h = locks-stay path.component path.«module» a h
  lock-stay answers.Had path a heap h = h
  lock-stay answers.Wanted path a heap h = h
  lock-stay answers.NoEntry path a heap h = h
  lock-stay answers.Full path a heap h = h

  done-stay : (effect : of_browser.Effect) (value : Value) (s : HostParts)
      (heap : List ObjectState) → HasNodes nodes s.acting
      → RepliesWith (reply_of_effect effect value s heap)
  done-stay effects.Nothing value s heap h = h
  done-stay (effects.Sound sound) value s heap h = h
  done-stay (effects.Kept slot size) value s heap h = h
  done-stay (effects.Launch path) value s heap h = launch-stay path s.acting heap h
  done-stay (effects.Lock path) value s heap h =
      lock-stay (lock_answer path.component path.«module» s.modules) path s.acting heap h
  done-stay (effects.Unlock path) value s heap h =
      either AnswersWith (is_some (lock_on s.modules.locks path.component path.«module»)) _ _ h h
  done-stay (effects.Table path kinds) value s heap h = h

  browser-stay : (s : HostParts) (name : List ℕ) (arguments : List Value)
      (heap : List ObjectState) → HasNodes nodes s.acting
      → RepliesWith (browser_call s name arguments heap)
  browser-stay s name arguments heap h =
      let a : Acting = s.acting in
      let outcome : CallOutcome = call_of name a.path a.now arguments heap a.browser in
      done-stay outcome.called.effect outcome.called.value
      (record s { acting = with_browser outcome.called.state a }) outcome.heap h

  pub called-stay : (s : HostParts) (base : HostRef) (name : List ℕ) (arguments : List Value)
      (heap : List ObjectState) → HasNodes nodes s.acting
      → RepliesWith (reply_of_call s base name arguments heap)
  unfolding reply_of_call
  called-stay s ref.Document name arguments heap h =
      either AnswersWith (is_same name (codes "getElementById")) _ _ h h
  called-stay s (ref.Node node) name arguments heap h =
      either AnswersWith (is_some (tag_of s.acting.tree.items node)) _ _
      (element-stay s.acting node name heap h) h
  called-stay s ref.Browser name arguments heap h = browser-stay s name arguments heap h
  called-stay s _ name arguments heap h = h

  -- ---- timers

  fired-stay : (moment number : ℕ) (a : Acting) → HasNodes nodes a
      → HasNodes nodes (with_timer_fired moment number a)
  fired-stay moment number a h =
      either (HasNodes nodes) (has_room (acting_with_timers (with_fired moment a.browser.timers) a)) _ _ h h

  timers-stay : (more moment : ℕ) (a : Acting) → HasNodes nodes a
      → HasNodes nodes (with_timers_fired more moment a)
  unfolding with_timers_fired
  timers-stay zero moment a h = h
  timers-stay (suc more) moment a h = by (first_due moment a.browser.timers) (timers-stay more moment)
    where
      by : (number : Option ℕ) → ((b : Acting) → HasNodes nodes b → HasNodes nodes (with_timers_fired more moment b))
          → HasNodes nodes (option_map_or
          (λ number. with_timers_fired more moment (with_timer_fired moment number a)) number a)
      by None again = h
      by (Some number) again = again (with_timer_fired moment number a) (fired-stay moment number a h)

  pub due-stay : (moment : ℕ) (a : Acting) → HasNodes nodes a
      → HasNodes nodes (with_due_events moment a)
  due-stay moment a h = timers-stay most_timers moment a h
