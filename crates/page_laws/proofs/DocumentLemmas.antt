-- Documents stay sound: their scripts, handlers and timers, their default actions, and what keys post.
use Rattle.std.proofs.Common.{◌≡◌, ℕ, ◌<◌, Bool, true, false, List, [], ◌∷◌, length, Option, Some, None, refl, ◌∙◌, arith}
use Rattle.std.specs.Prelude.{◌==◌, if◌then◌else◌, All, map, option_and_then, filter}
use Rattle.std.specs.Option.{option_map_or}
use Rattle.std.proofs.lemmas.Bool.{lt-ltb}
use Rattle.std.proofs.lemmas.List.Elements.{All-nil, All-weaker, All-take, All-map, All-filter, All-head, All-tail}
use Rattle.dom_tree.specs.Items.{Item}
use Rattle.dom_tree.specs.Walks.{IsTree, places}
use Rattle.carousel_blocks.specs.declared.changes.Change.{Change}
use Rattle.multipart_entities.specs.declared.paths.Path.{Path}
use Rattle.style_cascade.specs.StyledTrees.{StyledTree}
use Rattle.focus_keys.specs.Defaults.{action_of}
use Rattle.focus_keys.specs.KeyTables.{key_number}
use Rattle.focus_keys.specs.declared.keys.Key.TheVariants.{Enter}
use Rattle.es_values.specs.declared.values.Value.{Value}
use Rattle.es_values.specs.Heaps as heaps
use Rattle.es_values.specs.Objects.{ObjectState}
use Rattle.es_eval.specs.Evaluation.{global_run, run_at, world}
use Rattle.es_shapes.specs.Sources.{program_of}
use Rattle.es_eval.specs.Worlds.{Run, World}
use Rattle.event_messages.specs.declared.messages.Message.{Message}
use Rattle.event_queue.specs.Events.{name_of}
use Rattle.event_queue.specs.Timers.{Timer, timer_of}
use Rattle.event_queue.specs.declared.events.Event.{Event}
use Rattle.event_queue.specs.declared.events.Event.TheVariants as events
use Rattle.document_load.specs.Drafts.{DraftState}
use Rattle.dom_objects.specs.declared.current_events.CurrentEvent.{CurrentEvent}
use Rattle.es_reader.specs.Readers.{Reader}
use Rattle.script_laws.specs.Passing.{HeapPasses, ObjectPasses}
use Rattle.script_laws.specs.Staying.{AreFit, StaysWithin}
use Rattle.document_stages.specs.Acting.{Acting, with_action, with_first_events, change_posts, with_due_events, first_focus, key_posts, message_posts}
use Rattle.document_stages.specs.Hosting.{HostParts}
use Rattle.display_list.specs.Bodies.{body_of, is_body}
use Rattle.acting_documents.specs.Documents.{Document, handler_in, passes}
use Rattle.acting_documents.specs.Handling.{body_in, change_effect, without_active, default_action, due_effect, focus_of, event_effect, event_effect_at, key_effect, kind_of, message_effect, run_handler, timer_effect, with_timer_taken}
use Rattle.acting_documents.specs.Beginnings.{begin, load_effect, run_scripts, script_places, unload_effect, without_waiting, data_event_effect, items_effect}
use Rattle.page.specs.Loading.{document_of_draft}
use Rattle.acting_documents.specs.Runs.{Effect, Scene, acting_in, and_then, effect_of_change, effect_of_end, end_of_run, host_parts_in, most_steps, no_event, no_effect, run_function, run_program, unless_launched, with_acting, with_host_parts, with_world}
use Rattle.page_laws.specs.Soundness.{AreTimers, IsGoodHandler, IsSoundDocument, is_good, is_good_event, is_good_in, is_good_place, limit_of, has_element}
use Rattle.page_laws.proofs.ActingLemmas.{IsSoundActing, TreeLaws, acted-sound, begun-sound, due-sound, element-same, event-same, good-same, place-same, AreAsFirst}
use Rattle.page_laws.proofs.EventItemLemmas.{AreGoodItems, ItemNodes, first-good, moved-good}
use Rattle.page_laws.proofs.HandlerLemmas.{read-handlers}
use Rattle.page_laws.proofs.HostedLemmas.{HasFewLocks, HostLaws, IsSoundHosted}
use Rattle.page_laws.proofs.ItemPostLemmas.{changes-sound, keys-sound, messages-sound}
use Rattle.page_laws.proofs.ReadLemmas.{has_target, place-below}
use Rattle.page_laws.proofs.RunLemmas.{EndsSound, RunsStay, own-pass, run-sound}
use Rattle.page_laws.proofs.TargetLemmas.{action-good}
use Rattle.page_laws.proofs.TimerLemmas.{dropped-sound, with_settled-sound}
use Rattle.page_laws.proofs.WalkLemmas.{IsBelow, first-below, places-below}
use Rattle.event_items.specs.Subscriptions.{ItemsState, data_event_items, fires_for_data_event, most_data_event_items}
use Rattle.event_items.specs.EventItems.{EventItem}

-- the world of a sound document
abbrev pub HasFitWorld : Document → Type 0
HasFitWorld d = AreFit (is_good_in d) 0 d.globals d.heap

world-fit : (d : Document) → IsSoundDocument d → HasFitWorld d
world-fit d s = record {
  pass = s.globals;
  live = s.live;
  fit = record { passes = s.properties; sound = s.objects };
  objects = omega arith;
}

-- a scene is sound where its document is, its timers are as they have to be, and few locks stand
pub record IsSoundScene (scene : Scene) : Type 0 where
  pub document : IsSoundDocument scene.document
  pub timers : AreTimers scene.browser.timers
  pub locks : HasFewLocks scene.modules

-- the nodes of its document
abbrev items_of : Scene → List Item
items_of scene = scene.document.tree.items

abbrev is_good_here : Scene → Value → Bool
is_good_here scene = is_good_in scene.document

-- what it keeps of its event items
items-first : (d : Document) → IsSoundDocument d → AreGoodItems d.tree.items d.items
items-first d s = record { items = s.items; subscribed = s.subscribed; fired = s.fired }

acting-first : (scene : Scene) (event : CurrentEvent) → IsSoundScene scene
    → has_target (items_of scene) event ≡ true
    → IsSoundActing (items_of scene) (acting_in event scene)
acting-first scene event s h = record {
  nodes = record { tree = s.document.tree; count = refl; tags = λ node. refl };
  focus = record { has = s.document.focus; active = s.document.active };
  event_items = items-first scene.document s.document;
  queue = record { room = s.document.room; events = s.document.events };
  timers = s.timers;
  target = h;
}

-- ---- what is left of a document

-- what passes by the nodes at first passes by those that are there now
heap-passes : (one other : Value → Bool) → ((value : Value) → other value ≡ one value)
    → (heap : List ObjectState) → HeapPasses one heap → HeapPasses other heap
heap-passes one other same heap all =
    All-weaker (ObjectPasses one) (ObjectPasses other)
    (λ object passes. All-weaker (λ property. one property.1 ≡ true)
    (λ property. other property.1 ≡ true) (λ property h. same property.1 ∙ h) object.properties
    passes)
    heap all

document-left : (scene : Scene) (a : Acting) (w : World) → IsSoundDocument scene.document
    → IsSoundActing (items_of scene) a → AreFit (is_good_here scene) 0 w.globals w.heap
    → IsSoundDocument (with_world w (with_acting a scene)).document
document-left scene a w before s fit =
    let d : Document = scene.document in
    let same = λ (value : Value). good-same d.tree.items a.tree.items s.nodes (limit_of d) value in
    let kept : AreGoodItems a.tree.items a.items =
    moved-good d.tree.items a.tree.items s.nodes.count
    (element-same d.tree.items a.tree.items s.nodes) a.items s.event_items in
    record {
      tree = s.nodes.tree;
      focus = place-same d.tree.items a.tree.items s.nodes _ ∙ s.focus.has;
      active = place-same d.tree.items a.tree.items s.nodes _ ∙ s.focus.active;
      room = s.queue.room;
      events = All-weaker (λ event. is_good_event d.tree.items event ≡ true)
          (λ event. is_good_event a.tree.items event ≡ true)
          (λ event h. event-same d.tree.items a.tree.items s.nodes event ∙ h) a.queue s.queue.events;
      items = kept.items;
      subscribed = kept.subscribed;
      fired = kept.fired;
      handlers = All-weaker (IsGoodHandler d.tree.items (length d.programs))
          (IsGoodHandler a.tree.items (length d.programs))
          (λ handler good. record {
            node = element-same d.tree.items a.tree.items s.nodes handler.node ∙ good.node;
            program = good.program;
          })
          d.handlers before.handlers;
      globals = All-weaker (λ (global : List ℕ × Value). is_good_in d global.1 ≡ true)
          (λ (global : List ℕ × Value). is_good a.tree.items (limit_of d) global.1 ≡ true)
          (λ global h. same global.1 ∙ h) w.globals fit.pass;
      properties = heap-passes (is_good_in d) (is_good a.tree.items (limit_of d)) same w.heap
          fit.fit.passes;
      live = fit.live;
      objects = fit.fit.sound;
    }

left-sound : (scene : Scene) (h : HostParts) (w : World) → IsSoundScene scene
    → IsSoundHosted (items_of scene) h → AreFit (is_good_here scene) 0 w.globals w.heap
    → IsSoundScene (with_world w (with_host_parts h scene))
left-sound scene h w before s fit = record {
  document = document-left scene h.acting w before.document s.acting fit;
  timers = s.acting.timers;
  locks = s.locks;
}

-- the same where nothing was done to the world
acted-left : (scene : Scene) (a : Acting) → IsSoundScene scene
    → IsSoundActing (items_of scene) a → IsSoundScene (with_acting a scene)
acted-left scene a s h =
    let d : Document = scene.document in
    left-sound scene (record { acting = a; modules = scene.modules })
    (world d.globals d.heap 0) s (record { acting = h; locks = s.locks }) (world-fit d s.document)

done-sound : (change : Acting → Acting) (scene : Scene) → IsSoundScene scene
    → (IsSoundActing (items_of scene) (acting_in no_event scene)
    → IsSoundActing (items_of scene) (change (acting_in no_event scene)))
    → IsSoundScene (effect_of_change change scene).scene
done-sound change scene s h =
    acted-left scene (change (acting_in no_event scene)) s
    (h (acting-first scene no_event s refl))

-- one thing, and then another
then-sound : (more : Scene → Effect)
    → ((scene : Scene) → IsSoundScene scene → IsSoundScene (more scene).scene) → (e : Effect)
    → IsSoundScene e.scene → IsSoundScene (and_then more e).scene
then-sound more keeps e s = by e.launched
  where
    by : (launched : Option Path) → IsSoundScene (unless_launched launched more e).scene
    by None = keeps e.scene s
    by (Some path) = s

-- a document before its scripts run
pub opened-sound : ItemNodes → (read : Reader) (path : Path) (draft : DraftState)
    → IsTree draft.items → IsSoundDocument (document_of_draft read path draft)
opened-sound law read path draft tree =
    let d : Document = document_of_draft read path draft in
    let kept : AreGoodItems draft.items d.items = first-good law path draft.items in
    record {
      tree = tree;
      focus = refl;
      active = refl;
      room = omega arith;
      events = All-nil (λ event. is_good_event draft.items event ≡ true);
      items = kept.items;
      subscribed = kept.subscribed;
      fired = kept.fired;
      handlers = read-handlers read draft;
      globals = All-nil (λ (global : List ℕ × Value). is_good_in d global.1 ≡ true);
      properties = All-nil (ObjectPasses (is_good_in d));
      live = All-nil (λ (global : List ℕ × Value). heaps.IsLive [] global.1);
      objects = All-nil (heaps.AreLiveAmong 0);
    }

module _ (laws : TreeLaws) (stay : RunsStay) (hosts : HostLaws) where
  -- ---- programs

  end-sound : (name : List ℕ) (event : CurrentEvent) (run : Run) (scene : Scene)
      → IsSoundScene scene → has_target (items_of scene) event ≡ true
      → StaysWithin (is_good_here scene) 0 run
      → IsSoundScene (effect_of_end name scene (end_of_run run (host_parts_in event scene))).scene
  end-sound name event run scene s h stays =
      let limit = limit_of scene.document in
      let end = end_of_run run (host_parts_in event scene) in
      let ends : EndsSound (items_of scene) limit 0 end =
      run-sound laws hosts (items_of scene) limit 0 run (host_parts_in event scene) stays
      (record { acting = acting-first scene event s h; locks = s.locks }) in
      left-sound scene end.hosted end.world s ends.hosted ends.fit

  program-sound : (name : List ℕ) (event : CurrentEvent) (place : ℕ) (scene : Scene)
      → IsSoundScene scene → has_target (items_of scene) event ≡ true
      → IsSoundScene (run_program name event place scene).scene
  unfolding run_program
  program-sound name event place scene s h =
      let d : Document = scene.document in
      end-sound name event
      (run_at (map program_of d.programs) place d.globals d.heap most_steps) scene s h
      (stay.places (is_good_in d) 0 (map program_of d.programs) place d.globals d.heap most_steps
      (own-pass d.tree.items (limit_of d)) (world-fit d s.document))

  function-sound : (name function : List ℕ) (scene : Scene) → IsSoundScene scene
      → IsSoundScene (run_function name function scene).scene
  unfolding run_function
  function-sound name function scene s =
      let d : Document = scene.document in
      end-sound name no_event
      (global_run (map program_of d.programs) function d.globals d.heap most_steps) scene s refl
      (stay.globals (is_good_in d) 0 (map program_of d.programs) function d.globals d.heap
      most_steps (own-pass d.tree.items (limit_of d)) (world-fit d s.document))

  -- ---- events

  node-target : (items : List Item) (event : Event) (node : ℕ) → node < length items
      → has_target items (record { event = Some event; target = node }) ≡ true
  node-target items event node h = lt-ltb node (length items) h

  handler-sound : (event : Event) (node : ℕ) (scene : Scene) → IsSoundScene scene
      → node < length (items_of scene) → IsSoundScene (run_handler event node scene).scene
  handler-sound event node scene s h =
      by (option_and_then (handler_in scene.document.handlers node) (kind_of event))
    where
      by : (place : Option ℕ) → IsSoundScene (option_map_or
          (λ place. run_program (name_of event) (record { event = Some event; target = node })
          place scene) place (no_effect scene)).scene
      by None = s
      by (Some place) =
          program-sound (name_of event) _ place scene s
          (node-target (items_of scene) event node h)

  handled_at-sound : (node : Option ℕ) (event : Event) (scene : Scene) → IsSoundScene scene
      → IsBelow (length (items_of scene)) node
      → IsSoundScene (event_effect_at node event scene).scene
  handled_at-sound None event scene s h = s
  handled_at-sound (Some node) event scene s h = handler-sound event node scene s h

  body-below : (items : List Item) → IsBelow (length items) (body_of items)
  unfolding body_of
  body-below items =
      first-below (length items) (places is_body items) (places-below is_body items)

  focus-below : (scene : Scene) → IsSoundScene scene
      → IsBelow (length (items_of scene)) (focus_of scene)
  focus-below scene s = place-below (items_of scene) (focus_of scene) s.document.focus

  deactivated-sound : (scene : Scene) → IsSoundScene scene
      → IsSoundScene (record scene { document = without_active scene.document })
  deactivated-sound scene s = record {
    document = record {
      tree = s.document.tree;
      focus = s.document.focus;
      active = refl;
      room = s.document.room;
      events = s.document.events;
      items = s.document.items;
      subscribed = s.document.subscribed;
      fired = s.document.fired;
      handlers = s.document.handlers;
      globals = s.document.globals;
      properties = s.document.properties;
      live = s.document.live;
      objects = s.document.objects;
    };
    timers = s.timers;
    locks = s.locks;
  }

  default-sound : (key : ℕ) (scene : Scene) → IsSoundScene scene
      → IsSoundScene (default_action key scene).scene
  default-sound key scene s =
      let tree : StyledTree = scene.document.tree in
      done-sound (with_action (action_of tree key)) scene s
      (λ h. acted-sound laws tree.items (action_of tree key)
      (acting_in no_event scene) (action-good tree key s.document.focus) h)

  taken-sound : (number : ℕ) (scene : Scene) → IsSoundScene scene
      → IsSoundScene (with_timer_taken number scene)
  taken-sound number scene s = record {
    document = s.document;
    timers = with_settled-sound number scene.browser.timers s.timers;
    locks = s.locks;
  }

  timer-sound : (number : ℕ) (scene : Scene) → IsSoundScene scene
      → IsSoundScene (timer_effect number scene).scene
  timer-sound number scene s = by (timer_of number scene.browser.timers)
    where
      by : (timer : Option Timer) → IsSoundScene (option_map_or
          (λ timer. run_function (name_of (events.Timer number)) timer.function
          (with_timer_taken number scene)) timer (no_effect scene)).scene
      by None = s
      by (Some timer) =
          function-sound (name_of (events.Timer number)) timer.function
          (with_timer_taken number scene) (taken-sound number scene s)

  -- the node that an event names
  named-node : (scene : Scene) (node : ℕ) → is_good_place (items_of scene) (Some node) ≡ true
      → node < length (items_of scene)
  named-node scene node h = place-below (items_of scene) (Some node) h

  pub handled-sound : (event : Event) (scene : Scene) → IsSoundScene scene
      → is_good_event (items_of scene) event ≡ true → IsSoundScene (event_effect event scene).scene
  unfolding event_effect
  handled-sound events.Load scene s h =
      handled_at-sound (body_in scene) events.Load scene s (body-below (items_of scene))
  handled-sound events.Unload scene s h =
      handled_at-sound (body_in scene) events.Unload scene s (body-below (items_of scene))
  handled-sound (events.Focus node) scene s h =
      handler-sound (events.Focus node) node scene s (named-node scene node h)
  handled-sound (events.Blur node) scene s h =
      handler-sound (events.Blur node) node scene s (named-node scene node h)
  handled-sound (events.Click node) scene s h =
      handler-sound (events.Click node) node scene s (named-node scene node h)
  handled-sound (events.KeyDown key) scene s h =
      handled_at-sound (focus_of scene) (events.KeyDown key) scene s (focus-below scene s)
  handled-sound (events.KeyUp key) scene s h = by (key == key_number Enter)
    where
      by : (enter : Bool) → IsSoundScene (event_effect_at (focus_of scene) (events.KeyUp key)
          (if enter then record scene { document = without_active scene.document } else scene)).scene
      by true =
          handled_at-sound (focus_of scene) (events.KeyUp key) _ (deactivated-sound scene s)
          (focus-below scene s)
      by false = handled_at-sound (focus_of scene) (events.KeyUp key) scene s (focus-below scene s)
  handled-sound (events.Default key) scene s h = default-sound key scene s
  handled-sound (events.Timer number) scene s h = timer-sound number scene s
  handled-sound (events.Fired item component message) scene s h =
      handler-sound (events.Fired item component message) item scene s (named-node scene item h)
  handled-sound (events.Updated item status) scene s h =
      handler-sound (events.Updated item status) item scene s (named-node scene item h)
  handled-sound (events.Locked item status) scene s h =
      handler-sound (events.Locked item status) item scene s (named-node scene item h)
  handled-sound (events.Button item) scene s h =
      handler-sound (events.Button item) item scene s (named-node scene item h)
  handled-sound (events.DataEvent item) scene s h =
      handler-sound (events.DataEvent item) item scene s (named-node scene item h)

  -- ---- messages, changes of modules, keys and moments

  pub message-sound : (component : ℕ) (message : Message) (scene : Scene) → IsSoundScene scene
      → IsSoundScene (message_effect component message scene).scene
  unfolding message_effect
  message-sound component message scene s =
      done-sound (message_posts component message) scene s
      (λ h. messages-sound laws (items_of scene) component message (acting_in no_event scene) h)

  pub change-sound : (component : ℕ) (change : Change) (scene : Scene) → IsSoundScene scene
      → IsSoundScene (change_effect component change scene).scene
  unfolding change_effect
  change-sound component change scene s =
      done-sound (change_posts component change) scene s
      (λ h. changes-sound laws (items_of scene) component change (acting_in no_event scene) h)

  pub key-sound : (key : ℕ) (down : Bool) (scene : Scene) → IsSoundScene scene
      → IsSoundScene (key_effect key down scene).scene
  unfolding key_effect
  key-sound key down scene s = by (passes key scene.document)
    where
      by : (t : Bool) → IsSoundScene
          (if t then effect_of_change (key_posts down key) scene else no_effect scene).scene
      by true =
          done-sound (key_posts down key) scene s
          (λ h. keys-sound laws (items_of scene) down key (acting_in no_event scene) h)
      by false = s

  pub due_effect-sound : (moment : ℕ) (scene : Scene) → IsSoundScene scene
      → IsSoundScene (due_effect moment scene).scene
  unfolding due_effect
  due_effect-sound moment scene s =
      let later : Scene = record scene { now = moment } in
      done-sound (with_due_events moment) later
      (record { document = s.document; timers = s.timers; locks = s.locks })
      (λ h. due-sound laws (items_of scene) moment (acting_in no_event later) h)

  -- ---- loads

  scripts-sound : (places : List ℕ) (scene : Scene) → IsSoundScene scene
      → IsSoundScene (run_scripts places scene).scene
  scripts-sound [] scene s = s
  scripts-sound (place ∷ places) scene s =
      then-sound (run_scripts places) (scripts-sound places) _
      (program-sound _ no_event place scene s refl)

  begin-sound : (scene : Scene) → IsSoundScene scene → IsSoundScene (begin scene).scene
  begin-sound scene s =
      done-sound (λ a. with_first_events (first_focus a) a) scene s
      (λ h. begun-sound laws (items_of scene) (acting_in no_event scene) h)

  pub load_effect-sound : (scene : Scene) → IsSoundScene scene
      → IsSoundScene (load_effect scene).scene
  unfolding load_effect
  load_effect-sound scene s =
      then-sound begin begin-sound _ (scripts-sound (script_places scene.document) scene s)

  -- ---- ends

  waiting-sound : (scene : Scene) → IsSoundScene scene → IsSoundScene (without_waiting scene)
  waiting-sound scene s = record {
    document = record {
      tree = s.document.tree;
      focus = s.document.focus;
      active = s.document.active;
      room = omega arith;
      events = All-nil (λ event. is_good_event (items_of scene) event ≡ true);
      items = s.document.items;
      subscribed = s.document.subscribed;
      fired = s.document.fired;
      handlers = s.document.handlers;
      globals = s.document.globals;
      properties = s.document.properties;
      live = s.document.live;
      objects = s.document.objects;
    };
    timers = dropped-sound scene.browser.timers.next;
    locks = s.locks;
  }

  pub unload_effect-sound : (scene : Scene) → IsSoundScene scene
      → IsSoundScene (unload_effect scene).scene
  unfolding unload_effect event_effect
  unload_effect-sound scene s =
      handled_at-sound (body_in scene) events.Unload (without_waiting scene)
      (waiting-sound scene s) (body-below (items_of scene))

  -- ---- data events

  -- a handler leaves the nodes and their elements
  end-same : (name : List ℕ) (event : CurrentEvent) (run : Run) (scene : Scene)
      → IsSoundScene scene → has_target (items_of scene) event ≡ true
      → StaysWithin (is_good_here scene) 0 run → AreAsFirst (items_of scene)
      (items_of (effect_of_end name scene (end_of_run run (host_parts_in event scene))).scene)
  end-same name event run scene s h stays =
      let limit = limit_of scene.document in
      let ends : EndsSound (items_of scene) limit 0 (end_of_run run (host_parts_in event scene)) =
      run-sound laws hosts (items_of scene) limit 0 run (host_parts_in event scene) stays
      (record { acting = acting-first scene event s h; locks = s.locks }) in
      ends.hosted.acting.nodes

  program-same : (name : List ℕ) (event : CurrentEvent) (place : ℕ) (scene : Scene)
      → IsSoundScene scene → has_target (items_of scene) event ≡ true
      → AreAsFirst (items_of scene) (items_of (run_program name event place scene).scene)
  unfolding run_program
  program-same name event place scene s h =
      let d : Document = scene.document in
      end-same name event
      (run_at (map program_of d.programs) place d.globals d.heap most_steps) scene s h
      (stay.places (is_good_in d) 0 (map program_of d.programs) place d.globals d.heap most_steps
      (own-pass d.tree.items (limit_of d)) (world-fit d s.document))

  handler-same : (event : Event) (node : ℕ) (scene : Scene) → IsSoundScene scene
      → node < length (items_of scene)
      → AreAsFirst (items_of scene) (items_of (run_handler event node scene).scene)
  handler-same event node scene s h =
      by (option_and_then (handler_in scene.document.handlers node) (kind_of event))
    where
      by : (place : Option ℕ) → AreAsFirst (items_of scene) (items_of (option_map_or
          (λ place. run_program (name_of event) (record { event = Some event; target = node })
          place scene) place (no_effect scene)).scene)
      by None = record { tree = s.document.tree; count = refl; tags = λ node. refl }
      by (Some place) =
          program-same (name_of event) _ place scene s
          (node-target (items_of scene) event node h)

  -- these nodes are elements
  abbrev AreElements : Scene → List ℕ → Type 0
  AreElements scene nodes = All (λ node. has_element (items_of scene) node ≡ true) nodes

  data_items-good : (scene : Scene) → IsSoundScene scene
      → AreElements scene (data_event_items scene.document.items)
  data_items-good scene s =
      let items : ItemsState = scene.document.items in
      let fires = fires_for_data_event items in
      let good = λ (node : ℕ). has_element (items_of scene) node ≡ true in
      All-take good most_data_event_items (map (λ item. item.node) (filter fires items.items))
      (All-map good (λ (item : EventItem). item.node) (filter fires items.items)
      (All-filter fires (λ (item : EventItem). good item.node) items.items s.document.items))

  items-sound : (nodes : List ℕ) (scene : Scene) → IsSoundScene scene → AreElements scene nodes
      → IsSoundScene (items_effect nodes scene).scene
  unfolding event_effect
  items-sound [] scene s all = s
  items-sound (node ∷ nodes) scene s all =
      let event : Event = events.DataEvent node in
      let good = λ (node : ℕ). has_element (items_of scene) node ≡ true in
      let below = named-node scene node (All-head good node nodes all) in
      let next : Scene = (run_handler event node scene).scene in
      let same = handler-same event node scene s below in
      items-sound nodes next (handler-sound event node scene s below)
      (All-weaker good (λ (node : ℕ). has_element (items_of next) node ≡ true)
      (λ node h. element-same (items_of scene) (items_of next) same node ∙ h) nodes
      (All-tail good node nodes all))

  pub data_event-sound : (scene : Scene) → IsSoundScene scene
      → IsSoundScene (data_event_effect scene).scene
  unfolding data_event_effect event_effect
  data_event-sound scene s =
      let nodes = data_event_items scene.document.items in
      let next : Scene = (items_effect nodes (without_waiting scene)).scene in
      handled_at-sound (body_in next) events.Unload next
      (items-sound nodes (without_waiting scene) (waiting-sound scene s) (data_items-good scene s))
      (body-below (items_of next))
