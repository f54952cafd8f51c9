-- Pages stay sound: loads, dispatches and turns, and what comes beside them.
use Rattle.std.proofs.Common.{◌≡◌, ◌↔◌, ℕ, zero, suc, Bool, true, false, List, [], ◌∷◌, Option, Some, None, refl, sym, ◌∙◌, ap, arith, length-drop, subst}
use Rattle.std.specs.Prelude.{ℤ, All, IfSome, Result, Ok, Err, if◌then◌else◌, option_and_then, option_map, ◌||◌}
use Rattle.std.specs.Option.{option_map_or, option_or}
use Rattle.std.proofs.lemmas.List.Elements.{All-drop, All-head}
use Rattle.dom_tree.specs.Items.{Item}
use Rattle.dom_tree.specs.Walks.{IsTree}
use Rattle.bml_reader.specs.Readings.{IsReading, reading_of}
use Rattle.bml_reader.specs.declared.faults.DocFault.{DocFault}
use Rattle.carousel_blocks.specs.declared.changes.Change.{Change}
use Rattle.multipart_entities.specs.declared.paths.Path.{Path}
use Rattle.module_locks.specs.Locks.{Modules, look_up}
use Rattle.module_store.specs.Resources.{Resource}
use Rattle.module_store.specs.Resources.Resource.{Found, Waiting, Missing}
use Rattle.event_messages.specs.declared.messages.Message.{Message}
use Rattle.event_queue.specs.Queues.{first_of}
use Rattle.event_queue.specs.Timers.{no_timers}
use Rattle.event_queue.specs.declared.events.Event.{Event}
use Rattle.es_reader.specs.Readers.{Reader}
use Rattle.document_load.specs.Drafts.{DraftState}
use Rattle.document_load.specs.Needs.{needs_of}
use Rattle.page.specs.Dispatches.{dispatch, dispatches, event_in, load_at, most_dispatches, next_and, next_event, next_load, turn, data_event_step, next_data_event}
use Rattle.acting_documents.specs.Beginnings.{load_effect}
use Rattle.acting_documents.specs.Documents.{Document}
use Rattle.acting_documents.specs.Handling.{change_effect, due_effect, event_effect, key_effect, message_effect, without_first}
use Rattle.acting_documents.specs.Runs.{Effect, Scene}
use Rattle.page.specs.Inputs.{change_step, changes_step, document_step, due_step, key_step, message_step, with_clock, with_date, with_random, with_data_event}
use Rattle.page.specs.Loading.{are_settled, given_draft, load, loadable_reading, reading_if_settled, document_of_draft, reading_in, wanted_path}
use Rattle.page.specs.State.{State, Step, opening, scene_in, stays_or_goes, step_of, still, with_modules, ends_for_data_event}
use Rattle.page.specs.State.Wanted.{NoDocument, StartDocument}
use Rattle.page_laws.specs.Soundness.{IsSound, IsSoundDocument, is_good_event}
use Rattle.page_laws.proofs.ActingLemmas.{TreeLaws}
use Rattle.page_laws.proofs.DocumentLemmas.{IsSoundScene, change-sound, due_effect-sound, handled-sound, key-sound, load_effect-sound, message-sound, opened-sound, unload_effect-sound, data_event-sound}
use Rattle.page_laws.proofs.EventItemLemmas.{ItemNodes}
use Rattle.page_laws.proofs.HostedLemmas.{HasFewLocks, HostLaws}
use Rattle.page_laws.proofs.ItemLemmas.{OneIsTree, read-tree}
use Rattle.page_laws.proofs.RunLemmas.{RunsStay}
use Rattle.page_laws.proofs.StepLemmas.{each_step-kept}
use Rattle.page_laws.proofs.TimerLemmas.{none-sound}
use Rattle.carousel_blocks.specs.DataEvents.{is_data_event}

-- what is known of what pages stand on
pub record Laws : Type 0 where
  pub trees : TreeLaws
  pub one : OneIsTree
  pub readings : (bytes : List ℕ) (reading : Result (List Item) DocFault)
      → (reading_of bytes ≡ reading) ↔ IsReading bytes reading
  pub items : ItemNodes
  pub programs : RunsStay
  pub hosts : HostLaws

-- a step that is there or not leaves a sound state
abbrev pub MaySound : Option Step → Type 0
MaySound step = IfSome step (λ t. IsSound t.state)

-- what is there to be loaded has a tree
abbrev HasTree : Option (Result DraftState DocFault) → Type 0
HasTree None = Unit {0}
HasTree (Some (Ok draft)) = IsTree draft.items
HasTree (Some (Err fault)) = Unit {0}

-- ---- what changes neither the document nor its timers

pub opening-sound : (read : Reader) (area : List ℕ) → IsSound (opening read area)
opening-sound read area = record {
  document = tt;
  timers = none-sound;
  none_without = λ same. refl;
  wanted = tt;
  locks = omega arith;
}

pub with_clock-sound : (moment : ℕ) (s : State) → IsSound s → IsSound (with_clock moment s)
with_clock-sound moment s h = record {
  document = h.document;
  timers = h.timers;
  none_without = h.none_without;
  wanted = h.wanted;
  locks = h.locks;
}

pub with_modules-sound : (modules : Modules) (s : State) → IsSound s → HasFewLocks modules
    → IsSound (with_modules modules s)
with_modules-sound modules s h few = record {
  document = h.document;
  timers = h.timers;
  none_without = h.none_without;
  wanted = h.wanted;
  locks = few;
}

pub with_date-sound : (day : ℤ) (second : ℕ) (s : State) → IsSound s
    → IsSound (with_date day second s)
with_date-sound day second s h = record {
  document = h.document;
  timers = h.timers;
  none_without = h.none_without;
  wanted = h.wanted;
  locks = h.locks;
}

pub with_random-sound : (word : ℕ) (s : State) → IsSound s → IsSound (with_random word s)
with_random-sound word s h = record {
  document = h.document;
  timers = h.timers;
  none_without = h.none_without;
  wanted = h.wanted;
  locks = h.locks;
}

-- a data event waits, or none does
with_event-sound : (waits : Bool) (s : State) → IsSound s → IsSound (record s { data_event = waits })
with_event-sound waits s h = record {
  document = h.document;
  timers = h.timers;
  none_without = h.none_without;
  wanted = h.wanted;
  locks = h.locks;
}

module _ (laws : Laws) where
  -- ---- loads

  settled-tree : (modules : Modules) (path : Path) (reading : Result (List Item) DocFault)
      → ((items : List Item) → reading ≡ Ok items → IsTree items)
      → HasTree (reading_if_settled modules path reading)
  settled-tree modules path (Err fault) h = tt
  settled-tree modules path (Ok items) h = by (are_settled modules (needs_of path items))
    where
      by : (t : Bool)
          → HasTree (if t then Some (Ok (given_draft modules path items)) else None)
      by true = h items refl
      by false = tt

  reading-tree : (modules : Modules) (path : Path) (resource : Resource)
      → HasTree (reading_in modules path resource)
  reading-tree modules path (Found bytes) =
      settled-tree modules path (reading_of bytes)
      (λ items e. read-tree laws.one bytes items ((laws.readings bytes (Ok items)).0 e))
  reading-tree modules path Waiting = tt
  reading-tree modules path Missing = tt

  -- what becomes of a document
  step-sound : (s : State) (e : Effect) → s.wanted ≡ NoDocument → IsSoundScene e.scene
      → IsSound (step_of s e).state
  step-sound s e none h = by e.launched
    where
      by : (launched : Option Path) → IsSound (stays_or_goes launched s e.scene).state
      by None = record {
        document = h.document;
        timers = h.timers;
        none_without = λ same. absurd (cc same);
        wanted = none;
        locks = h.locks;
      }
      by (Some path) = record {
        document = tt;
        timers = none-sound;
        none_without = λ same. refl;
        wanted = tt;
        locks = (unload_effect-sound laws.trees laws.programs laws.hosts e.scene h).locks;
      }

  -- where a document is wanted there is none, and no timer
  no-timers : (path : Path) (s : State) → IsSound s
      → wanted_path s.wanted s.modules ≡ Some path → s.browser.timers ≡ no_timers
  no-timers path s h e = by s.document refl h.wanted
    where
      by : (document : Option Document) → s.document ≡ document
          → IfSome document (λ d. s.wanted ≡ NoDocument) → s.browser.timers ≡ no_timers
      by None same wanted = h.none_without same
      by (Some d) same wanted = absurd (cc (sym e ∙ ap (λ w. wanted_path w s.modules) wanted))

  load-sound : (s : State) (path : Path) (reading : Option (Result DraftState DocFault))
      → HasTree reading → IsSound s → s.browser.timers ≡ no_timers
      → MaySound (option_map (load s path) reading)
  load-sound s path None h sound none = tt
  load-sound s path (Some (Ok draft)) h sound none =
      let d : Document = document_of_draft s.read path draft in
      step-sound (record s { wanted = NoDocument }) (load_effect (scene_in s d)) refl
      (load_effect-sound laws.trees laws.programs laws.hosts (scene_in s d)
      (record {
        document = opened-sound laws.items s.read path draft h;
        timers = sound.timers;
        locks = sound.locks;
      }))
  load-sound s path (Some (Err fault)) h sound none = record {
    document = tt;
    timers = sound.timers;
    none_without = λ same. none;
    wanted = tt;
    locks = sound.locks;
  }

  next_load-sound : (s : State) → IsSound s → MaySound (next_load s)
  unfolding next_load
  next_load-sound s h = by (wanted_path s.wanted s.modules) refl
    where
      by : (path : Option Path) → wanted_path s.wanted s.modules ≡ path
          → MaySound (option_and_then (load_at s) path)
      by None e = tt
      by (Some path) e =
          load-sound s path (loadable_reading s.modules path)
          (reading-tree s.modules path (look_up s.modules path)) h (no-timers path s h e)

  -- ---- events

  first-good : (P : Event → Type 0) (queue : List Event) → All P queue
      → IfSome (first_of queue) P
  first-good P [] all = tt
  first-good P (event ∷ queue) all = All-head P event queue all

  without_first-sound : (scene : Scene) → IsSoundScene scene
      → IsSoundScene (without_first scene)
  without_first-sound scene s =
      let d : Document = scene.document in
      record {
        document = record {
          tree = s.document.tree;
          focus = s.document.focus;
          active = s.document.active;
          room = omega (arith, length-drop 1 d.queue, s.document.room);
          events = All-drop (λ event. is_good_event d.tree.items event ≡ true) 1 d.queue
              s.document.events;
          items = s.document.items;
          subscribed = s.document.subscribed;
          fired = s.document.fired;
          handlers = s.document.handlers;
          globals = s.document.globals;
          properties = s.document.properties;
          live = s.document.live;
          objects = s.document.objects;
        };
        timers = s.timers;
        locks = s.locks;
      }

  -- a document that is there, with what it acts on beside itself
  scene-sound : (s : State) (d : Document) → IsSound s → IsSoundDocument d
      → IsSoundScene (scene_in s d)
  scene-sound s d h good = record { document = good; timers = h.timers; locks = h.locks }

  event-sound : (s : State) (d : Document) → IsSound s → IsSoundDocument d
      → s.wanted ≡ NoDocument → MaySound (event_in s d)
  event-sound s d h good none =
      by (first_of d.queue)
      (first-good (λ event. is_good_event d.tree.items event ≡ true) d.queue good.events)
    where
      by : (event : Option Event) → IfSome event (λ e. is_good_event d.tree.items e ≡ true)
          → MaySound (option_map (λ event. step_of s
          (event_effect event (without_first (scene_in s d)))) event)
      by None may = tt
      by (Some event) may =
          step-sound s (event_effect event (without_first (scene_in s d))) none
          (handled-sound laws.trees laws.programs laws.hosts event (without_first (scene_in s d))
          (without_first-sound (scene_in s d) (scene-sound s d h good)) may)

  next_event-sound : (s : State) → IsSound s → MaySound (next_event s)
  next_event-sound s h = by s.document h.document h.wanted
    where
      by : (document : Option Document) → IfSome document IsSoundDocument
          → IfSome document (λ d. s.wanted ≡ NoDocument)
          → MaySound (option_and_then (event_in s) document)
      by None good none = tt
      by (Some d) good none = event-sound s d h good none

  -- ---- data events

  data_event-step-sound : (s : State) → IsSound s → IsSound (data_event_step s).state
  data_event-step-sound s h = by s.document refl h.document
    where
      by : (document : Option Document) → s.document ≡ document
          → IfSome document IsSoundDocument → IsSound (option_map_or
          (λ d. ends_for_data_event s (scene_in s d)) document
          (still (record s { wanted = StartDocument }))).state
      by None same good = record {
        document = h.document;
        timers = h.timers;
        none_without = h.none_without;
        wanted = subst (λ (o : Option Document). IfSome o (λ d. StartDocument ≡ NoDocument)) (sym same) tt;
        locks = h.locks;
      }
      by (Some d) same good = record {
        document = tt;
        timers = none-sound;
        none_without = λ same. refl;
        wanted = tt;
        locks = (data_event-sound laws.trees laws.programs laws.hosts (scene_in s d) (scene-sound s d h good)).locks;
      }

  next_data_event-sound : (s : State) → IsSound s → MaySound (next_data_event s)
  next_data_event-sound s h = by s.data_event
    where
      by : (waits : Bool) → MaySound
          (if waits then Some (data_event_step (record s { data_event = false })) else None)
      by true = data_event-step-sound (record s { data_event = false }) (with_event-sound false s h)
      by false = tt

  -- ---- turns

  either-sound : (one other : Option Step) → MaySound one → MaySound other
      → MaySound (option_or one other)
  either-sound None other h more = more
  either-sound (Some step) other h more = h

  dispatch-sound : (s : State) → IsSound s → MaySound (dispatch s)
  unfolding dispatch
  dispatch-sound s h =
      either-sound (next_data_event s) (option_or (next_load s) (next_event s))
      (next_data_event-sound s h)
      (either-sound (next_load s) (next_event s) (next_load-sound s h) (next_event-sound s h))

  and-sound : (more : State → Step) → ((s : State) → IsSound s → IsSound (more s).state)
      → (s : State) → IsSound s → (step : Option Step) → MaySound step
      → IsSound (next_and more s step).state
  and-sound more keeps s h None may = h
  and-sound more keeps s h (Some t) may = keeps t.state may

  dispatches-sound : (count : ℕ) (s : State) → IsSound s
      → IsSound (dispatches count s).state
  unfolding dispatches
  dispatches-sound zero s h = h
  dispatches-sound (suc count) s h =
      and-sound (dispatches count) (dispatches-sound count) s h (dispatch s)
      (dispatch-sound s h)

  pub turn-sound : (s : State) → IsSound s → IsSound (turn s).state
  unfolding turn
  turn-sound s h = dispatches-sound most_dispatches s h

  -- ---- what comes beside turns

  document_step-sound : (effect : Scene → Effect)
      → ((scene : Scene) → IsSoundScene scene → IsSoundScene (effect scene).scene) → (s : State)
      → IsSound s → IsSound (document_step effect s).state
  document_step-sound effect keeps s h = by s.document h.document h.wanted
    where
      by : (document : Option Document) → IfSome document IsSoundDocument
          → IfSome document (λ d. s.wanted ≡ NoDocument) → IsSound (option_map_or
          (λ d. step_of s (effect (scene_in s d))) document (still s)).state
      by None good none = h
      by (Some d) good none =
          step-sound s (effect (scene_in s d)) none
          (keeps (scene_in s d) (scene-sound s d h good))

  change_step-sound : (component : ℕ) (change : Change) (s : State) → IsSound s
      → IsSound (change_step component change s).state
  change_step-sound component change s h =
      document_step-sound (change_effect component change)
      (change-sound laws.trees laws.programs laws.hosts component change) (with_data_event change s)
      (with_event-sound (s.data_event || is_data_event change) s h)

  pub changes-sound : (changes : List (ℕ × Change)) (s : State) → IsSound s
      → IsSound (changes_step changes s).state
  changes-sound changes s h =
      each_step-kept IsSound (λ (change : ℕ × Change). change_step change.0 change.1)
      (λ change s h. change_step-sound change.0 change.1 s h) changes s h

  pub message_step-sound : (component : ℕ) (message : Message) (s : State) → IsSound s
      → IsSound (message_step component message s).state
  message_step-sound component message s h =
      document_step-sound (message_effect component message)
      (message-sound laws.trees laws.programs laws.hosts component message) s h

  pub key_step-sound : (key : ℕ) (down : Bool) (s : State) → IsSound s
      → IsSound (key_step key down s).state
  key_step-sound key down s h =
      document_step-sound (key_effect key down)
      (key-sound laws.trees laws.programs laws.hosts key down) s h

  pub due_step-sound : (moment : ℕ) (s : State) → IsSound s
      → IsSound (due_step moment s).state
  due_step-sound moment s h = by s.document h.document h.wanted
    where
      by : (document : Option Document) → IfSome document IsSoundDocument
          → IfSome document (λ d. s.wanted ≡ NoDocument) → IsSound (option_map_or
          (λ d. step_of (with_clock moment s) (due_effect moment (scene_in s d))) document
          (still (with_clock moment s))).state
      by None good none = with_clock-sound moment s h
      by (Some d) good none =
          step-sound (with_clock moment s) (due_effect moment (scene_in s d)) none
          (due_effect-sound laws.trees laws.programs laws.hosts moment (scene_in s d)
          (scene-sound s d h good))
