-- The timers of a page are due later than its clock: turns and what comes beside them.
use Rattle.std.proofs.Common.{◌≡◌, ℕ, zero, suc, ◌≤◌, Bool, List, Option, Some, None, refl, sym, subst, true, false}
use Rattle.std.specs.Prelude.{IfSome, Result, Ok, Err, option_and_then, option_map, if◌then◌else◌}
use Rattle.std.specs.Option.{option_map_or, option_or}
use Rattle.std.proofs.lemmas.List.Elements.{All-nil}
use Rattle.bml_reader.specs.declared.faults.DocFault.{DocFault}
use Rattle.carousel_blocks.specs.declared.changes.Change.{Change}
use Rattle.multipart_entities.specs.declared.paths.Path.{Path}
use Rattle.es_reader.specs.Readers.{Reader}
use Rattle.event_messages.specs.declared.messages.Message.{Message}
use Rattle.event_queue.specs.Queues.{first_of}
use Rattle.event_queue.specs.Timers.{TimersState, no_timers}
use Rattle.event_queue.specs.declared.events.Event.{Event}
use Rattle.document_load.specs.Drafts.{DraftState}
use Rattle.acting_documents.specs.Beginnings.{load_effect}
use Rattle.acting_documents.specs.Documents.{Document}
use Rattle.acting_documents.specs.Handling.{change_effect, due_effect, event_effect, key_effect, message_effect, without_first}
use Rattle.acting_documents.specs.Runs.{Effect, Scene}
use Rattle.page.specs.Dispatches.{dispatch, dispatches, event_in, load_at, most_dispatches, next_and, next_event, next_load, turn, data_event_step, next_data_event}
use Rattle.page.specs.Inputs.{change_step, changes_step, document_step, due_next, due_step, key_step, message_step, with_clock, with_data_event}
use Rattle.page.specs.Loading.{load, loadable_reading, document_of_draft, wanted_path}
use Rattle.page.specs.State.{State, Step, opening, scene_in, stays_or_goes, step_of, still, ends_for_data_event}
use Rattle.page.specs.State.Wanted.{NoDocument, StartDocument}
use Rattle.page_laws.specs.Soundness.{IsSound}
use Rattle.page_laws.specs.Times.{AreLater, IsLater}
use Rattle.page_laws.proofs.DueLemmas.{due-later, least-near}
use Rattle.page_laws.proofs.LaterActingLemmas.{IsTimely}
use Rattle.page_laws.proofs.LaterLemmas.{LaterThan}
use Rattle.page_laws.proofs.LaterSceneLemmas.{SceneTimely, change-timely, handled-timely, key-timely, load-timely, message-timely}
use Rattle.page_laws.proofs.StepLemmas.{each_step-kept}

-- the time is this, and the timers are due later
abbrev PageTimely : ℕ → State → Type 0
PageTimely clock s = IsTimely clock s.clock s.browser

page-timely : (s : State) → AreLater s → PageTimely s.clock s
page-timely s h = record { is_now = refl; timers = h }

timely-later : (clock : ℕ) (s : State) → PageTimely clock s → AreLater s
timely-later clock s h =
    subst (λ (n : ℕ). LaterThan n s.browser.timers) (sym h.is_now) h.timers

-- a step that is there or not leaves such a page
abbrev MayTimely : ℕ → Option Step → Type 0
MayTimely clock step = IfSome step (λ t. PageTimely clock t.state)

none-later : (clock : ℕ) → LaterThan clock no_timers
none-later clock = All-nil (IsLater clock)

pub opening-later : (read : Reader) (area : List ℕ) → AreLater (opening read area)
opening-later read area = none-later 0

module _ (clock : ℕ) where
  -- what becomes of a document
  step-timely : (s : State) (e : Effect) → s.clock ≡ clock
      → LaterThan clock e.scene.browser.timers → PageTimely clock (step_of s e).state
  step-timely s e same h = by e.launched
    where
      by : (launched : Option Path) → PageTimely clock (stays_or_goes launched s e.scene).state
      by None = record { is_now = same; timers = h }
      by (Some path) = record { is_now = same; timers = none-later clock }

  -- ---- dispatches

  load-may : (s : State) (path : Path) (reading : Option (Result DraftState DocFault))
      → PageTimely clock s → MayTimely clock (option_map (load s path) reading)
  load-may s path None h = tt
  load-may s path (Some (Ok draft)) h =
      let scene : Scene = scene_in s (document_of_draft s.read path draft) in
      step-timely (record s { wanted = NoDocument }) (load_effect scene) h.is_now
      (load-timely clock scene h).timers
  load-may s path (Some (Err fault)) h = h

  next_load-may : (s : State) → PageTimely clock s
      → MayTimely clock (next_load s)
  unfolding next_load
  next_load-may s h = by (wanted_path s.wanted s.modules)
    where
      by : (path : Option Path) → MayTimely clock (option_and_then (load_at s) path)
      by None = tt
      by (Some path) = load-may s path (loadable_reading s.modules path) h

  next_event-may : (s : State) → PageTimely clock s → MayTimely clock (next_event s)
  next_event-may s h = by s.document
    where
      of : (d : Document) (event : Option Event) → MayTimely clock (option_map
          (λ event. step_of s (event_effect event (without_first (scene_in s d)))) event)
      of d None = tt
      of d (Some event) =
          let scene : Scene = without_first (scene_in s d) in
          step-timely s (event_effect event scene) h.is_now (handled-timely clock event scene h).timers

      by : (document : Option Document)
          → MayTimely clock (option_and_then (event_in s) document)
      by None = tt
      by (Some d) = of d (first_of d.queue)

  -- a data event ends the document
  next_data_event-may : (s : State) → PageTimely clock s → MayTimely clock (next_data_event s)
  next_data_event-may s h = by s.data_event
    where
      now : State
      now = record s { data_event = false }

      of : (document : Option Document) → PageTimely clock (option_map_or
          (λ d. ends_for_data_event now (scene_in now d)) document
          (still (record now { wanted = StartDocument }))).state
      of None = record { is_now = h.is_now; timers = h.timers }
      of (Some d) = record { is_now = h.is_now; timers = none-later clock }

      by : (waits : Bool) → MayTimely clock (if waits then Some (data_event_step now) else None)
      by true = of s.document
      by false = tt

  dispatch-may : (s : State) → PageTimely clock s
      → MayTimely clock (dispatch s)
  unfolding dispatch
  dispatch-may s h =
      either (next_data_event s) (option_or (next_load s) (next_event s)) (next_data_event-may s h)
      (either (next_load s) (next_event s) (next_load-may s h) (next_event-may s h))
    where
      either : (one other : Option Step) → MayTimely clock one → MayTimely clock other
          → MayTimely clock (option_or one other)
      either None other h more = more
      either (Some step) other h more = h

  -- ---- turns

  and-timely : (more : State → Step)
      → ((s : State) → PageTimely clock s → PageTimely clock (more s).state) → (s : State)
      → PageTimely clock s → (step : Option Step) → MayTimely clock step
      → PageTimely clock (next_and more s step).state
  and-timely more keeps s h None may = h
  and-timely more keeps s h (Some t) may = keeps t.state may

  dispatches-timely : (count : ℕ) (s : State) → PageTimely clock s
      → PageTimely clock (dispatches count s).state
  unfolding dispatches
  dispatches-timely zero s h = h
  dispatches-timely (suc count) s h =
      and-timely (dispatches count) (dispatches-timely count) s h (dispatch s)
      (dispatch-may s h)

  turn-timely : (s : State) → PageTimely clock s
      → PageTimely clock (turn s).state
  unfolding turn
  turn-timely s h = dispatches-timely most_dispatches s h

  -- ---- what a document does

  document_step-timely : (effect : Scene → Effect)
      → ((scene : Scene) → SceneTimely clock scene → SceneTimely clock (effect scene).scene)
      → (s : State) → PageTimely clock s → PageTimely clock (document_step effect s).state
  document_step-timely effect keeps s h = by s.document
    where
      by : (document : Option Document) → PageTimely clock (option_map_or
          (λ d. step_of s (effect (scene_in s d))) document (still s)).state
      by None = h
      by (Some d) =
          step-timely s (effect (scene_in s d)) h.is_now (keeps (scene_in s d) h).timers

  change_step-timely : (component : ℕ) (change : Change) (s : State) → PageTimely clock s
      → PageTimely clock (change_step component change s).state
  change_step-timely component change s h =
      document_step-timely (change_effect component change)
      (change-timely clock component change) (with_data_event change s) h

  message_step-timely : (component : ℕ) (message : Message) (s : State) → PageTimely clock s
      → PageTimely clock (message_step component message s).state
  message_step-timely component message s h =
      document_step-timely (message_effect component message)
      (message-timely clock component message) s h

  key_step-timely : (key : ℕ) (down : Bool) (s : State) → PageTimely clock s
      → PageTimely clock (key_step key down s).state
  key_step-timely key down s h =
      document_step-timely (key_effect key down) (key-timely clock key down) s h

-- ---- moments

-- Nothing is due before the moment: what is due then fires, and comes later.
due_step-timely : (moment : ℕ) (s : State) → IsSound s → AreLater s
    → IfSome (due_next s) (λ due. moment ≤ due) → PageTimely moment (due_step moment s).state
due_step-timely moment s sound h reached = by s.document refl
  where
    by : (document : Option Document) → s.document ≡ document
        → PageTimely moment (option_map_or
        (λ d. step_of (with_clock moment s) (due_effect moment (scene_in s d))) document
        (still (with_clock moment s))).state
    by None e = record {
      is_now = refl;
      timers = subst (λ (timers : TimersState). LaterThan moment timers)
          (sym (sound.none_without e)) (none-later moment);
    }
    by (Some d) e =
        step-timely moment (with_clock moment s) (due_effect moment (scene_in s d)) refl
        (due-later moment (scene_in s d)
        (least-near s.clock moment s.browser.timers.timers h reached) sound.timers.most)

-- ---- the clauses

pub turn-later : (s : State) → AreLater s → AreLater (turn s).state
turn-later s h =
    timely-later s.clock (turn s).state (turn-timely s.clock s (page-timely s h))

change_step-later : (component : ℕ) (change : Change) (s : State) → AreLater s
    → AreLater (change_step component change s).state
change_step-later component change s h =
    timely-later s.clock (change_step component change s).state
    (change_step-timely s.clock component change s (page-timely s h))

pub changes-later : (changes : List (ℕ × Change)) (s : State) → AreLater s
    → AreLater (changes_step changes s).state
changes-later changes s h =
    each_step-kept AreLater (λ (change : ℕ × Change). change_step change.0 change.1)
    (λ change s h. change_step-later change.0 change.1 s h) changes s h

pub message_step-later : (component : ℕ) (message : Message) (s : State) → AreLater s
    → AreLater (message_step component message s).state
message_step-later component message s h =
    timely-later s.clock (message_step component message s).state
    (message_step-timely s.clock component message s (page-timely s h))

pub key_step-later : (key : ℕ) (down : Bool) (s : State) → AreLater s
    → AreLater (key_step key down s).state
key_step-later key down s h =
    timely-later s.clock (key_step key down s).state
    (key_step-timely s.clock key down s (page-timely s h))

pub due_step-later : (moment : ℕ) (s : State) → IsSound s → AreLater s
    → IfSome (due_next s) (λ due. moment ≤ due) → AreLater (due_step moment s).state
due_step-later moment s sound h reached =
    timely-later moment (due_step moment s).state (due_step-timely moment s sound h reached)
