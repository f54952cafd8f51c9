-- As many events of each timer of a page are out as wait: turns and what comes beside them.
use Rattle.std.proofs.Common.{◌≡◌, ℕ, zero, suc, List, [], ◌∷◌, Option, Some, None, refl, sym, ◌∙◌, ap, subst, ◌+◌, Bool, true, false}
use Rattle.std.specs.Prelude.{IfSome, Result, Ok, Err, drop, option_and_then, option_map, if◌then◌else◌}
use Rattle.std.specs.Option.{option_map_or, option_or}
use Rattle.bml_reader.specs.declared.faults.DocFault.{DocFault}
use Rattle.carousel_blocks.specs.declared.changes.Change.{Change}
use Rattle.multipart_entities.specs.declared.paths.Path.{Path}
use Rattle.es_reader.specs.Readers.{Reader}
use Rattle.event_queue.specs.Queues.{first_of}
use Rattle.event_queue.specs.Timers.{TimersState}
use Rattle.event_queue.specs.declared.events.Event.{Event}
use Rattle.document_load.specs.Drafts.{DraftState}
use Rattle.acting_documents.specs.Beginnings.{load_effect}
use Rattle.acting_documents.specs.Documents.{Document}
use Rattle.acting_documents.specs.Handling.{change_effect, due_effect, event_effect, key_effect, message_effect, without_first}
use Rattle.acting_documents.specs.Runs.{Effect, Scene}
use Rattle.page.specs.Dispatches.{dispatch, dispatches, event_in, load_at, most_dispatches, next_and, next_event, next_load, turn, data_event_step, next_data_event}
use Rattle.page.specs.Inputs.{change_step, changes_step, document_step, due_step, with_clock, with_data_event}
use Rattle.page.specs.Loading.{load, loadable_reading, document_of_draft, wanted_path}
use Rattle.page.specs.State.{State, Step, opening, scene_in, stays_or_goes, step_of, still, ends_for_data_event}
use Rattle.page.specs.State.Wanted.{NoDocument, StartDocument}
use Rattle.psi_tables.specs.declared.services.Selection.{Selection}
use Rattle.receiver_core.specs.State as receiver
use Rattle.page_laws.specs.Counts.{AreCounted, waiting_events}
use Rattle.page_laws.proofs.CountLemmas.{IsCounted, none-counted}
use Rattle.page_laws.proofs.CountedSceneLemmas.{SceneCounted, change-counted, due-counted, handled-counted, key-counted, load-counted, message-counted}
use Rattle.page_laws.proofs.ReceiverLemmas.{PageLaws}
use Rattle.page_laws.proofs.StepLemmas.{each_step-kept}

-- It is so, and with a document none is wanted.
pub record PageCounted (s : State) : Type 0 where
  pub counted : IsCounted (waiting_events s) s.browser.timers
  pub wanted : IfSome s.document (λ d. s.wanted ≡ NoDocument)

-- a step that is there or not leaves such a page
abbrev MayCounted : Option Step → Type 0
MayCounted step = IfSome step (λ t. PageCounted t.state)

pub page-counted : (s : State) → PageCounted s → AreCounted s
page-counted s h = h.counted.out

opening-counted : (read : Reader) (area : List ℕ) → PageCounted (opening read area)
opening-counted read area = record { counted = none-counted 1; wanted = tt }

-- what is seen neither of the document nor of its timers changes
like-counted : (s after : State) → after.document ≡ s.document → after.wanted ≡ s.wanted
    → after.browser.timers ≡ s.browser.timers → PageCounted s → PageCounted after
like-counted s after document wanted timers h = record {
  counted = subst (λ (o : Option Document). IsCounted (option_map_or (λ d. d.queue) o [])
      after.browser.timers)
      (sym document)
      (subst (λ (t : TimersState). IsCounted (waiting_events s) t) (sym timers) h.counted);
  wanted = subst (λ (o : Option Document). IfSome o (λ d. after.wanted ≡ NoDocument))
      (sym document)
      (none-wanted s.document h.wanted);
}
  where
    none-wanted : (o : Option Document) → IfSome o (λ d. s.wanted ≡ NoDocument)
        → IfSome o (λ d. after.wanted ≡ NoDocument)
    none-wanted None h = tt
    none-wanted (Some d) h = wanted ∙ h

-- where a document is there, and none is wanted
scene-counted : (s : State) (d : Document) → s.document ≡ Some d → PageCounted s
    → SceneCounted (scene_in s d)
scene-counted s d e h =
    subst (λ (o : Option Document). IsCounted (option_map_or (λ d. d.queue) o [])
    s.browser.timers)
    e h.counted

none-is-wanted : (s : State) (d : Document) → s.document ≡ Some d → PageCounted s
    → s.wanted ≡ NoDocument
none-is-wanted s d e h =
    subst (λ (o : Option Document). IfSome o (λ d. s.wanted ≡ NoDocument)) e h.wanted

-- what becomes of a document
step-counted : (s : State) (e : Effect) → s.wanted ≡ NoDocument → SceneCounted e.scene
    → PageCounted (step_of s e).state
step-counted s e none h = by e.launched
  where
    by : (launched : Option Path) → PageCounted (stays_or_goes launched s e.scene).state
    by None = record { counted = h; wanted = none }
    by (Some path) = record { counted = none-counted 1; wanted = tt }

-- ---- dispatches

-- where a document is wanted there is none, and nothing waits
no-document : (s : State) (path : Path) → PageCounted s
    → wanted_path s.wanted s.modules ≡ Some path → s.document ≡ None
no-document s path h e = by s.document refl h.wanted
  where
    by : (document : Option Document) → s.document ≡ document
        → IfSome document (λ d. s.wanted ≡ NoDocument) → s.document ≡ None
    by None same wanted = same
    by (Some d) same wanted = absurd (cc (sym e ∙ ap (λ w. wanted_path w s.modules) wanted))

load-may : (s : State) (path : Path) (reading : Option (Result DraftState DocFault))
    → IsCounted [] s.browser.timers → MayCounted (option_map (load s path) reading)
load-may s path None h = tt
load-may s path (Some (Ok draft)) h =
    let scene : Scene = scene_in s (document_of_draft s.read path draft) in
    step-counted (record s { wanted = NoDocument }) (load_effect scene) refl
    (load-counted scene h)
load-may s path (Some (Err fault)) h = record { counted = h; wanted = tt }

next_load-may : (s : State) → PageCounted s → MayCounted (next_load s)
unfolding next_load
next_load-may s h = by (wanted_path s.wanted s.modules) refl
  where
    by : (path : Option Path) → wanted_path s.wanted s.modules ≡ path
        → MayCounted (option_and_then (load_at s) path)
    by None e = tt
    by (Some path) e =
        load-may s path (loadable_reading s.modules path)
        (subst (λ (o : Option Document). IsCounted (option_map_or (λ d. d.queue) o [])
        s.browser.timers)
        (no-document s path h e) h.counted)

first-counted : (event : Event) (queue : List Event) (timers : TimersState)
    → first_of queue ≡ Some event → IsCounted queue timers
    → IsCounted (event ∷ drop 1 queue) timers
first-counted event [] timers e h = absurd (cc e)
first-counted event (first ∷ queue) timers e h =
    let same : first ≡ event = cc e in
    subst (λ (one : Event). IsCounted (one ∷ queue) timers) same h

next_event-may : (s : State) → PageCounted s → MayCounted (next_event s)
next_event-may s h = by s.document refl
  where
    of : (d : Document) → s.document ≡ Some d → (event : Option Event)
        → first_of d.queue ≡ event → MayCounted (option_map
        (λ event. step_of s (event_effect event (without_first (scene_in s d)))) event)
    of d there None e = tt
    of d there (Some event) e =
        let scene : Scene = without_first (scene_in s d) in
        step-counted s (event_effect event scene) (none-is-wanted s d there h)
        (handled-counted event scene
        (first-counted event d.queue s.browser.timers e (scene-counted s d there h)))

    by : (document : Option Document) → s.document ≡ document
        → MayCounted (option_and_then (event_in s) document)
    by None there = tt
    by (Some d) there = of d there (first_of d.queue) refl

-- a data event ends the document
next_data_event-may : (s : State) → PageCounted s → MayCounted (next_data_event s)
next_data_event-may s h = by s.data_event
  where
    now : State
    now = record s { data_event = false }

    of : (document : Option Document) → s.document ≡ document → PageCounted (option_map_or
        (λ d. ends_for_data_event now (scene_in now d)) document
        (still (record now { wanted = StartDocument }))).state
    of None e = record {
      counted = h.counted;
      wanted = subst (λ (o : Option Document). IfSome o (λ d. StartDocument ≡ NoDocument)) (sym e) tt;
    }
    of (Some d) e = record { counted = none-counted 1; wanted = tt }

    by : (waits : Bool) → MayCounted (if waits then Some (data_event_step now) else None)
    by true = of s.document refl
    by false = tt

dispatch-may : (s : State) → PageCounted s → MayCounted (dispatch s)
unfolding dispatch
dispatch-may s h =
    either (next_data_event s) (option_or (next_load s) (next_event s)) (next_data_event-may s h)
    (either (next_load s) (next_event s) (next_load-may s h) (next_event-may s h))
  where
    either : (one other : Option Step) → MayCounted one → MayCounted other
        → MayCounted (option_or one other)
    either None other h more = more
    either (Some step) other h more = h

-- ---- turns

and-counted : (more : State → Step)
    → ((s : State) → PageCounted s → PageCounted (more s).state) → (s : State)
    → PageCounted s → (step : Option Step) → MayCounted step
    → PageCounted (next_and more s step).state
and-counted more keeps s h None may = h
and-counted more keeps s h (Some t) may = keeps t.state may

dispatches-counted : (count : ℕ) (s : State) → PageCounted s
    → PageCounted (dispatches count s).state
unfolding dispatches
dispatches-counted zero s h = h
dispatches-counted (suc count) s h =
    and-counted (dispatches count) (dispatches-counted count) s h (dispatch s) (dispatch-may s h)

turn-counted : (s : State) → PageCounted s → PageCounted (turn s).state
unfolding turn
turn-counted s h = dispatches-counted most_dispatches s h

-- ---- what comes beside turns

document_step-counted : (effect : Scene → Effect)
    → ((scene : Scene) → SceneCounted scene → SceneCounted (effect scene).scene) → (s : State)
    → PageCounted s → PageCounted (document_step effect s).state
document_step-counted effect keeps s h = by s.document refl
  where
    by : (document : Option Document) → s.document ≡ document → PageCounted (option_map_or
        (λ d. step_of s (effect (scene_in s d))) document (still s)).state
    by None e = h
    by (Some d) e =
        step-counted s (effect (scene_in s d)) (none-is-wanted s d e h)
        (keeps (scene_in s d) (scene-counted s d e h))

due_step-counted : (moment : ℕ) (s : State) → PageCounted s
    → PageCounted (due_step moment s).state
due_step-counted moment s h = by s.document refl
  where
    by : (document : Option Document) → s.document ≡ document → PageCounted (option_map_or
        (λ d. step_of (with_clock moment s) (due_effect moment (scene_in s d))) document
        (still (with_clock moment s))).state
    by None e = like-counted s (with_clock moment s) refl refl refl h
    by (Some d) e =
        step-counted (with_clock moment s) (due_effect moment (scene_in s d))
        (none-is-wanted s d e h) (due-counted moment (scene_in s d) (scene-counted s d e h))

changes-counted : (changes : List (ℕ × Change)) (s : State) → PageCounted s
    → PageCounted (changes_step changes s).state
changes-counted changes s h =
    each_step-kept PageCounted (λ (change : ℕ × Change). change_step change.0 change.1)
    (λ change s h. document_step-counted (change_effect change.0 change.1)
    (change-counted change.0 change.1) (with_data_event change.1 s)
    (like-counted s (with_data_event change.1 s) refl refl refl h))
    changes s h

-- ---- all of them

pub counted-steps : PageLaws PageCounted
counted-steps = record {
  turns = turn-counted;
  sections = λ component section p h. like-counted p _ refl refl refl h;
  maps = λ components p h. like-counted p _ refl refl refl h;
  changes = changes-counted;
  messages = λ component message p h.
      document_step-counted (message_effect component message)
      (message-counted component message) p h;
  keys = λ key down p h. document_step-counted (key_effect key down) (key-counted key down) p h;
  random = λ word p h. like-counted p _ refl refl refl h;
  dates = λ day second p h. like-counted p _ refl refl refl h;
  due = λ p h. due_step-counted (p.clock + 1) p h;
  clock = λ p h none. like-counted p (with_clock (p.clock + 1) p) refl refl refl h;
}

-- the page of a receiver to which nothing came yet
pub first-counted-page : (read : Reader) (selection : Selection) (area : List ℕ)
    → PageCounted (receiver.opening read selection area).page
first-counted-page read selection area =
    like-counted (opening read area) (receiver.opening read selection area).page refl refl refl
    (opening-counted read area)
