-- Turns leave the clock as it is, and the modules of the service. Moments bring it to themselves.
use Rattle.std.proofs.Common.{◌≡◌, ℕ, zero, suc, Option, Some, None, refl, ◌∙◌, Bool, true, false}
use Rattle.std.specs.Prelude.{IfSome, Result, Ok, Err, option_and_then, option_map, if◌then◌else◌}
use Rattle.std.specs.Option.{option_map_or, option_or}
use Rattle.bml_reader.specs.declared.faults.DocFault.{DocFault}
use Rattle.multipart_entities.specs.declared.paths.Path.{Path}
use Rattle.event_queue.specs.Queues.{first_of}
use Rattle.event_queue.specs.declared.events.Event.{Event}
use Rattle.document_load.specs.Drafts.{DraftState}
use Rattle.acting_documents.specs.Beginnings.{load_effect}
use Rattle.acting_documents.specs.Documents.{Document}
use Rattle.acting_documents.specs.Handling.{due_effect, event_effect, without_first}
use Rattle.acting_documents.specs.Runs.{Effect}
use Rattle.page.specs.Dispatches.{dispatch, dispatches, event_in, load_at, most_dispatches, next_and, next_event, next_load, turn, data_event_step, next_data_event}
use Rattle.page.specs.Inputs.{due_step, with_clock}
use Rattle.page.specs.Loading.{load, loadable_reading, document_of_draft, wanted_path}
use Rattle.page.specs.State.{State, Step, scene_in, stays_or_goes, step_of, still, ends_for_data_event}
use Rattle.page.specs.State.Wanted.{NoDocument, StartDocument}
use Rattle.page_laws.proofs.ServiceLemmas.{handled-service, load-service, unload-service, data_event-service}

-- a step that is there or not leaves the clock
abbrev MayLeave : State → Option Step → Type 0
MayLeave s step = IfSome step (λ t. t.state.clock ≡ s.clock)

step-clock : (s : State) (e : Effect) → (step_of s e).state.clock ≡ s.clock
step-clock s e = by e.launched
  where
    by : (launched : Option Path) → (stays_or_goes launched s e.scene).state.clock ≡ s.clock
    by None = refl
    by (Some path) = refl

-- ---- dispatches

load-clock : (s : State) (path : Path) (reading : Option (Result DraftState DocFault))
    → MayLeave s (option_map (load s path) reading)
load-clock s path None = tt
load-clock s path (Some (Ok draft)) =
    step-clock (record s { wanted = NoDocument })
    (load_effect (scene_in s (document_of_draft s.read path draft)))
load-clock s path (Some (Err fault)) = refl

next_load-clock : (s : State) → MayLeave s (next_load s)
unfolding next_load
next_load-clock s = by (wanted_path s.wanted s.modules)
  where
    by : (path : Option Path) → MayLeave s (option_and_then (load_at s) path)
    by None = tt
    by (Some path) = load-clock s path (loadable_reading s.modules path)

next_event-clock : (s : State) → MayLeave s (next_event s)
next_event-clock s = by s.document
  where
    of : (d : Document) (event : Option Event) → MayLeave s (option_map
        (λ event. step_of s (event_effect event (without_first (scene_in s d)))) event)
    of d None = tt
    of d (Some event) = step-clock s (event_effect event (without_first (scene_in s d)))

    by : (document : Option Document) → MayLeave s (option_and_then (event_in s) document)
    by None = tt
    by (Some d) = of d (first_of d.queue)

next_data_event-clock : (s : State) → MayLeave s (next_data_event s)
next_data_event-clock s = by s.data_event
  where
    now : State
    now = record s { data_event = false }

    of : (document : Option Document) → (option_map_or
        (λ d. ends_for_data_event now (scene_in now d)) document
        (still (record now { wanted = StartDocument }))).state.clock ≡ s.clock
    of None = refl
    of (Some d) = refl

    by : (waits : Bool) → MayLeave s (if waits then Some (data_event_step now) else None)
    by true = of s.document
    by false = tt

dispatch-clock : (s : State) → MayLeave s (dispatch s)
unfolding dispatch
dispatch-clock s =
    either (next_data_event s) (option_or (next_load s) (next_event s)) (next_data_event-clock s)
    (either (next_load s) (next_event s) (next_load-clock s) (next_event-clock s))
  where
    either : (one other : Option Step) → MayLeave s one → MayLeave s other
        → MayLeave s (option_or one other)
    either None other h more = more
    either (Some step) other h more = h

-- ---- turns

and-clock : (more : State → Step) → ((s : State) → (more s).state.clock ≡ s.clock) → (s : State)
    (step : Option Step) → MayLeave s step → (next_and more s step).state.clock ≡ s.clock
and-clock more keeps s None may = refl
and-clock more keeps s (Some t) may = keeps t.state ∙ may

dispatches-clock : (count : ℕ) (s : State)
    → (dispatches count s).state.clock ≡ s.clock
unfolding dispatches
dispatches-clock zero s = refl
dispatches-clock (suc count) s =
    and-clock (dispatches count) (dispatches-clock count) s (dispatch s)
    (dispatch-clock s)

pub turn-clock : (s : State) → (turn s).state.clock ≡ s.clock
unfolding turn
turn-clock s = dispatches-clock most_dispatches s

-- ---- moments

pub due_step-clock : (moment : ℕ) (s : State) → (due_step moment s).state.clock ≡ moment
due_step-clock moment s = by s.document
  where
    by : (document : Option Document) → (option_map_or
        (λ d. step_of (with_clock moment s) (due_effect moment (scene_in s d))) document
        (still (with_clock moment s))).state.clock ≡ moment
    by None = refl
    by (Some d) = step-clock (with_clock moment s) (due_effect moment (scene_in s d))

-- ---- the modules of the service

-- a step that is there or not leaves them
abbrev MayServe : State → Option Step → Type 0
MayServe s step = IfSome step (λ t. t.state.modules.stored ≡ s.modules.stored)

step-service : (s : State) (e : Effect) → e.scene.modules.stored ≡ s.modules.stored
    → (step_of s e).state.modules.stored ≡ s.modules.stored
step-service s e h = by e.launched
  where
    by : (launched : Option Path)
        → (stays_or_goes launched s e.scene).state.modules.stored ≡ s.modules.stored
    by None = h
    by (Some path) = unload-service e.scene ∙ h

load_at-service : (s : State) (path : Path) (reading : Option (Result DraftState DocFault))
    → MayServe s (option_map (load s path) reading)
load_at-service s path None = tt
load_at-service s path (Some (Ok draft)) =
    let scene = scene_in s (document_of_draft s.read path draft) in
    step-service (record s { wanted = NoDocument }) (load_effect scene) (load-service scene)
load_at-service s path (Some (Err fault)) = refl

next_load-service : (s : State) → MayServe s (next_load s)
unfolding next_load
next_load-service s = by (wanted_path s.wanted s.modules)
  where
    by : (path : Option Path) → MayServe s (option_and_then (load_at s) path)
    by None = tt
    by (Some path) = load_at-service s path (loadable_reading s.modules path)

next_event-service : (s : State) → MayServe s (next_event s)
next_event-service s = by s.document
  where
    of : (d : Document) (event : Option Event) → MayServe s (option_map
        (λ event. step_of s (event_effect event (without_first (scene_in s d)))) event)
    of d None = tt
    of d (Some event) =
        let scene = without_first (scene_in s d) in
        step-service s (event_effect event scene) (handled-service event scene)

    by : (document : Option Document) → MayServe s (option_and_then (event_in s) document)
    by None = tt
    by (Some d) = of d (first_of d.queue)

next_data_event-service : (s : State) → MayServe s (next_data_event s)
next_data_event-service s = by s.data_event
  where
    now : State
    now = record s { data_event = false }

    of : (document : Option Document) → (option_map_or
        (λ d. ends_for_data_event now (scene_in now d)) document
        (still (record now { wanted = StartDocument }))).state.modules.stored ≡ s.modules.stored
    of None = refl
    of (Some d) = data_event-service (scene_in now d)

    by : (waits : Bool) → MayServe s (if waits then Some (data_event_step now) else None)
    by true = of s.document
    by false = tt

dispatch-service : (s : State) → MayServe s (dispatch s)
unfolding dispatch
dispatch-service s =
    either (next_data_event s) (option_or (next_load s) (next_event s)) (next_data_event-service s)
    (either (next_load s) (next_event s) (next_load-service s) (next_event-service s))
  where
    either : (one other : Option Step) → MayServe s one → MayServe s other
        → MayServe s (option_or one other)
    either None other h more = more
    either (Some step) other h more = h

and-service : (more : State → Step)
    → ((s : State) → (more s).state.modules.stored ≡ s.modules.stored) → (s : State)
    (step : Option Step) → MayServe s step
    → (next_and more s step).state.modules.stored ≡ s.modules.stored
and-service more keeps s None may = refl
and-service more keeps s (Some t) may = keeps t.state ∙ may

dispatches-service : (count : ℕ) (s : State)
    → (dispatches count s).state.modules.stored ≡ s.modules.stored
unfolding dispatches
dispatches-service zero s = refl
dispatches-service (suc count) s =
    and-service (dispatches count) (dispatches-service count) s (dispatch s) (dispatch-service s)

pub turn-service : (s : State) → (turn s).state.modules.stored ≡ s.modules.stored
unfolding turn
turn-service s = dispatches-service most_dispatches s
