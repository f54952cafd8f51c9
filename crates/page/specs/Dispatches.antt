-- Dispatches and turns: what a page does with the documents and the events that wait. (This project's own,
-- after ARIB STD-B24, volume 2.)
use Rattle.std.specs.Prelude.{ℕ, zero, suc, false, if◌then◌else◌, [], Option, Some, None, option_map, option_and_then}
use Rattle.std.specs.Option.{option_map_or, option_or}
use Rattle.multipart_entities.specs.declared.paths.Path.{Path}
use Rattle.event_queue.specs.Queues.{first_of}
use Rattle.acting_documents.specs.Documents.{Document}
use Rattle.acting_documents.specs.Handling.{event_effect, without_first}
use Rattle.page.specs.Loading.{load, loadable_reading, wanted_path}
use Rattle.page.specs.State.{State, Step, ends_for_data_event, scene_in, step_behind, step_of, still}
use Rattle.page.specs.State.Wanted.{StartDocument}

-- the load of the wanted document, where it can be loaded
abbrev pub load_at : State → Path → Option Step
load_at s path = option_map (load s path) (loadable_reading s.modules path)

unfoldable pub next_load : State → Option Step
next_load s = option_and_then (load_at s) (wanted_path s.wanted s.modules)

abbrev pub event_in : State → Document → Option Step
event_in s d =
    option_map (λ event. step_of s (event_effect event (without_first (scene_in s d))))
    (first_of d.queue)

abbrev pub next_event : State → Option Step
next_event s = option_and_then (event_in s) s.document

-- A data event ends the document that is there, and the start document is wanted. Without a document it is wanted too,
-- whatever was wanted before.
abbrev pub data_event_step : State → Step
data_event_step s =
    option_map_or (λ d. ends_for_data_event s (scene_in s d)) s.document
    (still (record s { wanted = StartDocument }))

-- that of the data event that waits, which waits no longer
abbrev pub next_data_event : State → Option Step
next_data_event s =
    if s.data_event then Some (data_event_step (record s { data_event = false })) else None

-- A dispatch first looks whether a data event waits, and handles it; else whether the wanted document can be loaded, and
-- loads it; else it takes the first event of the queue, and handles it. There is none where there is none of the three.
unfoldable pub dispatch : State → Option Step
dispatch s = option_or (next_data_event s) (option_or (next_load s) (next_event s))

-- ---- turns

-- the next dispatch, where there is one, and what comes behind it
abbrev pub next_and : (State → Step) → State → Option Step → Step
next_and more s None = record { state = s; text = [] }
next_and more s (Some t) = step_behind t.text (more t.state)

-- at most so many dispatches, one behind the other, as long as there is one
unfoldable pub dispatches : ℕ → State → Step
dispatches zero s = record { state = s; text = [] }
dispatches (suc more) s = next_and (dispatches more) s (dispatch s)

-- a turn makes at most 256, and what waits then waits for the next turn
unfoldable pub most_dispatches : ℕ
most_dispatches = 256

unfoldable pub turn : State → Step
turn s = dispatches most_dispatches s
