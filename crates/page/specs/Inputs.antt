-- What comes to a page beside its turns: changes of modules, messages, keys, moments, random words and dates; and what it
-- shows. (This project's own, after ARIB STD-B24, volume 2.)
use Rattle.std.specs.Prelude.{ℕ, ℤ, Bool, ◌||◌, List, [], ◌∷◌, ◌++◌, Option}
use Rattle.std.specs.Option.{option_map_or}
use Rattle.carousel_blocks.specs.DataEvents.{is_data_event}
use Rattle.carousel_blocks.specs.declared.changes.Change.{Change}
use Rattle.display_list.specs.Show.{clock_line}
use Rattle.event_messages.specs.declared.messages.Message.{Message}
use Rattle.acting_documents.specs.Documents.{document_lines}
use Rattle.event_queue.specs.Timers.{least_moment}
use Rattle.document_stages.specs.Acting.{with_date as dated, with_word}
use Rattle.acting_documents.specs.Handling.{change_effect, due_effect, key_effect, message_effect}
use Rattle.acting_documents.specs.Runs.{Effect, Scene}
use Rattle.module_store.specs.Lines.{line_of_change}
use Rattle.page.specs.State.{State, Step, scene_in, step_behind, step_of, still}

-- steps for several things, one behind the other
abbrev pub each_step : {A : Type 0} → (A → State → Step) → List A → State → Step
each_step step [] s = still s
each_step step (one ∷ others) s =
    step_behind (step one s).text (each_step step others (step one s).state)

-- what the document does, where there is one
abbrev pub document_step : (Scene → Effect) → State → Step
document_step effect s = option_map_or (λ d. step_of s (effect (scene_in s d))) s.document (still s)

-- a change in a module of a component is told, and posted to the document's event items
abbrev pub told_step : ℕ → Change → State → Step
told_step component change s =
    step_behind (line_of_change component change) (document_step (change_effect component change) s)

-- a data event waits from its change on
abbrev pub with_data_event : Change → State → State
with_data_event change s = record s { data_event = s.data_event || is_data_event change }

-- a change comes; that of a data event has no status and no lock, so it posts nothing (`law_of_data_events`)
abbrev pub change_step : ℕ → Change → State → Step
change_step component change s = told_step component change (with_data_event change s)

-- changes in modules, each with its component, one behind the other
abbrev pub changes_step : List (ℕ × Change) → State → Step
changes_step changes s = each_step (λ change. change_step change.0 change.1) changes s

-- an event message of a component is posted to the document's event items that fire for it
abbrev pub message_step : ℕ → Message → State → Step
message_step component message s = document_step (message_effect component message) s

-- messages of a component, one behind the other
abbrev pub messages_step : ℕ → List Message → State → Step
messages_step component messages s = each_step (message_step component) messages s

-- a key is pressed or released; without a document nothing is posted
abbrev pub key_step : ℕ → Bool → State → Step
key_step key down s = document_step (key_effect key down) s

-- the moment when a timer is due next
abbrev pub due_next : State → Option ℕ
due_next s = least_moment s.browser.timers.timers

-- the clock goes to a moment
abbrev pub with_clock : ℕ → State → State
with_clock moment s = record s { clock = moment }

-- The clock goes to a moment, and the timers that are due then post their events. Without a document there is none.
abbrev pub due_step : ℕ → State → Step
due_step moment s =
    option_map_or (λ d. step_of (with_clock moment s) (due_effect moment (scene_in s d)))
    s.document (still (with_clock moment s))

-- one random word more
abbrev pub with_random : ℕ → State → State
with_random word s = record s { browser = with_word word s.browser }

-- it is this second of this day now
abbrev pub with_date : ℤ → ℕ → State → State
with_date day second s = record s { browser = dated day second s.clock s.browser }

-- the display list of the document as it is now, behind the line of the clock; without a document it is that
-- line alone
unfoldable pub display_of : State → List ℕ
display_of s = clock_line s.clock ++ option_map_or document_lines s.document []
