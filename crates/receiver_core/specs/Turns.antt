-- What intact sections, keys and moments change, with the turns that follow; and what is displayed. (This project's own.)
use Rattle.std.specs.Prelude.{ℕ, Bool, if◌then◌else◌, List, [], ◌∷◌, ◌++◌, map, Option, Some, None, Result, Ok, Err}
use Rattle.bml_bytes.specs.declared.refusals.TableFault.{TableFault}
use Rattle.psi_tables.specs.Components.{tag_in}
use Rattle.psi_tables.specs.Service.{reads_table}
use Rattle.carousel_blocks.specs.declared.changes.Change.{Change}
use Rattle.event_messages.specs.Reading.{messages_in}
use Rattle.event_messages.specs.declared.messages.Message.{Message}
use Rattle.module_locks.specs.Locks.{Modules, changes_by, with_map, with_section}
use Rattle.module_store.specs.Store.{gone_by}
use Rattle.page.specs.Dispatches as dispatches
use Rattle.page.specs.Inputs.{changes_step, display_of, due_step, key_step, messages_step}
use Rattle.page.specs.State as page
use Rattle.text_lines.specs.RowLines.{with_rows}
use Rattle.text_lines.specs.declared.row_lines.Align.{Align}
use Rattle.receiver_core.specs.State.{State, services, wants}

-- a step: the state that it leaves, and what it prints
pub record Step : Type 0 where
  pub state : State
  pub text : List ℕ

-- a step of the page alone
abbrev pub of_page : State → page.Step → Step
of_page s step = record { state = record s { page = step.state }; text = step.text }

-- ---- sections

-- behind one more section handled: a PID that isn't wanted any more loses its packets
abbrev pub with_handled : ℕ → List ℕ → State → State
with_handled pid section s =
    let now = record s { handled = s.handled ++ record { pid = pid; section = section } ∷ [] } in
    record now { packets = λ other. if wants now other then s.packets other else [] }

-- the modules become these
abbrev pub with_modules : Modules → State → State
with_modules modules now = record now { page = page.with_modules modules now.page }

-- the page is told of changes in modules, each with its component
abbrev pub with_changes : List (ℕ × Change) → State → Step
with_changes changes now = of_page now (changes_step changes now.page)

-- A table: the components are those of the map that it leaves; what left is gone.
abbrev pub step_of_table : State → Step
step_of_table now =
    with_changes (gone_by (services now).map now.page.modules.stored)
    (with_modules (with_map (services now).map now.page.modules) now)

-- the event messages of a section; one of another table, and one that isn't read, has none
abbrev pub messages_of_reading : Result (List Message) TableFault → List Message
messages_of_reading (Ok messages) = messages
messages_of_reading (Err fault) = []

abbrev pub section_messages : List ℕ → List Message
section_messages section = messages_of_reading (messages_in section)

-- they come to the page behind a step
abbrev pub with_messages : ℕ → List Message → Step → Step
with_messages component messages t =
    let come = of_page t.state (messages_step component messages t.state.page) in
    record { state = come.state; text = t.text ++ come.text }

-- the changes that a section of a component makes in the modules
abbrev pub step_of_modules : ℕ → List ℕ → State → Step
step_of_modules component section now =
    with_changes
    (map (λ change. (component, change)) (changes_by component section now.page.modules))
    (with_modules (with_section component section now.page.modules) now)

-- A section of a component: its changes, and then its event messages
abbrev pub step_of_component : ℕ → List ℕ → State → Step
step_of_component component section now =
    with_messages component (section_messages section) (step_of_modules component section now)

abbrev pub step_of_tag : Option ℕ → List ℕ → State → Step
step_of_tag None section now = record { state = now; text = [] }
step_of_tag (Some component) section now = step_of_component component section now

-- A section is read as a table, or as one of the component on its PID, by the service and the map
-- before it.
abbrev pub step_of_section : ℕ → List ℕ → State → Step
step_of_section pid section s =
    if reads_table s.selection (services s).service pid
    then step_of_table (with_handled pid section s)
    else step_of_tag (tag_in (services s).map pid) section (with_handled pid section s)

-- ---- turns

-- the turn of the page
abbrev pub page_turn : State → Step
page_turn s = of_page s (dispatches.turn s.page)

-- a step and the turn that follows it
abbrev pub with_turn : Step → Step
with_turn t = record {
  state = (page_turn t.state).state;
  text = t.text ++ (page_turn t.state).text;
}

-- the turn of an intact section on a PID: what it changes, and the dispatches
unfoldable pub turn : ℕ → List ℕ → State → Step
turn pid section s = with_turn (step_of_section pid section s)

-- that of a key that is pressed or released
unfoldable pub key_turn : ℕ → Bool → State → Step
key_turn key down s = with_turn (of_page s (key_step key down s.page))

-- that of a moment, which the clock reaches, and when timers are due
unfoldable pub due_turn : ℕ → State → Step
due_turn moment s = with_turn (of_page s (due_step moment s.page))

-- ---- the display

-- the display list, which changes nothing
abbrev pub display_step : State → Step
display_step s = record { state = s; text = display_of s.page }

-- the display list with the rows of its texts, so much space between two codes
abbrev pub rows_step : ℕ → Align → State → Step
rows_step spacing align s =
    record { state = s; text = with_rows spacing align (display_step s).text }
