-- What `Services` keeps, and for which history it stands. (This project's own.)
use Rattle.std.specs.Prelude.{◌≡◌, ◌==◌, ℕ, Bool, false, ◌||◌, List, [], ◌∷◌, ◌++◌, map as each, Option, None, Some, is_some}
use Rattle.psi_tables.specs.declared.pat.PatEntry.{PatEntry}
use Rattle.psi_tables.specs.declared.components.Component.{Component}
use Rattle.psi_tables.specs.declared.services.Selection.{Selection}
use Rattle.psi_tables.specs.declared.services.Selection.TheVariants.{First, Service, Pid}
use Rattle.psi_tables.specs.Components.{tag_in}
use Rattle.psi_tables.specs.History.{Handled, is_on, service_of, map_of}

-- what was asked for, the service at present, and the component map
pub record ServicesState : Type 0 where
  pub selection : Selection
  pub service : Option PatEntry
  pub map : List Component

-- it keeps the service and the component map that this history of sections gives
pub record StandsFor (state : ServicesState) (history : List Handled) : Type 0 where
  pub service : state.service ≡ service_of state.selection history
  pub map : state.map ≡ map_of state.selection history

-- Sections on that PID are read as a table: PID 0 brings PATs, and the service's PID its PMTs. With a data PID no
-- table is read.
abbrev pub reads_table : Selection → Option PatEntry → ℕ → Bool
reads_table (Pid pid_of_data) service pid = false
reads_table First service pid = (pid == 0) || is_on service pid
reads_table (Service program) service pid = (pid == 0) || is_on service pid

-- a PID is wanted where its sections are read as a table or are those of a component
abbrev pub wants : ServicesState → ℕ → Bool
wants state pid = reads_table state.selection state.service pid || is_some (tag_in state.map pid)

-- the PIDs on which sections are read as a table: PID 0, and the service's
abbrev pub table_pids : Selection → Option PatEntry → List ℕ
table_pids (Pid pid_of_data) service = []
table_pids First None = 0 ∷ []
table_pids First (Some service) = 0 ∷ service.pid ∷ []
table_pids (Service program) None = 0 ∷ []
table_pids (Service program) (Some service) = 0 ∷ service.pid ∷ []

-- the PIDs that are wanted: those of the tables, and those of the components
abbrev pub wanted_pids : ServicesState → List ℕ
wanted_pids state = table_pids state.selection state.service ++ each (λ component. component.pid) state.map
