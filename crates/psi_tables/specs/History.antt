-- Which service is played and which components it has, as functions of all sections that were handled so far.
-- Which PAT and which PMT counts is this project's own choice, over the tables of ISO/IEC 13818-1, 2.4.4.
use Rattle.std.specs.Prelude.{◌==◌, ℕ, Bool, false, not, ◌&&◌, if◌then◌else◌, List, [], ◌∷◌, ◌++◌, find, Option, Some, None, option_map, unwrap_or, Result, Ok, Err}
use Rattle.std.specs.List.{filter_map}
use Rattle.psi_tables.specs.declared.pat.PatEntry.{PatEntry}
use Rattle.psi_tables.specs.declared.pmt.Pmt.{Pmt}
use Rattle.psi_tables.specs.declared.components.Component.{Component}
use Rattle.psi_tables.specs.declared.services.Selection.{Selection}
use Rattle.psi_tables.specs.declared.services.Selection.TheVariants.{First, Service, Pid}
use Rattle.psi_tables.specs.Components.{components_of}
use Rattle.bml_bytes.specs.Fields.{◌>>=◌}
use Rattle.psi_tables.specs.Reading.{pat_in, pmt_in}

-- an intact section, and the PID on which it came
pub record Handled : Type 0 where
  pub pid : ℕ
  pub section : List ℕ

-- the last item of a list, where it has one
unfoldable pub last_of : {A : Type 0} → List A → Option A
last_of [] = None
last_of (x ∷ []) = Some x
last_of (x ∷ y ∷ xs) = last_of (y ∷ xs)

-- each item of a list, with all items before it behind those `before`
unfoldable pub moments : {A : Type 0} → List A → List A → List (List A × A)
moments before [] = []
moments before (x ∷ xs) = (before, x) ∷ moments (before ++ x ∷ []) xs

-- the entry of the service in a PAT: that of the program asked for, else the first whose program isn't 0 (which is
-- the network's); with a data PID there is no service
abbrev pub service_in : Selection → List PatEntry → Option PatEntry
service_in First entries = find (λ entry. not (entry.program == 0)) entries
service_in (Service program) entries = find (λ entry. entry.program == program) entries
service_in (Pid pid) entries = None

-- the fields of a section that is readable
abbrev pub readable : {A E : Type 0} → Result A E → Option A
readable (Ok fields) = Some fields
readable (Err fault) = None

-- the service in the PAT that a section carries, where it is readable and has the service
abbrev pub service_in_pat : Selection → List ℕ → Option PatEntry
service_in_pat selection section = readable (pat_in section) >>= service_in selection

-- the service that a section names: a PAT counts where it came on PID 0, is readable, and has the service
abbrev pub service_named : Selection → Handled → Option PatEntry
service_named selection handled = if handled.pid == 0 then service_in_pat selection handled.section else None

-- the service, as the last PAT that counts names it
abbrev pub service_of : Selection → List Handled → Option PatEntry
service_of selection history = last_of (filter_map (service_named selection) history)

-- the PMT if it is that of the program
abbrev pub if_of_program : ℕ → Pmt → Option Pmt
if_of_program program pmt = if pmt.program == program then Some pmt else None

-- the PMT of a program that a section carries, where it is readable and has the program's number
abbrev pub pmt_of_program : ℕ → List ℕ → Option Pmt
pmt_of_program program section = readable (pmt_in section) >>= if_of_program program

-- the service's PMTs come on that PID
abbrev pub is_on : Option PatEntry → ℕ → Bool
is_on None pid = false
is_on (Some service) pid = service.pid == pid

-- The PMT that counts in a section, by the service at its moment: it came on the service's PID, is readable and has
-- the service's number. What comes on PID 0 is read as a PAT alone.
abbrev pub pmt_for : Option PatEntry → Handled → Option Pmt
pmt_for service handled =
    if not (handled.pid == 0) && is_on service handled.pid
    then (service >>= λ service. pmt_of_program service.program handled.section)
    else None

-- the PMT that counts in a section behind all that came before it
abbrev pub pmt_counting : Selection → List Handled × Handled → Option Pmt
pmt_counting selection moment = pmt_for (service_of selection moment.0) moment.1

-- the map before any PMT counts: empty, but with a data PID the one component 0x40 on it
abbrev pub map_at_first : Selection → List Component
map_at_first First = []
map_at_first (Service program) = []
map_at_first (Pid pid) = record { tag = 0x40; pid = pid } ∷ []

-- the component map: the components of the last PMT that counts
abbrev pub map_of : Selection → List Handled → List Component
map_of selection history =
    unwrap_or (option_map (λ pmt. components_of pmt.streams) (last_of (filter_map (pmt_counting selection) (moments [] history)))) (map_at_first selection)
