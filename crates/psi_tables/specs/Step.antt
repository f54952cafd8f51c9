-- A device of the proofs: what the private functions of this crate do, one step each. Nothing public stands on these.
use Rattle.std.specs.Prelude.{ℕ, ◌==◌, nat_lt, Bool, true, false, not, ◌&&◌, if◌then◌else◌, List, [], ◌∷◌, ◌++◌, length, slice_index, Option, Some, None, option_map, unwrap_or}
use Rattle.std.specs.List.{list_all}
use Rattle.std.specs.Option.{option_or}
use Rattle.psi_tables.specs.declared.components.Component.{Component}
use Rattle.psi_tables.specs.declared.pmt.Pmt.{Pmt}
use Rattle.table_fields.specs.Descriptors.{Descriptor}
use Rattle.psi_tables.specs.Descriptor.{is_stream_identifier}
use Rattle.bml_bytes.specs.Fields.{◌>>=◌}
use Rattle.psi_tables.specs.Components.{components_of, is_taken, pid_in}
use Rattle.psi_tables.specs.History.{service_in_pat, pmt_of_program}
use Rattle.psi_tables.specs.Service.{ServicesState}

-- the components taken, and one more where there is room and its tag and PID are new
abbrev pub with_next : List Component → Component → List Component
with_next taken component = if nat_lt (length taken) 16 && not (is_taken taken component) then taken ++ component ∷ [] else taken

-- with the component of a stream, if it brings one
abbrev pub with_option : List Component → Option Component → List Component
with_option taken None = taken
with_option taken (Some component) = with_next taken component

-- the component_tag, where the descriptor is a stream identifier
abbrev pub component_tag_of : Descriptor → Option ℕ
component_tag_of descriptor = if is_stream_identifier descriptor then Some (slice_index descriptor.bytes 0) else None

-- both are the same PID, or both are none
abbrev pub is_same_pid : Option ℕ → Option ℕ → Bool
is_same_pid None None = true
is_same_pid None (Some pid) = false
is_same_pid (Some pid) None = false
is_same_pid (Some pid) (Some other) = pid == other

-- both maps have one PID for the tag of each component of the list
abbrev pub agree_on : List Component → List Component → List Component → Bool
agree_on components map other = list_all (λ component. is_same_pid (pid_in map component.tag) (pid_in other component.tag)) components

-- the components of a PMT's streams
abbrev pub components_in : Option Pmt → Option (List Component)
components_in pmt = option_map (λ pmt. components_of pmt.streams) pmt

-- what `Services` keeps behind a section on PID 0
abbrev pub after_pat : ServicesState → List ℕ → ServicesState
after_pat state section = record { selection = state.selection; service = option_or (service_in_pat state.selection section) state.service; map = state.map }

-- the components of the service's PMT in a section
abbrev pub components_for : ServicesState → List ℕ → Option (List Component)
components_for state section = components_in (state.service >>= λ service. pmt_of_program service.program section)

-- what it keeps behind a section on the service's PID
abbrev pub after_pmt : ServicesState → List ℕ → ServicesState
after_pmt state section = record { selection = state.selection; service = state.service; map = unwrap_or (components_for state section) state.map }
