-- Data events of a service (after ARIB STD-B24, volume 3, and TR-B14: those of its entry component, which has the start
-- document; which DII is in force is this project's own).
use Rattle.std.specs.Prelude.{ℕ, List, Option, option_map, option_and_then}
use Rattle.carousel_blocks.specs.declared.changes.Change.{Change}
use Rattle.carousel_blocks.specs.DataEvents.{data_event_between, data_event_id}
use Rattle.carousel_blocks.specs.InForce.{in_force}
use Rattle.module_store.specs.Resources.{start_component}
use Rattle.module_store.specs.Store.{Stored, messages_of_component, with_section}

-- the data_event_id of the service: that of the DII in force of its entry component
abbrev pub event_id : Stored → Option ℕ
event_id stored =
    option_and_then (λ messages. option_map data_event_id (in_force messages))
    (messages_of_component stored start_component)

-- A section is a data event where the service has another data_event_id behind it. `law_of_data_events` says which
-- sections these are.
abbrev pub data_event_by : ℕ → List ℕ → Stored → Option Change
data_event_by component section stored =
    data_event_between (event_id stored) (event_id (with_section component section stored))
