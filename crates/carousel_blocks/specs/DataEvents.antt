-- Data events (after ARIB STD-B24, volume 3, and TR-B14: the top four bits of a DII's downloadId are its data_event_id; what
-- is told of one is this project's own).
use Rattle.std.specs.Prelude.{ℕ, ◌/◌, ◌^◌, ◌==◌, Bool, if◌then◌else◌, true, false, Option, Some, None, option_map}
use Rattle.dsmcc_messages.specs.declared.dii.Dii.{Dii}
use Rattle.carousel_blocks.specs.declared.changes.Change.{Change}
use Rattle.carousel_blocks.specs.declared.changes.ChangeLine.{ChangeLine}
use Rattle.carousel_blocks.specs.declared.changes.ChangeLine.TheVariants.{DataEvent}
use Rattle.carousel_blocks.specs.Message.{Message}
use Rattle.carousel_blocks.specs.InForce.{in_force}

-- the top four bits of a downloadId, which has 32
abbrev pub event_id_of : ℕ → ℕ
event_id_of download = download / 2 ^ 28

abbrev pub data_event_id : Dii → ℕ
data_event_id dii = event_id_of dii.download

-- what is told of a data event, as a change of module 0 without a status: the data_event_ids before and after
abbrev pub data_event : ℕ → ℕ → Change
data_event before after =
    record { «module» = 0; status = None; line = Some (DataEvent before after); locked = false }

-- the change is that of a data event
abbrev pub is_event_line : Option ChangeLine → Bool
is_event_line (Some (DataEvent before after)) = true
is_event_line line = false

abbrev pub is_data_event : Change → Bool
is_data_event change = is_event_line change.line

-- There is a data event where a DII is in force before and after, and the two have different data_event_ids.
abbrev pub data_event_between : Option ℕ → Option ℕ → Option Change
data_event_between None after = None
data_event_between (Some before) None = None
data_event_between (Some before) (Some after) =
    if before == after then None else Some (data_event before after)
