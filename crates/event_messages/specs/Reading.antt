-- The same messages read from the front to the back. `law_of_messages` says that both agree.
-- (After ARIB STD-B24, volume 3; the layout is this project's own.)
use Rattle.std.specs.Prelude.{◌≡◌, ◌/◌, ◌==◌, ℕ, if◌then◌else◌, List, slice_index, Option, Some, None, option_map, Result, Ok, Err}
use Rattle.std.specs.List.{filter_map}
use Rattle.std.specs.Option.{ok_or}
use Rattle.bml_bytes.specs.Codes.{codes}
use Rattle.bml_bytes.specs.Fields.{◌>>=◌, byte_at, number_at, bytes_at}
use Rattle.bml_bytes.specs.declared.refusals.TableFault.{TableFault}
use Rattle.bml_bytes.specs.declared.refusals.TableFault.TheVariants.{Kind, Short}
use Rattle.bml_bytes.specs.declared.refusals.TableRefusal.{TableRefusal}
use Rattle.bml_bytes.specs.declared.refusals.TableRefusal.TheVariants as refusals
use Rattle.table_fields.specs.Descriptors.{Descriptor, descriptors_in}
use Rattle.table_fields.specs.Sections.{body}
use Rattle.event_messages.specs.declared.messages.Message.{Message}
use Rattle.event_messages.specs.Messages.{descriptor_table, immediate, message_tag}

-- the message in the bytes of an event message descriptor
unfoldable pub message_at : List ℕ → Option Message
message_at bytes = do
  group ← number_at 2 bytes
  mode ← byte_at group.1
  time ← bytes_at 5 mode.1
  kind ← byte_at time.1
  id ← byte_at kind.1
  version ← byte_at id.1
  if mode.0 == immediate
      then Some (record { group = group.0 / 16; kind = kind.0; id = id.0; version = version.0; extra = codes version.1 })
      else None

-- the message that a descriptor is
unfoldable pub message_of : Descriptor → Option Message
message_of descriptor = if descriptor.tag == message_tag then message_at descriptor.bytes else None

-- the messages among some descriptors
abbrev pub messages_of : List Descriptor → List Message
messages_of descriptors = filter_map message_of descriptors

-- the messages in a section, or why it isn't read
unfoldable pub messages_in : List ℕ → Result (List Message) TableFault
messages_in section =
    if slice_index section 0 == descriptor_table
    then ok_or (option_map messages_of (descriptors_in (body section))) Short else Err Kind

-- what a function answered is what reading gives, unless memory ran out
abbrev pub IsRead : {X Y : Type 0} → (X → Y) → Result X TableRefusal → Result Y TableFault → Type 0
IsRead view (Ok x) read = read ≡ Ok (view x)
IsRead view (Err refusals.NoMemory) read = Unit {0}
IsRead view (Err (refusals.Fault fault)) read = read ≡ Err fault
