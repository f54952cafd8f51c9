-- The same messages read from the front to the back: for each relation between bytes and fields the one
-- value that the bytes have, if any. `law_of_dii` and `law_of_ddb` say that both agree.
-- (ISO/IEC 13818-6, 7.2 and 7.3.)
use Rattle.std.specs.Prelude.{◌≡◌, ℕ, zero, suc, ◌==◌, Bool, ◌&&◌, if◌then◌else◌, List, [], ◌∷◌, length, slice_index, Option, Some, None, Result, Ok, Err, option_map}
use Rattle.std.specs.List.{zip, list_all}
use Rattle.std.specs.Option.{ok_or}
use Rattle.bml_bytes.specs.Fields.{◌>>=◌, byte_at, number_at, bytes_at}
use Rattle.bml_bytes.specs.declared.refusals.TableFault.{TableFault}
use Rattle.bml_bytes.specs.declared.refusals.TableFault.TheVariants.{Kind, Short}
use Rattle.bml_bytes.specs.declared.refusals.TableRefusal.{TableRefusal}
use Rattle.bml_bytes.specs.declared.refusals.TableRefusal.TheVariants as refusals
use Rattle.dsmcc_messages.specs.declared.message.MessageKind.{MessageKind}
use Rattle.dsmcc_messages.specs.declared.entry.Entry.{Entry}
use Rattle.dsmcc_messages.specs.declared.dii.Dii.{Dii}
use Rattle.table_fields.specs.Descriptors.{descriptors_in, first_with}
use Rattle.table_fields.specs.Sections.{body}
use Rattle.dsmcc_messages.specs.Message.{indication, data_block, kind_bytes}
use Rattle.dsmcc_messages.specs.Ddb.{DataBlock}

-- bytes behind their length, which is one byte or a number of two bytes
unfoldable pub short_bytes_at : List ℕ → Option (List ℕ × List ℕ)
short_bytes_at bytes = do
  count ← byte_at bytes
  bytes_at count.0 count.1

unfoldable pub long_bytes_at : List ℕ → Option (List ℕ × List ℕ)
long_bytes_at bytes = do
  count ← number_at 2 bytes
  bytes_at count.0 count.1

-- whether two lists are the same as far as both go
abbrev pub agree : List ℕ → List ℕ → Bool
agree xs ys = list_all (λ pair. pair.0 == pair.1) (zip xs ys)

-- whether a section is of a kind
abbrev pub is_of_kind : MessageKind → List ℕ → Bool
is_of_kind kind section = (slice_index section 0 == kind.table_id) && agree (kind_bytes kind) (body section)

-- the identifier and the payload of a body's message, whose kind is known
unfoldable pub message_at : List ℕ → Option (ℕ × List ℕ)
message_at bytes = do
  kind ← bytes_at 4 bytes
  identifier ← number_at 4 kind.1
  reserved ← byte_at identifier.1
  adaptation_length ← byte_at reserved.1
  message_length ← number_at 2 adaptation_length.1
  message ← bytes_at message_length.0 message_length.1
  adaptation ← bytes_at adaptation_length.0 message.0
  Some (identifier.0, adaptation.1)

unfoldable pub entry_at : List ℕ → Option (Entry × List ℕ)
entry_at bytes = do
  id ← number_at 2 bytes
  size ← number_at 4 id.1
  version ← byte_at size.1
  info ← short_bytes_at version.1
  Some (record { id = id.0; size = size.0; version = version.0; info = info.0 }, info.1)

unfoldable pub entries_at : ℕ → List ℕ → Option (List Entry × List ℕ)
entries_at zero bytes = Some ([], bytes)
entries_at (suc count) bytes = do
  first ← entry_at bytes
  others ← entries_at count first.1
  Some (first.0 ∷ others.0, others.1)

-- the entries behind their number
unfoldable pub modules_at : List ℕ → Option (List Entry × List ℕ)
modules_at bytes = do
  count ← number_at 2 bytes
  entries_at count.0 count.1

-- downloadId and blockSize, and what stands behind the compatibilityDescriptor
unfoldable pub sizes_at : List ℕ → Option ((ℕ × ℕ) × List ℕ)
sizes_at bytes = do
  download ← number_at 4 bytes
  block_size ← number_at 2 download.1
  window_size ← byte_at block_size.1
  ack_period ← byte_at window_size.1
  download_window ← number_at 4 ack_period.1
  download_scenario ← number_at 4 download_window.1
  compatibility ← long_bytes_at download_scenario.1
  Some ((download.0, block_size.0), compatibility.1)

-- the DII with that transactionId and payload
unfoldable pub indication_at : ℕ × List ℕ → Option Dii
indication_at message = do
  sizes ← sizes_at message.1
  entries ← modules_at sizes.1
  private_data ← long_bytes_at entries.1
  if length private_data.1 == 0 then Some (record { transaction = message.0; download = sizes.0.0; block_size = sizes.0.1; entries = entries.0 }) else None

-- the DDB with that downloadId and payload
unfoldable pub data_block_at : ℕ × List ℕ → Option DataBlock
data_block_at message = do
  number ← number_at 2 message.1
  version ← byte_at number.1
  reserved ← byte_at version.1
  place ← number_at 2 reserved.1
  Some (record { download = message.0; «module» = number.0; version = version.0; number = place.0; block = place.1 })

-- what the message of that kind in a section says, or why it isn't read
unfoldable pub fields_in : {A : Type 0} → MessageKind → (ℕ × List ℕ → Option A) → List ℕ → Result A TableFault
fields_in kind fields section =
    if is_of_kind kind section then ok_or (message_at (body section) >>= fields) Short else Err Kind

-- the DII in a section
abbrev pub dii_in : List ℕ → Result Dii TableFault
dii_in section = fields_in indication indication_at section

-- the DDB in a section
abbrev pub ddb_in : List ℕ → Result DataBlock TableFault
ddb_in section = fields_in data_block data_block_at section

-- the bytes of the info's first descriptor with that tag, where the info is descriptors end to end
abbrev pub found_in : List ℕ → ℕ → Result (Option (List ℕ)) TableFault
found_in info tag = ok_or (option_map (first_with tag) (descriptors_in info)) Short

-- the same, where info of another form reads as none
abbrev pub descriptor_in : List ℕ → ℕ → Option (List ℕ)
descriptor_in info tag = descriptors_in info >>= first_with tag

-- what a function answered is what reading gives, unless memory ran out
abbrev pub IsRead : {X : Type 0} → Result X TableRefusal → Result X TableFault → Type 0
IsRead (Ok x) read = read ≡ Ok x
IsRead (Err refusals.NoMemory) read = Unit {0}
IsRead (Err (refusals.Fault fault)) read = read ≡ Err fault

-- the same of what is read from the front of a cursor's bytes: a value, and the bytes left
abbrev pub IsReadAt : {X Y : Type 0} → (X → Y) → Result X TableRefusal → List ℕ → Option (Y × List ℕ) → Type 0
IsReadAt view (Ok x) left read = read ≡ Some (view x, left)
IsReadAt view (Err refusals.NoMemory) left read = Unit {0}
IsReadAt view (Err (refusals.Fault fault)) left read = (fault ≡ Short) × (read ≡ None)

-- a result, with its value seen by view
abbrev pub seen : {X Y E : Type 0} → (X → Y) → Result X E → Result Y E
seen view (Ok x) = Ok (view x)
seen view (Err e) = Err e
