-- The messages of a data carousel (ISO/IEC 13818-6, 7.3), as they come one after the other.
use Rattle.std.specs.Prelude.{ℕ, List, [], ◌∷◌, Option, Some, None, Result, Ok, Err}
use Rattle.std.specs.List.{filter_map}
use Rattle.dsmcc_messages.specs.declared.dii.Dii.{Dii}
use Rattle.dsmcc_messages.specs.Dii.{IsDii}
use Rattle.dsmcc_messages.specs.Ddb.{DataBlock, IsDdb}
use Rattle.dsmcc_messages.specs.Reading.{dii_in, ddb_in}

-- a DII or a DDB
pub data Message : Type 0 where
  Indication : Dii → Message
  Data : DataBlock → Message

-- the message that an intact section carries, where it carries one that can be read
abbrev pub message_with : {E F : Type 0} → Result Dii E → Result DataBlock F → Option Message
message_with (Ok dii) ddb = Some (Indication dii)
message_with (Err e) (Ok ddb) = Some (Data ddb)
message_with (Err e) (Err f) = None

unfoldable pub message_of : List ℕ → Option Message
message_of section = message_with (dii_in section) (ddb_in section)

-- The section carries the message, by the relation between its bytes and the message's fields. `law_of_messages` says
-- that this is the message that reading gives.
abbrev pub CarriesMessage : List ℕ → Message → Type 0
CarriesMessage section (Indication dii) = IsDii section dii
CarriesMessage section (Data ddb) = IsDdb section ddb

-- the messages of a list of sections
abbrev pub messages_of : List (List ℕ) → List Message
messages_of sections = filter_map message_of sections

-- the DDB of a section, where it carries one that can be read
abbrev pub data_by : {F : Type 0} → Result DataBlock F → List Message
data_by (Ok ddb) = Data ddb ∷ []
data_by (Err f) = []

unfoldable pub data_in : List ℕ → List Message
data_in section = data_by (ddb_in section)
