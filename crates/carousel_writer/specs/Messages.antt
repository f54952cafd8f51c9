-- The section that carries a message (ISO/IEC 13818-6, 7.2, 7.3 and 9.2; ISO/IEC 13818-1, 2.4.4). Fields that a message
-- here doesn't tell are 0.
use Rattle.std.specs.Prelude.{ℕ, false, List, [], ◌∷◌, ◌++◌, length}
use Rattle.std.specs.List.{flat_map}
use Rattle.bml_bytes.specs.Numbers.{big_bytes}
use Rattle.section_writer.specs.declared.heads.SectionHead.{SectionHead}
use Rattle.section_writer.specs.Sections.{section_bytes}
use Rattle.dsmcc_messages.specs.declared.message.MessageKind.{MessageKind}
use Rattle.dsmcc_messages.specs.declared.dii.Dii.{Dii}
use Rattle.dsmcc_messages.specs.Message.{indication, data_block, kind_bytes}
use Rattle.dsmcc_messages.specs.Dii.{entry_bytes}
use Rattle.dsmcc_messages.specs.Ddb.{DataBlock}
use Rattle.carousel_blocks.specs.Message.{Message, Indication, Data}

-- ---- a message

-- its header, without adaptation bytes, and its payload
abbrev pub message_bytes : MessageKind → ℕ → List ℕ → List ℕ
message_bytes kind identifier payload =
    kind_bytes kind ++ big_bytes 4 identifier ++ 0 ∷ 0 ∷ [] ++ big_bytes 2 (length payload) ++ payload

-- downloadId, blockSize, windowSize and ackPeriod, tCDownloadWindow, tCDownloadScenario, the length of no compatibility
-- descriptor, and numberOfModules
abbrev pub dii_front : Dii → List ℕ
dii_front dii =
    big_bytes 4 dii.download ++ big_bytes 2 dii.block_size ++ 0 ∷ 0 ∷ [] ++ big_bytes 4 0 ++ big_bytes 4 0
    ++ big_bytes 2 0 ++ big_bytes 2 (length dii.entries)

-- with the modules behind them, and the length of no private data
abbrev pub dii_payload : Dii → List ℕ
dii_payload dii = dii_front dii ++ flat_map entry_bytes dii.entries ++ big_bytes 2 0

-- moduleId, moduleVersion, reserved, blockNumber, and the block
abbrev pub ddb_payload : DataBlock → List ℕ
ddb_payload ddb = big_bytes 2 ddb.module ++ ddb.version ∷ 0 ∷ [] ++ big_bytes 2 ddb.number ++ ddb.block

-- the header of its section: 0 in every field but table_id
abbrev pub head_of : ℕ → SectionHead
head_of table_id = record { table_id = table_id; extension = 0; version = 0; is_current = false }

abbrev pub message_section : Message → List ℕ
message_section (Indication dii) =
    section_bytes (head_of 0x3B) (message_bytes indication dii.transaction (dii_payload dii))
message_section (Data ddb) =
    section_bytes (head_of 0x3C) (message_bytes data_block ddb.download (ddb_payload ddb))
