-- The stream of some files: a DII that announces them as modules, and all of their blocks, so many times (after ARIB
-- STD-B24, volume 3; that the modules come one after another, and the rounds, is this project's own).
use Rattle.std.specs.Prelude.{ℕ, zero, suc, ◌*◌, List, [], ◌∷◌, ◌++◌, length, take, drop, map, Option, Some, None}
use Rattle.std.specs.List.{flat_map, range_with_len}
use Rattle.bml_bytes.specs.Codes.{bytes_of}
use Rattle.dsmcc_messages.specs.declared.entry.Entry.{Entry}
use Rattle.dsmcc_messages.specs.declared.dii.Dii.{Dii}
use Rattle.dsmcc_messages.specs.Ddb.{DataBlock}
use Rattle.carousel_blocks.specs.Message.{Message, Indication, Data}
use Rattle.carousel_blocks.specs.InForce.{block_count}
use Rattle.section_writer.specs.Packets.{stream_bytes}
use Rattle.carousel_writer.specs.declared.files.FileModule.{FileModule}
use Rattle.carousel_writer.specs.declared.files.Files.{Files}
use Rattle.carousel_writer.specs.Messages.{message_section}

-- ---- the DII

-- a Type descriptor (tag 0x01) with the media type, and none where that is empty
abbrev pub info_of : List ℕ → List ℕ
info_of [] = []
info_of (code ∷ codes) = 0x01 ∷ length (bytes_of (code ∷ codes)) ∷ bytes_of (code ∷ codes)

-- the text of that descriptor, where there is one
abbrev pub type_text : List ℕ → Option (List ℕ)
type_text [] = None
type_text (code ∷ codes) = Some (bytes_of (code ∷ codes))

abbrev pub entry_of : FileModule → Entry
entry_of file = record { id = file.id; size = length file.bytes.items; version = file.version; info = info_of file.media }

abbrev pub dii_of : Files → Dii
dii_of files = record {
  transaction = files.transaction;
  download = files.download;
  block_size = files.block_size;
  entries = map entry_of files.modules.items;
}

-- ---- the blocks

-- the block with that number: blockSize bytes, but the last may be shorter
abbrev pub block_of : Files → FileModule → ℕ → DataBlock
block_of files file number = record {
  download = files.download;
  «module» = file.id;
  version = file.version;
  number = number;
  block = take files.block_size (drop (number * files.block_size) file.bytes.items);
}

abbrev pub blocks_of : Files → FileModule → List DataBlock
blocks_of files file = map (block_of files file) (range_with_len 0 (block_count files.block_size (length file.bytes.items)))

-- ---- all messages

-- one round: the DII, and all blocks of each module, in the modules' order
abbrev pub round_of : Files → List Message
round_of files = Indication (dii_of files) ∷ map Data (flat_map (blocks_of files) files.modules.items)

abbrev pub rounds_of : ℕ → List Message → List Message
rounds_of zero round = []
rounds_of (suc more) round = round ++ rounds_of more round

abbrev pub messages_sent : Files → List Message
messages_sent files = rounds_of files.rounds (round_of files)

abbrev pub sections_sent : Files → List (List ℕ)
sections_sent files = map message_section (messages_sent files)

-- ---- the stream

abbrev pub stream_of : Files → List ℕ
stream_of files = stream_bytes files.pid (sections_sent files)
