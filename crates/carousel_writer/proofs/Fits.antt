-- Which messages fit a section, and which files fit a stream.
use Rattle.std.proofs.Common.{◌≡◌, ◌<◌, ◌≤◌, ◌^◌, length, None}
use Rattle.std.specs.List.{All}
use Rattle.dsmcc_messages.specs.declared.dii.Dii.{Dii}
use Rattle.dsmcc_messages.specs.Dii.{EntryFits}
use Rattle.dsmcc_messages.specs.Ddb.{DataBlock}
use Rattle.carousel_blocks.specs.Message.{Message, Indication, Data}
use Rattle.carousel_blocks.specs.Entries.{skip_in}
use Rattle.carousel_writer.specs.declared.files.Files.{Files}
use Rattle.carousel_writer.specs.Messages.{ddb_payload, dii_payload}
use Rattle.carousel_writer.specs.Streams.{dii_of, round_of}

-- its numbers fit their fields, and its section has at most 4,096 bytes
pub record DiiFits (dii : Dii) : Type 0 where
  pub transaction : dii.transaction < 2 ^ 32
  pub download : dii.download < 2 ^ 32
  pub block_size : dii.block_size < 2 ^ 16
  pub modules : length dii.entries < 2 ^ 16
  pub entries : All EntryFits dii.entries
  pub section : length (dii_payload dii) ≤ 4072

pub record DdbFits (ddb : DataBlock) : Type 0 where
  pub download : ddb.download < 2 ^ 32
  pub module_id : ddb.module < 2 ^ 16
  pub number : ddb.number < 2 ^ 16
  pub section : length (ddb_payload ddb) ≤ 4072

abbrev pub MessageFits : Message → Type 0
MessageFits (Indication dii) = DiiFits dii
MessageFits (Data ddb) = DdbFits ddb

pub record FilesFit (files : Files) : Type 0 where
  pub pid : files.pid < 8192
  pub rounds : 0 < files.rounds
  pub unskipped : All (λ file. skip_in (dii_of files) file.id ≡ None) files.modules.items
  pub fit : All MessageFits (round_of files)
