-- The DownloadDataBlock, DDB for short: one block of a module's bytes (ISO/IEC 13818-6, 7.3).
use Rattle.std.specs.Prelude.{◌<◌, ◌^◌, ℕ, List, [], ◌∷◌, ◌++◌}
use Rattle.bml_bytes.specs.Numbers.{big_bytes}
use Rattle.dsmcc_messages.specs.declared.ddb.Ddb.{Ddb}
use Rattle.dsmcc_messages.specs.Message.{data_block, Carries}

-- the fields of a DDB, with the bytes of its block
pub record DataBlock : Type 0 where
  pub download : ℕ
  pub «module» : ℕ
  pub version : ℕ
  pub number : ℕ
  pub block : List ℕ

-- the same of a Ddb, which borrows the bytes
abbrev pub fields_of : Ddb → DataBlock
fields_of ddb = record { download = ddb.download; «module» = ddb.module; version = ddb.version; number = ddb.number; block = ddb.block.now }

-- The section is a DDB with these fields. Its payload has moduleId, moduleVersion, a reserved byte,
-- blockNumber, and the block up to the message's end.
pub record IsDdb (section : List ℕ) (ddb : DataBlock) : Type 0 where
  pub reserved : ℕ
  pub module_fits : ddb.module < 2 ^ 16
  pub number_fits : ddb.number < 2 ^ 16
  pub carried : Carries data_block section ddb.download
      (big_bytes 2 ddb.module ++ ddb.version ∷ reserved ∷ [] ++ big_bytes 2 ddb.number ++ ddb.block)
