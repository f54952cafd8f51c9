-- The DownloadInfoIndication, DII for short: which modules a data carousel has (ISO/IEC 13818-6, 7.3).
use Rattle.std.specs.Prelude.{◌<◌, ◌^◌, ◌==◌, ℕ, List, [], ◌∷◌, ◌++◌, length, find, Option, All}
use Rattle.std.specs.List.{flat_map}
use Rattle.bml_bytes.specs.Numbers.{big_bytes}
use Rattle.dsmcc_messages.specs.declared.entry.Entry.{Entry}
use Rattle.dsmcc_messages.specs.declared.dii.Dii.{Dii}
use Rattle.dsmcc_messages.specs.Message.{indication, Carries}

-- a module's entry: moduleId, moduleSize, moduleVersion, moduleInfoLength, moduleInfoBytes
abbrev pub entry_bytes : Entry → List ℕ
entry_bytes entry = big_bytes 2 entry.id ++ big_bytes 4 entry.size ++ entry.version ∷ length entry.info ∷ entry.info

-- the entry's numbers fit the bytes in which they are written
pub record EntryFits (entry : Entry) : Type 0 where
  pub id : entry.id < 2 ^ 16
  pub size : entry.size < 2 ^ 32

-- The section is a DII with these fields. Its payload has downloadId, blockSize, windowSize, ackPeriod,
-- tCDownloadWindow, tCDownloadScenario, the compatibilityDescriptor behind its length, numberOfModules, an
-- entry for each module, and the private data behind their length; nothing is left behind them. The fields
-- that a Dii doesn't have are any numbers of their width.
pub record IsDii (section : List ℕ) (dii : Dii) : Type 0 where
  pub window_size : ℕ
  pub ack_period : ℕ
  pub download_window : ℕ
  pub download_scenario : ℕ
  pub compatibility : List ℕ
  pub private_data : List ℕ
  pub download_fits : dii.download < 2 ^ 32
  pub block_size_fits : dii.block_size < 2 ^ 16
  pub download_window_fits : download_window < 2 ^ 32
  pub download_scenario_fits : download_scenario < 2 ^ 32
  pub compatibility_fits : length compatibility < 2 ^ 16
  pub modules_fit : length dii.entries < 2 ^ 16
  pub entries_fit : All EntryFits dii.entries
  pub private_data_fits : length private_data < 2 ^ 16
  pub carried : Carries indication section dii.transaction
      (big_bytes 4 dii.download ++ big_bytes 2 dii.block_size ++ window_size ∷ ack_period ∷ []
      ++ big_bytes 4 download_window ++ big_bytes 4 download_scenario
      ++ big_bytes 2 (length compatibility) ++ compatibility
      ++ big_bytes 2 (length dii.entries) ++ flat_map entry_bytes dii.entries
      ++ big_bytes 2 (length private_data) ++ private_data)

-- the first entry with that number, where there is one: of two entries with one number the first counts
-- (this project's own rule)
abbrev pub entry_of : Dii → ℕ → Option Entry
entry_of dii number = find (λ entry. entry.id == number) dii.entries
