-- The program association table, PAT for short: on which PID each program's map comes (ISO/IEC 13818-1, 2.4.4.3).
use Rattle.std.specs.Prelude.{◌≡◌, ◌<◌, ◌^◌, ℕ, List, ◌++◌}
use Rattle.bml_bytes.specs.Numbers.{big_bytes}
use Rattle.psi_tables.specs.declared.pat.PatEntry.{PatEntry}
use Rattle.table_fields.specs.Sections.{body}
use Rattle.psi_tables.specs.Table.{association_table, IsOfTable, IsNarrow}
use Rattle.psi_tables.specs.Laid.{AreLaid}

-- an entry: program_number, three reserved bits, and a PID
pub record IsPatEntry (entry : PatEntry) (text : List ℕ) : Type 0 where
  pub pid_bytes : List ℕ
  pub program_fits : entry.program < 2 ^ 16
  pub pid_written : IsNarrow 13 entry.pid pid_bytes
  pub written : text ≡ big_bytes 2 entry.program ++ pid_bytes

-- the section is a PAT with these entries: they are its body
pub record IsPat (section : List ℕ) (entries : List PatEntry) : Type 0 where
  pub of_table : IsOfTable association_table section
  pub laid : AreLaid IsPatEntry (body section) entries
