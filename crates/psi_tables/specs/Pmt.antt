-- The program map table, PMT for short: which streams a program has (ISO/IEC 13818-1, 2.4.4.8).
use Rattle.std.specs.Prelude.{◌≡◌, ◌<◌, ◌^◌, ℕ, List, ◌∷◌, ◌++◌, length}
use Rattle.bml_bytes.specs.Numbers.{big_bytes}
use Rattle.psi_tables.specs.declared.pmt.PmtStream.{PmtStream}
use Rattle.psi_tables.specs.declared.pmt.Pmt.{Pmt}
use Rattle.table_fields.specs.Descriptors.{Descriptor, AreDescriptors}
use Rattle.table_fields.specs.Sections.{body}
use Rattle.psi_tables.specs.Table.{map_table, extension, IsOfTable, IsNarrow}
use Rattle.psi_tables.specs.Laid.{AreLaid}
use Rattle.psi_tables.specs.Descriptor.{component_tag_in}

-- these descriptors behind their length: four reserved bits, a length in 12 bits, and the descriptors
pub record IsInfo (descriptors : List Descriptor) (text : List ℕ) : Type 0 where
  pub length_bytes : List ℕ
  pub bytes : List ℕ
  pub length_written : IsNarrow 12 (length bytes) length_bytes
  pub laid : AreDescriptors bytes descriptors
  pub written : text ≡ length_bytes ++ bytes

-- A stream: stream_type, three reserved bits, elementary_PID, and its descriptors behind ES_info_length. Its
-- component is what they say.
pub record IsStream (stream : PmtStream) (text : List ℕ) : Type 0 where
  pub pid_bytes : List ℕ
  pub info : List ℕ
  pub descriptors : List Descriptor
  pub pid_written : IsNarrow 13 stream.pid pid_bytes
  pub info_written : IsInfo descriptors info
  pub component : stream.component ≡ component_tag_in descriptors
  pub written : text ≡ stream.kind ∷ (pid_bytes ++ info)

-- The section is a PMT of this program with these streams. Its extension is program_number, and its body is three
-- reserved bits and PCR_PID, the program's descriptors behind program_info_length, and the streams.
pub record IsPmt (section : List ℕ) (pmt : Pmt) : Type 0 where
  pub pcr_pid : ℕ
  pub pcr_bytes : List ℕ
  pub info : List ℕ
  pub descriptors : List Descriptor
  pub streams : List ℕ
  pub of_table : IsOfTable map_table section
  pub program_fits : pmt.program < 2 ^ 16
  pub program_written : extension section ≡ big_bytes 2 pmt.program
  pub pcr_written : IsNarrow 13 pcr_pid pcr_bytes
  pub info_written : IsInfo descriptors info
  pub laid : AreLaid IsStream streams pmt.streams
  pub written : body section ≡ pcr_bytes ++ (info ++ streams)
