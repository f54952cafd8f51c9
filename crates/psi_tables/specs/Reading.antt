-- The same tables read from the front to the back: for each relation between bytes and fields the one value that
-- the bytes have, if any. `law_of_pat` and `law_of_pmt` say that both agree.
-- (ISO/IEC 13818-1, 2.4.4.)
use Rattle.std.specs.Prelude.{◌≡◌, ℕ, zero, suc, ◌%◌, ◌^◌, ◌==◌, Bool, ◌&&◌, if◌then◌else◌, List, [], ◌∷◌, length, drop, slice_index, Option, Some, None, Result, Ok, Err, option_map}
use Rattle.std.specs.Option.{ok_or}
use Rattle.bml_bytes.specs.Fields.{◌>>=◌, byte_at, number_at, bytes_at}
use Rattle.bml_bytes.specs.declared.refusals.TableFault.{TableFault}
use Rattle.bml_bytes.specs.declared.refusals.TableFault.TheVariants.{Kind, Short}
use Rattle.bml_bytes.specs.declared.refusals.TableRefusal.{TableRefusal}
use Rattle.bml_bytes.specs.declared.refusals.TableRefusal.TheVariants as refusals
use Rattle.psi_tables.specs.declared.pat.PatEntry.{PatEntry}
use Rattle.psi_tables.specs.declared.pmt.PmtStream.{PmtStream}
use Rattle.psi_tables.specs.declared.pmt.Pmt.{Pmt}
use Rattle.table_fields.specs.Descriptors.{descriptors_in}
use Rattle.table_fields.specs.Sections.{body}
use Rattle.psi_tables.specs.Table.{association_table, map_table}
use Rattle.psi_tables.specs.Descriptor.{component_tag_in}

-- a number of `width` bits behind the reserved bits that fill two bytes
unfoldable pub narrow_at : ℕ → List ℕ → Option (ℕ × List ℕ)
narrow_at width bytes = do
  number ← number_at 2 bytes
  Some (number.0 % 2 ^ width, number.1)

-- items up to the bytes' end, of which there are no more than the bound
unfoldable pub items_within : {A : Type 0} → (List ℕ → Option (A × List ℕ)) → ℕ → List ℕ → Option (List A)
items_within item bound [] = Some []
items_within item zero (x ∷ bytes) = None
items_within item (suc bound) (x ∷ bytes) = do
  first ← item (x ∷ bytes)
  others ← items_within item bound first.1
  Some (first.0 ∷ others)

-- the items that the bytes are, where they are items end to end; each item has a byte at least
unfoldable pub items_in : {A : Type 0} → (List ℕ → Option (A × List ℕ)) → List ℕ → Option (List A)
items_in item bytes = items_within item (length bytes) bytes

unfoldable pub entry_at : List ℕ → Option (PatEntry × List ℕ)
entry_at bytes = do
  program ← number_at 2 bytes
  pid ← narrow_at 13 program.1
  Some (record { program = program.0; pid = pid.0 }, pid.1)

-- bytes behind their length in 12 bits
unfoldable pub info_at : List ℕ → Option (List ℕ × List ℕ)
info_at bytes = do
  count ← narrow_at 12 bytes
  bytes_at count.0 count.1

-- the component_tag in descriptors, where they are any; none inside where no stream identifier is among them
unfoldable pub component_in : List ℕ → Option (Option ℕ)
component_in info = option_map component_tag_in (descriptors_in info)

unfoldable pub stream_at : List ℕ → Option (PmtStream × List ℕ)
stream_at bytes = do
  kind ← byte_at bytes
  pid ← narrow_at 13 kind.1
  info ← info_at pid.1
  component ← component_in info.0
  Some (record { kind = kind.0; pid = pid.0; component = component }, info.1)

-- the streams in a PMT's body
unfoldable pub streams_in : List ℕ → Option (List PmtStream)
streams_in bytes = do
  pcr ← narrow_at 13 bytes
  info ← info_at pcr.1
  component ← component_in info.0
  items_in stream_at info.1

-- whether a section carries that table
abbrev pub is_of_table : ℕ → List ℕ → Bool
is_of_table table_id section = (slice_index section 0 == table_id) && ((slice_index section 5 % 2 == 1) && (slice_index section 6 == 0))

-- what the body of a section with that table gives, or why it isn't read
unfoldable pub table_in : {A : Type 0} → ℕ → (List ℕ → Option A) → List ℕ → Result A TableFault
table_in table_id fields section = if is_of_table table_id section then ok_or (fields (body section)) Short else Err Kind

-- the entries of the PAT in a section
abbrev pub pat_in : List ℕ → Result (List PatEntry) TableFault
pat_in section = table_in association_table (items_in entry_at) section

-- the PMT of that program with the streams in a body
unfoldable pub program_map : ℕ → List ℕ → Option Pmt
program_map program bytes = option_map (λ streams. record { program = program; streams = streams }) (streams_in bytes)

-- program_number, which stands behind section_length
unfoldable pub program_number : List ℕ → Option ℕ
program_number section = option_map (λ number. number.0) (number_at 2 (drop 3 section))

-- the PMT with the program_number of a section and the streams in its body
abbrev pub map_with_number : List ℕ → List ℕ → Option Pmt
map_with_number section bytes = program_number section >>= λ program. program_map program bytes

-- the PMT in a section
abbrev pub pmt_in : List ℕ → Result Pmt TableFault
pmt_in section = table_in map_table (map_with_number section) section

-- what a function answered, seen by view, is what reading gives, unless memory ran out
abbrev pub IsRead : {X Y : Type 0} → (X → Y) → Result X TableRefusal → Result Y TableFault → Type 0
IsRead view (Ok x) read = read ≡ Ok (view x)
IsRead view (Err refusals.NoMemory) read = Unit {0}
IsRead view (Err (refusals.Fault fault)) read = read ≡ Err fault
