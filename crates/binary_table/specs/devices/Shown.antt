-- A device of the proofs: the rows that are seen by their places.
use Rattle.std.specs.Prelude.{◌≡◌, ◌<◌, ◌≤◌, ◌^◌, ℕ, List, [], map, length, slice_get, option_map, unwrap_or, Option, Some, None}
use Rattle.bml_bytes.specs.Fields.{◌>>=◌}
use Rattle.persistent_arrays.specs.declared.fields.Field.{Field}
use Rattle.persistent_arrays.specs.declared.kinds.FieldKind.{FieldKind}
use Rattle.persistent_arrays.specs.Reading.{runs}
use Rattle.persistent_arrays.specs.Structures.{IsKind}
use Rattle.binary_table.specs.declared.columns.Column.{Column}
use Rattle.binary_table.specs.declared.layouts.Row.{Row}
use Rattle.binary_table.specs.devices.Layouts.{columns_from}
use Rattle.binary_table.specs.devices.Places.{look, rests}
use Rattle.binary_table.specs.Tables.{cell_of, most_rows, rows_in}

-- the values of a row, by its places
abbrev pub seen : List Column → List ℕ → Row → List (Option Field)
seen columns bytes row = map (look (rests bytes row.places.items)) columns

-- values that are there
abbrev pub all_there : List Field → List (Option Field)
all_there values = map (λ (value : Field). Some value) values

-- the bytes have these rows, or none or more than so many
abbrev pub IsShown : ℕ → List FieldKind → List ℕ → Option (List Row) → Type 0
IsShown most kinds bytes None = rows_in most (runs kinds) bytes ≡ None
IsShown most kinds bytes (Some rows) =
    (shown : List (List Field)) × (rows_in most (runs kinds) bytes ≡ Some shown)
    × (map all_there shown ≡ map (seen (columns_from 0 0 0 kinds) bytes) rows)

-- the kinds of columns
abbrev pub kinds_of : List Column → List FieldKind
kinds_of columns = map (λ (column : Column). column.kind) columns

-- the rows of a table
abbrev pub rows_of : List Column → List ℕ → List (List Field)
rows_of columns bytes = unwrap_or (rows_in most_rows (runs (kinds_of columns)) bytes) []

-- each cell is seen by the places of its row, and no column has another size than its kind may have
pub record IsWhole (columns : List Column) (bytes : List ℕ) (rows : List Row) : Type 0 where
  pub cells : (row column : ℕ) → cell_of (rows_of columns bytes) row column
      ≡ (slice_get rows row >>= λ found. slice_get columns column >>= look (rests bytes found.places.items))
  pub count : length rows ≡ length (rows_of columns bytes)
  pub few : length rows ≤ most_rows
  pub narrow : length columns < 2 ^ 32
  pub kind : (place : ℕ) → slice_get (kinds_of columns) place ≡ option_map (λ column. column.kind) (slice_get columns place)
  pub counted : length (kinds_of columns) ≡ length columns
  pub sizes : (place : ℕ) (column : Column) → slice_get columns place ≡ Some column → IsKind column.kind
