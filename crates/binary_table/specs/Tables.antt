-- Binary tables: rows of fields in the bytes of a module (after ARIB STD-B24, volume 2, the built-in object BinaryTable;
-- names and forms are this project's own profile). The fields of a row are spelled as those of a persistent array.
use Rattle.std.specs.Prelude.{◌≡◌, ◌-◌, ℕ, zero, suc, Bool, true, false, not, List, [], ◌∷◌, ◌++◌, filter, length, take, slice_get, Option, Some, None, option_map}
use Rattle.std.specs.List.{range_with_len}
use Rattle.std.specs.Ordering.{int_eq}
use Rattle.bml_bytes.specs.Fields.{◌>>=◌}
use Rattle.bml_bytes.specs.Words.{is_same}
use Rattle.persistent_arrays.specs.declared.fields.Field.{Field}
use Rattle.persistent_arrays.specs.declared.fields.Field.TheVariants as fields
use Rattle.persistent_arrays.specs.declared.kinds.FieldKind.{FieldKind}
use Rattle.persistent_arrays.specs.Reading.{Run, Spelled, run_at, runs}

-- how many rows a table may have (this project's own)
abbrev pub most_rows : ℕ
most_rows = 4096

-- The bytes are the spellings of these rows, one row after another; each begins on a byte. No bytes are no rows.
abbrev pub Table : List ℕ → List FieldKind → List (List Field) → Type 0
Table bytes kinds [] = bytes ≡ []
Table bytes kinds (row ∷ rows) =
    (front rest : List ℕ) × (bytes ≡ front ++ rest) × Spelled kinds front row × Table rest kinds rows

-- ---- the rows of bytes, worked out; `law_of_tables` says that this is the same

-- the values of runs at the front of bytes, and the bytes behind them
abbrev pub row_at : List Run → List ℕ → Option (List Field × List ℕ)
row_at [] bytes = Some ([], bytes)
row_at (run ∷ all) bytes =
    run_at run bytes >>= λ read. option_map (λ more. (read.0 ++ more.0, more.1)) (row_at all read.1)

-- the rows of bytes, where there are at most so many
unfoldable pub rows_in : ℕ → List Run → List ℕ → Option (List (List Field))
rows_in most all [] = Some []
rows_in zero all (byte ∷ bytes) = None
rows_in (suc most) all (byte ∷ bytes) =
    row_at all (byte ∷ bytes) >>= λ read. option_map (λ rows. read.0 ∷ rows) (rows_in most all read.1)

-- the rows of a table's bytes; none where they aren't whole rows, or are more than a table may have
abbrev pub table_rows : List ℕ → List FieldKind → Option (List (List Field))
table_rows bytes kinds = rows_in most_rows (runs kinds) bytes

-- ---- what is read of a table

-- the value in a row and a column, both counted from 0
abbrev pub cell_of : List (List Field) → ℕ → ℕ → Option Field
cell_of rows row column = slice_get rows row >>= λ values. slice_get values column

-- what a table has: the kinds of its columns, and its rows
pub record TableState : Type 0 where
  pub kinds : List FieldKind
  pub rows : List (List Field)

-- two values are the same
abbrev pub is_value : Field → Field → Bool
is_value (fields.Bit true) (fields.Bit other) = other
is_value (fields.Bit false) (fields.Bit other) = not other
is_value (fields.Whole number) (fields.Whole other) = int_eq number other
is_value (fields.Words text) (fields.Words other) = is_same text other
is_value value other = false

-- there is a value, and it is the one that is wanted
abbrev pub has_value : Option Field → Field → Bool
has_value None wanted = false
has_value (Some value) wanted = is_value value wanted

-- the numbers of the rows at or after one whose value in a column is the one that is wanted, in ascending order
abbrev pub rows_with : List (List Field) → ℕ → ℕ → Field → List ℕ
rows_with rows from column wanted =
    filter (λ row. has_value (cell_of rows row column) wanted) (range_with_len from (length rows - from))

-- the first of them
abbrev pub Search : List (List Field) → ℕ → ℕ → Field → ℕ → List ℕ
Search rows from column wanted limit = take limit (rows_with rows from column wanted)
