-- The binary tables that a document has open (after the BinaryTable of BML, ARIB STD-B24 volume 2; the names and the
-- limits are this project's own).
use Rattle.std.specs.Prelude.{ℕ, zero, suc, ◌+◌, nat_le, nat_lt, ◌&&◌, if◌then◌else◌, pos, negsuc, ℤ, List, [], ◌∷◌, ◌++◌, length, map, Option, Some, None, option_and_then, option_map, slice_get}
use Rattle.std.specs.Option.{option_map_or}
use Rattle.binary_table.specs.Tables.{Search, TableState, cell_of, most_rows, table_rows}
use Rattle.es_values.specs.declared.numbers.Num.TheVariants.{NotANumber, Whole}
use Rattle.es_values.specs.declared.values.Value.{Value}
use Rattle.es_values.specs.declared.values.Value.TheVariants.{Number}
use Rattle.es_values.specs.Objects.{ObjectState}
use Rattle.persistent_arrays.specs.declared.fields.Field.{Field}
use Rattle.persistent_arrays.specs.declared.fields.Field.TheVariants as fields
use Rattle.persistent_arrays.specs.declared.kinds.FieldKind.{FieldKind}
use Rattle.browser_objects.specs.ArrayCalls.{field_of}

-- the tables that are open, in the order in which they were opened, and how many tries were made to open one
pub record TablesState : Type 0 where
  pub tables : List TableState
  pub tries : ℕ

-- a document begins with none
abbrev pub no_tables : TablesState
no_tables = record { tables = []; tries = 0 }

-- how many tries a document has
abbrev pub most_tries : ℕ
most_tries = 16

-- the table of these fields in some bytes
abbrev pub table_of : List ℕ → List FieldKind → Option TableState
table_of bytes kinds =
    option_map (λ rows. record { kinds = kinds; rows = rows }) (table_rows bytes kinds)

-- after a try, which opened this table or none
abbrev pub after_try : Option TableState → TablesState → TablesState
after_try None s = record s { tries = s.tries + 1 }
after_try (Some table) s = record { tables = s.tables ++ table ∷ []; tries = s.tries + 1 }

-- what a try answers: the number of the table that it opened, counted from 1, and NaN where it opened none
abbrev pub answer_of_try : Option TableState → TablesState → Value
answer_of_try None s = Number NotANumber
answer_of_try (Some table) s = Number (Whole (pos (length s.tables + 1)))

-- What a call answers and leaves that would open this table, or none: it is a try. After 16 tries there are no more, and it
-- answers NaN.
abbrev pub opening : Option TableState → TablesState → Value × TablesState
opening table s =
    if nat_lt s.tries most_tries then (answer_of_try table s, after_try table s)
    else (Number NotANumber, s)

-- the table of a number
abbrev pub table_numbered : TablesState → ℕ → Option TableState
table_numbered s zero = None
table_numbered s (suc before) = slice_get s.tables before

-- the value in a row and a column; there are none with a number below 0
abbrev pub cell_at : TableState → ℤ → ℤ → Option Field
cell_at table (pos row) (pos column) = cell_of table.rows row column
cell_at table (negsuc row) column = None
cell_at table (pos row) (negsuc column) = None

-- a limit is 1 to 4,096
abbrev pub limit_of : ℕ → Option ℕ
limit_of limit = if nat_le 1 limit && nat_le limit most_rows then Some limit else None

-- The rows at or after one whose value in a column is this one, as a field of that column has it. None where there is no
-- such column, or the value is not one of its fields.
abbrev pub rows_found : TableState → ℕ → ℕ → ℕ → List ObjectState → Value → List ℕ
rows_found table from column limit heap value =
    option_map_or (λ wanted. Search table.rows from column wanted limit)
    (option_and_then (λ kind. field_of heap kind value) (slice_get table.kinds column)) []

-- numbers of rows as values of fields
abbrev pub row_numbers : List ℕ → List Field
row_numbers rows = map (λ row. fields.Whole (pos row)) rows
