-- A table has the rows of its bytes.
use Rattle.std.proofs.Common.{◌≡◌, ℕ, zero, suc, ◌+◌, ◌^◌, ◌<◌, ◌≤◌, List, [], ◌∷◌, length, Option, Some, None, ◌⊎◌, inl, inr, refl, sym, ap, subst, ◌∙◌, arith}
use Rattle.std.specs.Prelude.{All, option_map, map, slice_get, unwrap_or}
use Rattle.std.specs.Int.{div_ceil}
use Rattle.std.proofs.lemmas.Bool.{cases_lt}
use Rattle.std.proofs.lemmas.List.Elements.{All-head, All-tail}
use Rattle.std.proofs.lemmas.Option.{same_Some, none-some, slice_get-map}
use Rattle.bml_bytes.specs.Fields.{◌>>=◌}
use Rattle.persistent_arrays.specs.declared.fields.Field.{Field}
use Rattle.persistent_arrays.specs.declared.kinds.FieldKind.{FieldKind}
use Rattle.persistent_arrays.specs.declared.kinds.FieldKind.TheVariants.{Bit, Unsigned, Signed, Fixed, Varying}
use Rattle.persistent_arrays.specs.Reading.{runs}
use Rattle.persistent_arrays.specs.Structures.{IsKind, IsStructure}
use Rattle.binary_table.specs.declared.columns.Column.{Column}
use Rattle.binary_table.specs.declared.layouts.Row.{Row}
use Rattle.binary_table.specs.Tables.{Table, cell_of, rows_in, table_rows}
use Rattle.binary_table.specs.devices.Layouts.{columns_from}
use Rattle.binary_table.specs.devices.Places.{look, rests}
use Rattle.binary_table.specs.devices.Shown.{IsShown, IsWhole, all_there, kinds_of, rows_of, seen}
use Rattle.binary_table.proofs.RowLemmas.{HaveOwnBytes, rows-read, rows-spelled}

-- ---- columns and kinds
kinds-are : (varying offset count : ℕ) (kinds : List FieldKind) → kinds_of (columns_from varying offset count kinds) ≡ kinds
kinds-are varying offset count [] = refl
kinds-are varying offset count (Bit ∷ kinds) = ap (λ (l : List FieldKind). Bit ∷ l) (kinds-are varying offset (suc count) kinds)
kinds-are varying offset count (Unsigned size ∷ kinds) = ap (λ (l : List FieldKind). Unsigned size ∷ l) (kinds-are varying (offset + div_ceil count 8 + size) 0 kinds)
kinds-are varying offset count (Signed size ∷ kinds) = ap (λ (l : List FieldKind). Signed size ∷ l) (kinds-are varying (offset + div_ceil count 8 + size) 0 kinds)
kinds-are varying offset count (Fixed size ∷ kinds) = ap (λ (l : List FieldKind). Fixed size ∷ l) (kinds-are varying (offset + div_ceil count 8 + size) 0 kinds)
kinds-are varying offset count (Varying ∷ kinds) = ap (λ (l : List FieldKind). Varying ∷ l) (kinds-are (suc varying) 0 0 kinds)

map-count : {A B : Type 0} (f : A → B) (xs : List A) → length (map f xs) ≡ length xs
map-count f [] = refl
map-count f (x ∷ xs) = ap suc (map-count f xs)

columns-count : (kinds : List FieldKind) → length (columns_from 0 0 0 kinds) ≡ length kinds
columns-count kinds = sym (map-count (λ (column : Column). column.kind) (columns_from 0 0 0 kinds)) ∙ ap length (kinds-are 0 0 0 kinds)

all-at : (columns : List Column) → All IsKind (kinds_of columns) → (place : ℕ) (column : Column) → slice_get columns place ≡ Some column → IsKind column.kind
all-at [] h place column e = absurd (none-some column e)
all-at (first ∷ columns) h zero column e = subst (λ (c : Column). IsKind c.kind) (same_Some first column e) (All-head IsKind first.kind (kinds_of columns) h)
all-at (first ∷ columns) h (suc place) column e = all-at columns (All-tail IsKind first.kind (kinds_of columns) h) place column e

-- ---- cells
cell-one : (places : List (List ℕ)) (value : Option Field) (column : Option Column) → option_map (λ (value : Field). Some value) value ≡ option_map (look places) column → value ≡ (column >>= look places)
cell-one places None None e = refl
cell-one places None (Some column) e = absurd (none-some (look places column) e)
cell-one places (Some value) None e = absurd (none-some (Some value) (sym e))
cell-one places (Some value) (Some column) e = same_Some (Some value) (look places column) e

row-cells : (places : List (List ℕ)) (values : List Field) (columns : List Column) (place : ℕ) → all_there values ≡ map (look places) columns → slice_get values place ≡ (slice_get columns place >>= look places)
row-cells places values columns place e =
    cell-one places (slice_get values place) (slice_get columns place)
    (sym (slice_get-map (λ (value : Field). Some value) values place) ∙ ap (λ (l : List (Option Field)). slice_get l place) e ∙ slice_get-map (look places) columns place)

cells-one : (columns : List Column) (bytes : List ℕ) (place : ℕ) (values : Option (List Field)) (row : Option Row) → option_map all_there values ≡ option_map (seen columns bytes) row
    → (values >>= λ found. slice_get found place) ≡ (row >>= λ found. slice_get columns place >>= look (rests bytes found.places.items))
cells-one columns bytes place None None e = refl
cells-one columns bytes place None (Some row) e = absurd (none-some (seen columns bytes row) e)
cells-one columns bytes place (Some values) None e = absurd (none-some (all_there values) (sym e))
cells-one columns bytes place (Some values) (Some row) e = row-cells (rests bytes row.places.items) values columns place (same_Some (all_there values) (seen columns bytes row) e)

cells : (columns : List Column) (bytes : List ℕ) (rows : List Row) (shown : List (List Field)) → map all_there shown ≡ map (seen columns bytes) rows → (row column : ℕ)
    → cell_of shown row column ≡ (slice_get rows row >>= λ found. slice_get columns column >>= look (rests bytes found.places.items))
cells columns bytes rows shown e row column =
    cells-one columns bytes column (slice_get shown row) (slice_get rows row)
    (sym (slice_get-map all_there shown row) ∙ ap (λ (l : List (List (Option Field))). slice_get l row) e ∙ slice_get-map (seen columns bytes) rows row)

rows-are : (kinds : List FieldKind) (bytes : List ℕ) (shown : List (List Field)) → rows_in 4096 (runs kinds) bytes ≡ Some shown → rows_of (columns_from 0 0 0 kinds) bytes ≡ shown
rows-are kinds bytes shown e =
    ap (λ (k : List FieldKind). unwrap_or (rows_in 4096 (runs k) bytes) []) (kinds-are 0 0 0 kinds) ∙ ap (λ (found : Option (List (List Field))). unwrap_or found []) e

-- ---- what a table keeps
whole-from : (owns : HaveOwnBytes) (kinds : List FieldKind) (bytes : List ℕ) (rows : List Row) → IsStructure kinds → length kinds < 2 ^ 32 → IsShown 4096 kinds bytes (Some rows) → IsWhole (columns_from 0 0 0 kinds) bytes rows
whole-from owns kinds bytes rows s few_kinds h =
    let columns_are = columns-count kinds in
    let same : rows_of (columns_from 0 0 0 kinds) bytes ≡ h.0 = rows-are kinds bytes h.0 h.1 in
    let few = (rows-spelled owns 4096 kinds bytes h.0 h.1).1 in
    let count : length h.0 ≡ length rows = sym (map-count all_there h.0) ∙ ap length h.2 ∙ map-count (seen (columns_from 0 0 0 kinds) bytes) rows in
    record {
      cells = λ row column. ap (λ (l : List (List Field)). cell_of l row column) same ∙ cells (columns_from 0 0 0 kinds) bytes rows h.0 h.2 row column;
      count = sym count ∙ ap length (sym same);
      few = omega arith;
      narrow = omega arith;
      kind = λ place. slice_get-map (λ (column : Column). column.kind) (columns_from 0 0 0 kinds) place;
      counted = map-count (λ (column : Column). column.kind) (columns_from 0 0 0 kinds);
      sizes = all-at (columns_from 0 0 0 kinds) (subst (All IsKind) (sym (kinds-are 0 0 0 kinds)) s.sizes);
    }

pub whole : (owns : HaveOwnBytes) (kinds : List FieldKind) (bytes kept : List ℕ) (columns : List Column) (rows : List Row) → IsStructure kinds → length kinds < 2 ^ 32 → columns ≡ columns_from 0 0 0 kinds → kept ≡ bytes
    → IsShown 4096 kinds bytes (Some rows) → IsWhole columns kept rows
whole owns kinds bytes kept columns rows s n e f h =
    subst (λ (c : List Column). IsWhole c kept rows) (sym e) (subst (λ (b : List ℕ). IsWhole (columns_from 0 0 0 kinds) b rows) (sym f) (whole-from owns kinds bytes rows s n h))

pub table-read : (owns : HaveOwnBytes) (kinds : List FieldKind) (bytes kept : List ℕ) (columns : List Column) (rows : List Row) → columns ≡ columns_from 0 0 0 kinds → kept ≡ bytes
    → IsShown 4096 kinds bytes (Some rows) → Table bytes kinds (rows_of columns kept) × (length (rows_of columns kept) ≤ 4096)
table-read owns kinds bytes kept columns rows e f h =
    let same : rows_of columns kept ≡ h.0 = ap (λ (c : List Column). rows_of c kept) e ∙ ap (rows_of (columns_from 0 0 0 kinds)) f ∙ rows-are kinds bytes h.0 h.1 in
    subst (λ (l : List (List Field)). Table bytes kinds l × (length l ≤ 4096)) (sym same) (rows-spelled owns 4096 kinds bytes h.0 h.1)

pub no-table : (owns : HaveOwnBytes) (kinds : List FieldKind) (bytes : List ℕ) → IsStructure kinds → rows_in 4096 (runs kinds) bytes ≡ None → (rows : List (List Field)) → Table bytes kinds rows → 4096 < length rows
no-table owns kinds bytes s e rows h = by (cases_lt 4096 (length rows))
  where
    by : (4096 < length rows) ⊎ (length rows ≤ 4096) → 4096 < length rows
    by (inl many) = many
    by (inr few) = absurd (none-some rows (sym e ∙ rows-read owns 4096 kinds bytes rows s h few))

pub kinds-known : (kinds : List FieldKind) (columns : List Column) → columns ≡ columns_from 0 0 0 kinds → kinds_of columns ≡ kinds
kinds-known kinds columns e = ap kinds_of e ∙ kinds-are 0 0 0 kinds

-- the rows, worked out
pub table-worked : (kinds : List FieldKind) (bytes kept : List ℕ) (columns : List Column) (rows : List Row) → columns ≡ columns_from 0 0 0 kinds → kept ≡ bytes
    → IsShown 4096 kinds bytes (Some rows) → Some (rows_of columns kept) ≡ table_rows bytes kinds
table-worked kinds bytes kept columns rows e f h =
    let same : rows_of columns kept ≡ h.0 = ap (λ (c : List Column). rows_of c kept) e ∙ ap (rows_of (columns_from 0 0 0 kinds)) f ∙ rows-are kinds bytes h.0 h.1 in
    ap (λ (l : List (List Field)). Some l) same ∙ sym h.1
