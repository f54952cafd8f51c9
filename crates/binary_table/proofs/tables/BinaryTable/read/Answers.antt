use Rattle.std.proofs.Common.{◌≡◌, List, ◌<◌, ◌≤◌, length, None, Some, sym, subst, ◌∙◌}
use Rattle.persistent_arrays.specs.declared.fields.Field.{Field}
use Rattle.persistent_arrays.specs.declared.kinds.FieldKind.{FieldKind}
use Rattle.binary_table.specs.Tables.{Table, table_rows}
use Rattle.binary_table.specs.devices.Shown.{rows_of}
use Rattle.binary_table.proofs.TableLemmas.{kinds-known, no-table, table-read, table-worked, whole}
use Rattle.binary_table.proofs.tables.BinaryTable.read.Goals as goal

pub returns-in_default-clause-rows : goal.returns-in_default-clause-rows
returns-in_default-clause-rows c =
    let shown = rw c.in_default.is at (c.in_ok-rows.ensures c.kinds.result.now c.kinds.ensures.structure c.in_ok-layout.ensures) in
    subst (λ (kinds : List FieldKind). (rows : List (List Field)) → Table c.args.bytes.now kinds rows → 4096 < length rows) c.kinds.ensures.kinds
    (no-table c.law_of_runs.ensures c.kinds.result.now c.args.bytes.now c.kinds.ensures.structure shown)

pub invariant_of-result : goal.invariant_of-result
invariant_of-result c =
    let shown = rw c.in-Some.is at (c.in_ok-rows.ensures c.kinds.result.now c.kinds.ensures.structure c.in_ok-layout.ensures) in
    whole c.law_of_runs.ensures c.kinds.result.now c.args.bytes.now c.in_ok-kept.kept.items c.into_columns.result.items c.in-Some.rows.items
    c.kinds.ensures.structure c.kinds.ensures.few (c.into_columns.ensures ∙ c.in_ok-layout.ensures.columns) c.in_ok-kept.ensures shown

pub returns-clause-rows : goal.returns-clause-rows
returns-clause-rows c =
    let shown = rw c.in-Some.is at (c.in_ok-rows.ensures c.kinds.result.now c.kinds.ensures.structure c.in_ok-layout.ensures) in
    subst (λ (kinds : List FieldKind). Table c.args.bytes.now kinds (rows_of c.into_columns.result.items c.in_ok-kept.kept.items) × (length (rows_of c.into_columns.result.items c.in_ok-kept.kept.items) ≤ 4096)) c.kinds.ensures.kinds
    (table-read c.law_of_runs.ensures c.kinds.result.now c.args.bytes.now c.in_ok-kept.kept.items c.into_columns.result.items c.in-Some.rows.items
    (c.into_columns.ensures ∙ c.in_ok-layout.ensures.columns) c.in_ok-kept.ensures shown)

pub returns-clause-kinds : goal.returns-clause-kinds
returns-clause-kinds c = kinds-known c.kinds.result.now c.into_columns.result.items (c.into_columns.ensures ∙ c.in_ok-layout.ensures.columns) ∙ c.kinds.ensures.kinds

pub returns-in_default-clause-worked_out : goal.returns-in_default-clause-worked_out
returns-in_default-clause-worked_out c =
    let shown = rw c.in_default.is at (c.in_ok-rows.ensures c.kinds.result.now c.kinds.ensures.structure c.in_ok-layout.ensures) in
    subst (λ (kinds : List FieldKind). None ≡ table_rows c.args.bytes.now kinds) c.kinds.ensures.kinds (sym shown)

pub returns-clause-worked_out : goal.returns-clause-worked_out
returns-clause-worked_out c =
    let shown = rw c.in-Some.is at (c.in_ok-rows.ensures c.kinds.result.now c.kinds.ensures.structure c.in_ok-layout.ensures) in
    subst (λ (kinds : List FieldKind). Some (rows_of c.into_columns.result.items c.in_ok-kept.kept.items) ≡ table_rows c.args.bytes.now kinds) c.kinds.ensures.kinds
    (table-worked c.kinds.result.now c.args.bytes.now c.in_ok-kept.kept.items c.into_columns.result.items c.in-Some.rows.items (c.into_columns.ensures ∙ c.in_ok-layout.ensures.columns) c.in_ok-kept.ensures shown)
