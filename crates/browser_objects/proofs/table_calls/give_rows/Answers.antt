use Rattle.std.proofs.lemmas.List.Elements.{All-same}
use Rattle.es_values.specs.Heaps.{IsLive}
use Rattle.browser_objects.specs.OpenTables.{row_numbers}
use Rattle.browser_objects.proofs.ArrayLemmas.{fields-live}
use Rattle.browser_objects.proofs.table_calls.give_rows.Goals as goal

pub add_array-requires : goal.add_array-requires
add_array-requires c =
    All-same (IsLive c.args.heap.now) c.in_ok-values.values.items _ c.in_ok-values.ensures (fields-live c.args.heap.now (row_numbers c.args.rows.items))
