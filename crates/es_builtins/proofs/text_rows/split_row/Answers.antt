use Rattle.std.proofs.Common.{length}
use Rattle.es_builtins.proofs.PartLemmas.{live-texts}
use Rattle.es_builtins.proofs.text_rows.split_row.Goals as goal

pub add_array-requires : goal.add_array-requires
add_array-requires c = live-texts (length c.args.heap.now) _ c.in_ok-parts.parts.items (c.in_ok-parts.ensures {u = tt})
