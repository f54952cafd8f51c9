use Rattle.std.proofs.Common.{◌≡◌, true, ap}
use Rattle.es_values.specs.Heaps.{is_length}
use Rattle.bml_bytes.specs.Codes.{codes}
use Rattle.es_builtins.proofs.HeapLemmas.{length-put}
use Rattle.es_builtins.proofs.function_rows.array_of_length.Goals as goal

pub returns-clause-added : goal.returns-clause-added
unfolding codes
returns-clause-added c =
    let is_name : is_length c.in_ok-name.name ≡ true = ap is_length (c.in_ok-name.ensures {u = tt}) in
    let added = (c.in_ok-array.ensures {u = tt}).added in
    let number = (c.in_ok-array.ensures {u = tt}).number in
    let put = (c.in_ok-put.ensures {u = tt}).ok in
    let step = length-put c.args.heap.now c.in_ok-name.name c.args.number is_name in
    cc
