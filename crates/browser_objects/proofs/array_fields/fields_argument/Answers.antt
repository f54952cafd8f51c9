use Rattle.std.proofs.Common.{ap, sym, arith}
use Rattle.std.specs.Prelude.{option_and_then}
use Rattle.es_values.specs.Heaps.{object_at}
use Rattle.browser_objects.specs.ArrayCalls.{fields_of, values_of_array}
use Rattle.browser_objects.specs.Calls.{argument}
use Rattle.browser_objects.proofs.ArrayLemmas.{other-size}
use Rattle.browser_objects.proofs.array_fields.fields_argument.Goals.{in_default-via-in-Some+else-size-kinds, in_default-via-in_default}
use Rattle.browser_objects.proofs.array_fields.fields_argument.Goals as goal

pub returns-in_default : goal.returns-in_default
returns-in_default c =
    elim c.in_default.branch [
      | in_default-via-in-Some+else-size-kinds w ↦
          other-size c.args.heap.now c.args.kinds.now (values_of_array c.args.heap.now (argument c.args.args.now 2)) (object_at c.args.heap.now w.in-Some.array) w.in-Some.size w.in-Some.ensures.values (λ e. let other = w.if-size-kinds.false in omega arith)
      | in_default-via-in_default w ↦ ap (option_and_then (fields_of c.args.heap.now c.args.kinds.now)) (sym w.in_default.ensures.values)
    ]
