use Rattle.std.proofs.Common.{◌≡◌, drop}
use Rattle.es_values.specs.Heaps.{object_at}
use Rattle.browser_objects.proofs.ArrayLemmas.{behind, fields_from}
use Rattle.browser_objects.proofs.array_fields.fields_of.Given as goal

abbrev pub invariant-fields : goal.invariant-fields
invariant-fields l =
    behind l.fields.items (fields_from l.heap (object_at l.heap l.array) l.place (drop l.place l.kinds))
    ≡ fields_from l.heap (object_at l.heap l.array) 0 l.kinds
