use Rattle.std.proofs.Common.{◌≡◌, map}
use Rattle.browser_objects.specs.ArrayCalls.{value_of_field}
use Rattle.browser_objects.specs.OpenTables.{row_numbers}
use Rattle.browser_objects.proofs.table_calls.row_values.Given as goal

abbrev pub invariant-rows : goal.invariant-rows
invariant-rows l = l.values.items ≡ map value_of_field (row_numbers l.yielded)
