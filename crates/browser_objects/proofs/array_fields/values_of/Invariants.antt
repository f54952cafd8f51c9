use Rattle.std.proofs.Common.{◌≡◌, map}
use Rattle.browser_objects.specs.ArrayCalls.{value_of_field}
use Rattle.browser_objects.proofs.array_fields.values_of.Given as goal

abbrev pub invariant-fields : goal.invariant-fields
invariant-fields l = l.values.items ≡ map value_of_field l.yielded
