use Rattle.std.proofs.Common.{◌≡◌}
use Rattle.es_values.specs.Heaps.{object_of}
use Rattle.es_values.proofs.objects.Object.of_properties.Given as goal

abbrev pub invariant-loop-name : goal.invariant-loop-name
invariant-loop-name l = l.object ≡ object_of l.yielded
