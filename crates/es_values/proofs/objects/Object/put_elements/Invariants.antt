use Rattle.std.proofs.Common.{◌≡◌, length}
use Rattle.es_values.specs.Arrays.{with_elements}
use Rattle.es_values.proofs.objects.Object.put_elements.Given as goal

abbrev pub invariant-loop-element : goal.invariant-loop-element
invariant-loop-element l = record {
  done : l.self ≡ with_elements l.initial.self 0 l.yielded;
  counted : l.place ≡ length l.yielded;
}
