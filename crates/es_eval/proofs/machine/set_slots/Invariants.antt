use Rattle.std.proofs.Common.{◌≡◌, length}
use Rattle.es_eval.specs.devices.Slots.{with_values}
use Rattle.es_eval.proofs.machine.set_slots.Given as goal

abbrev pub invariant-loop-value : goal.invariant-loop-value
invariant-loop-value l = record {
  done : l.frames ≡ with_values l.initial.frames 0 l.yielded;
  counted : l.place ≡ length l.yielded;
}
