use Rattle.std.proofs.Common.{◌-◌, ◌^◌}
use Rattle.es_eval.specs.devices.Held.{GoesAs, IsClear}
use Rattle.es_eval.specs.devices.Works.{declares}
use Rattle.es_eval.proofs.machine.Machine.declare_from.Given as goal

abbrev pub invariant-names : goal.invariant-names
invariant-names l = record {
  goes : GoesAs (declares l.programs l.code l.fn.first) (declares l.programs l.code l.place)
      l.programs l.fn.self l.self;
  clear : IsClear l.held;
}

abbrev pub decreases-names : goal.decreases-names
decreases-names l = 2 ^ 64 - l.place
