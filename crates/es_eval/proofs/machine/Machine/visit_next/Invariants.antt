use Rattle.std.proofs.Common.{◌≡◌, ◌-◌}
use Rattle.std.specs.Prelude.{vec_len}
use Rattle.es_eval.specs.Actions.{Next}
use Rattle.es_eval.specs.devices.Machines.{world_of}
use Rattle.es_eval.specs.Rows.{Completion}
use Rattle.es_eval.specs.devices.Works.{turns, visit_task}
use Rattle.es_eval.proofs.machine.Machine.visit_next.Given as goal

abbrev pub invariant-names : goal.invariant-names
invariant-names l = record {
  machine : l.self ≡ l.fn.self;
  object : l.visit.object ≡ l.fn.visit.object;
  run : (next : Next Completion)
      → turns l.programs (visit_task l.programs l.visit) (world_of l.programs l.self) next
      ≡ turns l.programs (visit_task l.programs l.fn.visit) (world_of l.programs l.self) next;
}

abbrev pub decreases-names : goal.decreases-names
decreases-names l = vec_len l.visit.names - l.visit.next
