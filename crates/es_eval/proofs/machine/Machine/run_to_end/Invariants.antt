use Rattle.std.proofs.Common.{◌≡◌}
use Rattle.es_eval.specs.devices.Machines.{IsNextLive, run_from, weight}
use Rattle.es_eval.specs.devices.Leading.{LeadsTo}
use Rattle.es_eval.proofs.machine.Machine.run_to_end.Given as goal

-- each end from here is one from the start
abbrev pub invariant-script : goal.invariant-script
invariant-script g l = record {
  programs : l.programs ≡ l.initial.programs;
  live : IsNextLive l.self l.now;
  leads : LeadsTo g.H.Host.reads g.H.Host.writes g.H.Host.calls
      (run_from l.programs l.self l.now) l.host
      (run_from l.initial.programs l.initial.self l.fn.first) l.initial.host;
}

abbrev pub decreases-script : goal.decreases-script
decreases-script g l = weight l.self l.now
