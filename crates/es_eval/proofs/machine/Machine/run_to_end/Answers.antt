use Rattle.std.proofs.Common.{◌∙◌, List, subst}
use Rattle.es_reader.specs.Programs.{ToldProgram}
use Rattle.es_eval.specs.devices.Machines.{run_from, world_of}
use Rattle.es_eval.specs.Endings.{MayEnd}
use Rattle.es_eval.proofs.HostLemmas.{leads-behind, leads-in, leads-over}
use Rattle.es_eval.proofs.machine.Machine.run_to_end.Goals as goal

pub returns-in-Over : goal.returns-in-Over
returns-in-Over g c = record {
  ends = subst (λ (programs : List ToldProgram). MayEnd g.H.Host.reads g.H.Host.writes
      g.H.Host.calls (run_from c.args.programs.now c.args.self.now c.args.first) c.args.host.now
      c.in-Over.outcome (world_of programs c.script.self) c.script.host)
      c.script.invariant.programs
      (leads-over g.H.Host.reads g.H.Host.writes g.H.Host.calls c.script.programs c.script.self
      c.script.now _ c.script.host c.args.host.now c.script.invariant.leads c.in-Over.outcome
      c.in-Over.is);
}

pub script-preserved : goal.script-preserved
script-preserved g c =
    let first = run_from c.args.programs.now c.args.self.now c.args.first in
    let next = c.in_ok-now-in_default.now in
    record {
      programs = c.advance.ensures.programs ∙ c.script.invariant.programs;
      live = c.in_ok-now-in_default.ensures.live;
      leads = leads-in g.H.Host.reads g.H.Host.writes g.H.Host.calls c.advance.new.programs
          c.script.programs c.advance.new.self next c.advance.new.host first c.args.host.now
          c.advance.ensures.programs
          (leads-behind g.H.Host.reads g.H.Host.writes g.H.Host.calls
          (run_from c.script.programs c.advance.new.self next)
          (run_from c.script.programs c.script.self c.script.now) first c.advance.new.host
          c.script.host c.args.host.now c.in_ok-now-in_default.ensures.leads
          c.script.invariant.leads);
    }
