use Rattle.std.proofs.Common.{refl, subst}
use Rattle.es_eval.specs.declared.works.Now.TheVariants as now
use Rattle.es_eval.specs.devices.Machines.{MachineState, run_from}
use Rattle.es_eval.proofs.HostLemmas.{leads-same, leads-write}
use Rattle.es_eval.proofs.machine.Machine.write_host.Goals as goal

pub returns-clause-leads : goal.returns-clause-leads
returns-clause-leads g c programs =
    let asked = now.Writes c.args.base c.args.name c.args.written in
    let run = run_from programs c.args.self.now asked in
    leads-write g.H.Host.reads g.H.Host.writes g.H.Host.calls programs c.args.self.now asked run
    c.args.host.now c.args.host.now
    (leads-same g.H.Host.reads g.H.Host.writes g.H.Host.calls run run c.args.host.now refl)
    c.args.base c.args.name c.args.written c.value.result c.set.new.self refl
    (subst (λ (m : MachineState). g.H.Host.writes c.args.host.now c.args.base c.args.name
    c.args.written m.heap c.set.new.self) c.self.view_is c.in_ok-set.ensures)
    c.value.ensures
