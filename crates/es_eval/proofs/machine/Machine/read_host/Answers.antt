use Rattle.std.proofs.Common.{refl}
use Rattle.es_eval.specs.declared.works.Now.TheVariants as now
use Rattle.es_eval.specs.devices.Machines.{run_from}
use Rattle.es_eval.proofs.HostLemmas.{leads-read, leads-same}
use Rattle.es_eval.proofs.machine.Machine.read_host.Goals as goal

pub returns-clause-leads : goal.returns-clause-leads
returns-clause-leads g c programs =
    let got = c.in_ok-get in
    let asked = now.Reads c.args.base c.args.name in
    let run = run_from programs c.args.self.now asked in
    leads-read g.H.Host.reads g.H.Host.writes g.H.Host.calls programs c.args.self.now asked run
    c.args.host.now c.args.host.now
    (leads-same g.H.Host.reads g.H.Host.writes g.H.Host.calls run run c.args.host.now refl)
    c.args.base c.args.name got.field-0 c.value.result c.get.new.self refl got.ensures.read
    got.ensures.plain c.value.ensures
