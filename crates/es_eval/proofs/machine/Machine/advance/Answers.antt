use Rattle.std.proofs.Common.{subst, sym}
use Rattle.std.specs.Result.{IfOk}
use Rattle.std.proofs.lemmas.Result.{IfOk-weaker}
use Rattle.es_values.specs.Heaps.{IsLive}
use Rattle.es_eval.specs.declared.works.Now.{Now}
use Rattle.es_eval.specs.devices.Machines.{IsNextLive, run_from, values_of_callee}
use Rattle.es_eval.specs.devices.Leading.{LeadsTo}
use Rattle.es_eval.proofs.CallArms.{all_behind}
use Rattle.es_eval.proofs.machine.Machine.advance.Goals as goal

pub call_callee-requires-clause-given : goal.call_callee-requires-clause-given
call_callee-requires-clause-given g c =
    all_behind (IsLive c.args.self.now.heap) (values_of_callee c.in-Applies.callee)
    c.in-Applies.args.items (subst (λ (next : Now). IsNextLive c.args.self.now next)
    c.in-Applies.is c.requires.live)

pub returns-in-Reads-clause-leads : goal.returns-in-Reads-clause-leads
returns-in-Reads-clause-leads g c =
    subst (λ (asked : Now). IfOk c.read_host.result (λ next.
    LeadsTo g.H.Host.reads g.H.Host.writes g.H.Host.calls
    (run_from c.args.programs.now c.args.self.now next) c.read_host.new.host
    (run_from c.args.programs.now c.args.self.now asked) c.args.host.now)) (sym c.in-Reads.is)
    (IfOk-weaker c.read_host.result _ _ (λ next leads. leads c.args.programs.now)
    c.read_host.ensures.leads)

pub returns-in-Writes-clause-leads : goal.returns-in-Writes-clause-leads
returns-in-Writes-clause-leads g c =
    subst (λ (asked : Now). IfOk c.write_host.result (λ next.
    LeadsTo g.H.Host.reads g.H.Host.writes g.H.Host.calls
    (run_from c.args.programs.now c.args.self.now next) c.write_host.new.host
    (run_from c.args.programs.now c.args.self.now asked) c.args.host.now)) (sym c.in-Writes.is)
    (IfOk-weaker c.write_host.result _ _ (λ next leads. leads c.args.programs.now)
    c.write_host.ensures.leads)

pub returns-in-Calls-clause-leads : goal.returns-in-Calls-clause-leads
returns-in-Calls-clause-leads g c =
    subst (λ (asked : Now). IfOk c.ask_host.result (λ next.
    LeadsTo g.H.Host.reads g.H.Host.writes g.H.Host.calls
    (run_from c.args.programs.now c.ask_host.new.self next) c.ask_host.new.host
    (run_from c.args.programs.now c.args.self.now asked) c.args.host.now)) (sym c.in-Calls.is)
    (IfOk-weaker c.ask_host.result _ _ (λ next leads. leads c.args.programs.now)
    c.ask_host.ensures.leads)
