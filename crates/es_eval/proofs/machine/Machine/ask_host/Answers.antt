use Rattle.std.proofs.Common.{List, refl, subst, sym}
use Rattle.es_values.specs.declared.values.Value.{Value}
use Rattle.es_values.specs.Hosts.{KeepsHeap}
use Rattle.es_eval.specs.declared.works.Now.TheVariants as now
use Rattle.es_eval.specs.devices.Machines.{MachineState, run_from}
use Rattle.es_eval.specs.devices.Leading.{LeadsTo}
use Rattle.es_eval.proofs.HostLemmas.{leads-call, leads-same, less-behind, machine-with-heap}
use Rattle.es_eval.proofs.machine.Machine.ask_host.Goals as goal

pub invariant_of-self : goal.invariant_of-self
invariant_of-self g c =
    machine-with-heap _ c.call.new.heap c.self.invariant c.call.ensures.heap.objects

pub returns-clause-leads : goal.returns-clause-leads
returns-clause-leads g c programs =
    let called = c.in_ok-answer in
    let inside = c.self.inside in
    let asked = now.Calls c.args.base c.args.name c.args.args in
    let m : MachineState = record {
      globals = inside.globals;
      heap = inside.heap;
      frames = inside.frames;
      left = inside.steps.left;
    } in
    let run = run_from programs c.args.self.now asked in
    leads-call g.H.Host.reads g.H.Host.writes g.H.Host.calls programs m asked run c.args.host.now
    c.args.host.now
    (subst (λ (m : MachineState). LeadsTo g.H.Host.reads g.H.Host.writes g.H.Host.calls
    (run_from programs m asked) c.args.host.now run c.args.host.now) (sym c.self.view_is)
    (leads-same g.H.Host.reads g.H.Host.writes g.H.Host.calls run run c.args.host.now refl))
    c.args.base c.args.name c.args.args called.answer c.call.new.heap c.next_behind.result
    c.call.new.self refl
    (subst (λ (args : List Value). g.H.Host.calls c.args.host.now c.args.base c.args.name args
    inside.heap called.answer c.call.new.self c.call.new.heap)
    c.deref.ensures.value called.ensures.called)
    called.ensures.answer
    (subst (λ (args : List Value). KeepsHeap inside.heap args c.call.new.heap)
    c.deref.ensures.value c.call.ensures.heap) c.next_behind.ensures.sound
    c.next_behind.ensures.next

pub returns-clause-less : goal.returns-clause-less
returns-clause-less g c =
    less-behind c.args.self.now _ c.call.new.heap c.args.base c.args.name c.args.args
    c.in_ok-answer.answer (now.Calls c.args.base c.args.name c.args.args) c.next_behind.result
    c.self.view_is refl c.next_behind.ensures.next
