use Rattle.std.proofs.Common.{Some, None, subst, sym}
use Rattle.std.proofs.lemmas.Result.{on_ok_weaker}
use Rattle.es_eval.specs.devices.Slots.{IsSlotOf}
use Rattle.es_eval.proofs.MachineLemmas.{machine_with_globals, machine_with_value, stays-with_value, world-with_global, world-with_value}
use Rattle.es_eval.proofs.NameLemmas.{live_written}
use Rattle.es_eval.proofs.machine.Machine.write_name.Goals as goal

pub invariant_of-self : goal.invariant_of-self
invariant_of-self c =
    machine_with_value _ _ c.in-Some.place c.args.value c.set_slot.ensures.value c.self.invariant
    (rw (← c.self.view_is) at c.requires)

pub invariant_of-self-in-None : goal.invariant_of-self-in-None
invariant_of-self-in-None c =
    machine_with_globals _ _ c.self.invariant
    (live_written c.self.inside.heap c.self.inside.globals c.set.new.self c.args.name.now
    c.args.value c.set.result c.set.ensures.ok c.set.ensures.err c.self.invariant.globals
    (rw (← c.self.view_is) at c.requires))

pub returns-in-Some-clause-name : goal.returns-in-Some-clause-name
returns-in-Some-clause-name c =
    let programs = c.args.programs.now in
    let name = c.args.name.now in
    let slot = subst (IsSlotOf programs c.args.self.now.frames name) c.in-Some.is
    c.in_ok-place.ensures in
    let own = subst (λ m. IsSlotOf programs m.frames name (Some c.in-Some.place))
    (sym c.self.view_is) slot in
    rw (← c.self.view_is)
    (world-with_value _ _ c.in-Some.place c.args.value c.set_slot.ensures.value programs name own)

pub returns-in-Some-clause-stays : goal.returns-in-Some-clause-stays
returns-in-Some-clause-stays c =
    rw (← c.self.view_is)
    (stays-with_value _ _ c.in-Some.place c.args.value c.set_slot.ensures.value)

pub returns-in-None-clause-name : goal.returns-in-None-clause-name
returns-in-None-clause-name c =
    let programs = c.args.programs.now in
    let name = c.args.name.now in
    let slot = subst (IsSlotOf programs c.args.self.now.frames name) c.in-None.is
    c.in_ok-place.ensures in
    let own = subst (λ m. IsSlotOf programs m.frames name None) (sym c.self.view_is) slot in
    rw (← c.self.view_is)
    (on_ok_weaker c.set.result
    (λ is. rw is (world-with_global programs _ name c.args.value own)) c.set.ensures.ok)
