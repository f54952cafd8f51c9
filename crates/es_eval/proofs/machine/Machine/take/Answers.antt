use Rattle.std.proofs.Common.{◌≤◌, length, rules, subst}
use Rattle.es_eval.proofs.MachineLemmas.{machine_without_item, take-done, take-less, take-live, take-rest, take-world}
use Rattle.es_eval.proofs.machine.Machine.take.Goals as goal

pub invariant_of-self : goal.invariant_of-self
invariant_of-self c = machine_without_item _ _ c.self.invariant c.take.ensures.without

pub returns-clause-item : goal.returns-clause-item
returns-clause-item c = search rules

pub returns-clause-live : goal.returns-clause-live
returns-clause-live c =
    take-live c.self.inside.heap c.self.inside.frames c.take.result c.self.invariant.frames
    c.take.ensures.item

pub returns-clause-without : goal.returns-clause-without
returns-clause-without c = search rules

pub returns-clause-rest : goal.returns-clause-rest
returns-clause-rest c =
    take-rest c.args.self.now _ c.take.result (returns-clause-without c) (returns-clause-item c)

pub returns-clause-done : goal.returns-clause-done
returns-clause-done c =
    take-done c.args.self.now c.take.result (returns-clause-item c)
    (subst (λ m. 1 ≤ length m.frames) c.self.view_is c.self.invariant.some)

pub returns-clause-world : goal.returns-clause-world
returns-clause-world c = take-world c.args.self.now _ (returns-clause-without c)

pub returns-clause-less : goal.returns-clause-less
returns-clause-less c =
    take-less c.args.self.now _ c.take.result (returns-clause-without c) (returns-clause-item c)
