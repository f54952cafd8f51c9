use Rattle.std.proofs.Common.{◌≤◌, length, rules, subst}
use Rattle.es_eval.proofs.MachineLemmas.{machine_with_item, put-more, put-rest, put-world}
use Rattle.es_eval.proofs.machine.Machine.put.Goals as goal

pub invariant_of-self-2 : goal.invariant_of-self-2
invariant_of-self-2 c =
    machine_with_item _ _ c.args.item c.self.invariant
    (rw (← c.self.view_is) at c.requires) c.in_ok-put.ensures.ok

pub returns-clause-frames : goal.returns-clause-frames
returns-clause-frames c = search rules

pub returns-clause-rest : goal.returns-clause-rest
returns-clause-rest c =
    put-rest c.args.self.now _ c.args.item (returns-clause-frames c)
    (subst (λ m. 1 ≤ length m.frames) c.self.view_is c.self.invariant.some)

pub returns-clause-world : goal.returns-clause-world
returns-clause-world c = put-world c.args.self.now _ c.args.item (returns-clause-frames c)

pub returns-clause-more : goal.returns-clause-more
returns-clause-more c =
    put-more c.args.self.now _ c.args.item (returns-clause-frames c)
    (subst (λ m. 1 ≤ length m.frames) c.self.view_is c.self.invariant.some)
