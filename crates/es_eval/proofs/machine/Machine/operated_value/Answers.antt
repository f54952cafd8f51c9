use Rattle.es_eval.specs.Operations.{operates}
use Rattle.es_eval.proofs.FoundLemmas.{carried-value, uncarried-value}
use Rattle.es_eval.proofs.machine.Machine.operated_value.Goals as goal

pub returns-in-Some-clause-finds : goal.returns-in-Some-clause-finds
returns-in-Some-clause-finds c programs =
    carried-value programs (operates c.args.operator c.args.left.now c.args.right.now)
    c.args.self.now c.operate.new.self c.in_ok-found.field-0 c.in-Some.found
    c.in_ok-found.ensures.value c.in-Some.is

pub returns-in-None-clause-finds : goal.returns-in-None-clause-finds
returns-in-None-clause-finds c programs =
    uncarried-value programs (operates c.args.operator c.args.left.now c.args.right.now)
    c.args.self.now c.operate.new.self c.in_ok-found.field-0
    c.in_ok-found.ensures.value c.in-None.is
