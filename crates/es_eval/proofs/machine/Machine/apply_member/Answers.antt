use Rattle.es_eval.proofs.ApplyLemmas.{built_reached}
use Rattle.es_eval.proofs.machine.Machine.apply_member.Goals as goal

pub returns : goal.returns
returns c programs =
    built_reached programs c.args.base c.args.key c.args.given.items c.args.self.now
    c.call_built_in_method.new.self c.in_ok-built.built c.reached_of.result c.args.held.now
    (c.in_ok-is_built_in.ensures c.if-not-branch.false)
    (rw c.deref.ensures.value at c.in_ok-built.ensures.run)
    c.in_ok-built.ensures.live c.call_built_in_method.ensures.stays c.requires.held
    c.reached_of.ensures
