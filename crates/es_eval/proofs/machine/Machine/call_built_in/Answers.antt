use Rattle.es_builtins.specs.Methods.{method_row}
use Rattle.es_eval.proofs.CallArms.{built-call}
use Rattle.es_eval.proofs.machine.Machine.call_built_in.Goals as goal

pub returns-clause-run : goal.returns-clause-run
returns-clause-run c programs =
    let new = c.call_built_in_method.new.self in
    built-call programs c.args.self.now new
    (λ heap. method_row heap c.args.base.now c.args.key.now c.args.args.now) c.in_ok-built.built
    c.answered.result c.in_ok-built.ensures.run c.in_ok-built.ensures.stays
    (c.answered.ensures.run programs new)
