use Rattle.std.proofs.Common.{refl}
use Rattle.std.proofs.lemmas.Result.{IfOk-weaker}
use Rattle.es_values.specs.declared.values.Value.TheVariants.{Object}
use Rattle.es_eval.proofs.CallArms.{member-run}
use Rattle.es_eval.proofs.machine.Machine.call_property.Goals as goal

pub returns-in_default-clause-run : goal.returns-in_default-clause-run
returns-in_default-clause-run c =
    let programs = c.args.programs.now in
    IfOk-weaker c.call_built_in.result _ _
    (λ next on. member-run programs c.args.self.now c.call_built_in.new.self
    (Object c.args.object) c.in_ok-number.field-0 c.args.object c.args.key.now c.args.args.items
    next refl c.in_ok-number.ensures.value c.in_default.not-Function
    (rw c.deref.ensures.value at (on programs))) c.call_built_in.ensures.run
