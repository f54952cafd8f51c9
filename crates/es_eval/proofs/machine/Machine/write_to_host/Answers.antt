use Rattle.std.proofs.Common.{refl}
use Rattle.es_values.specs.Charges.{conversion_charge}
use Rattle.es_values.specs.declared.values.Value.TheVariants.{Host}
use Rattle.es_eval.specs.declared.works.Now.TheVariants as now
use Rattle.es_eval.specs.Members.{write_to_host}
use Rattle.es_eval.proofs.ArmLemmas.{charged-run, uncharged-run}
use Rattle.es_eval.proofs.machine.Machine.write_to_host.Goals as goal

pub returns-then-not-charge_conversion-clause-run : goal.returns-then-not-charge_conversion-clause-run
returns-then-not-charge_conversion-clause-run c programs =
    uncharged-run programs c.args.self.now c.charge_conversion.new.self
    (λ heap. conversion_charge heap c.args.given) c.charge_conversion.result
    (write_to_host (Host c.args.reference) c.args.key c.args.given) c.stopped.result
    c.charge_conversion.ensures.charge c.if-not-charge_conversion.true c.stopped.ensures

pub returns-clause-run : goal.returns-clause-run
returns-clause-run c programs =
    charged-run programs c.args.self.now c.charge_conversion.new.self c.charge_conversion.new.self
    (λ heap. conversion_charge heap c.args.given) c.charge_conversion.result
    (write_to_host (Host c.args.reference) c.args.key c.args.given)
    (now.Writes c.args.reference c.args.key c.args.given)
    c.charge_conversion.ensures.charge c.if-not-charge_conversion.false
    c.charge_conversion.ensures.stays refl
