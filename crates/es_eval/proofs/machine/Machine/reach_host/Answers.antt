use Rattle.std.proofs.Common.{refl}
use Rattle.es_values.specs.Charges.{conversion_charge}
use Rattle.es_values.specs.declared.values.Value.TheVariants.{Host}
use Rattle.es_eval.specs.declared.works.Now.TheVariants as now
use Rattle.es_eval.specs.Members.{write_to_host}
use Rattle.es_eval.proofs.ReachLemmas.{paid_stopped, paid_write}
use Rattle.es_eval.proofs.machine.Machine.reach_host.Goals as goal

pub returns-then-not-charge_conversion : goal.returns-then-not-charge_conversion
returns-then-not-charge_conversion c programs =
    paid_stopped programs (write_to_host (Host c.args.reference) c.args.key c.args.given)
    c.args.self.now c.charge_conversion.new.self (λ heap. conversion_charge heap c.args.given)
    c.charge_conversion.result c.args.held.now c.charge_conversion.ensures.charge
    c.if-not-charge_conversion.true c.charge_conversion.ensures.stays

pub returns : goal.returns
returns c programs =
    paid_write programs c.args.self.now c.charge_conversion.new.self
    (λ heap. conversion_charge heap c.args.given) c.charge_conversion.result (record c.args.held.now { next = now.Writes c.args.reference c.args.key c.args.given })
    c.args.reference c.args.key c.args.given c.charge_conversion.ensures.charge
    c.if-not-charge_conversion.false c.charge_conversion.ensures.stays c.requires.given
    c.requires.held refl
