use Rattle.es_eval.proofs.CallArms.{host-run, no_host-run}
use Rattle.es_eval.proofs.machine.Machine.call_host.Goals as goal

pub returns-then-charge_conversions-clause-run : goal.returns-then-charge_conversions-clause-run
returns-then-charge_conversions-clause-run c programs =
    host-run programs c.args.self.now c.charge_conversions.new.self c.args.base c.args.key
    c.args.args.items c.deref.result.now c.charge_conversions.result c.deref.ensures.value
    c.charge_conversions.ensures.charge c.if-charge_conversions.true c.charge_conversions.ensures.stays

pub returns-else-charge_conversions-clause-run : goal.returns-else-charge_conversions-clause-run
returns-else-charge_conversions-clause-run c programs =
    no_host-run programs c.args.self.now c.charge_conversions.new.self c.args.base c.args.key
    c.args.args.items c.deref.result.now c.charge_conversions.result c.stopped.result
    c.deref.ensures.value c.charge_conversions.ensures.charge c.if-charge_conversions.false
    c.stopped.ensures
