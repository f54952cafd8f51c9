use Rattle.browser_objects.proofs.LongTextLemmas.{refused-long}
use Rattle.browser_objects.proofs.array_fields.is_long.Goals as goal

pub returns : goal.returns
returns c = refused-long c.args.heap.now c.args.value.now c.charge_conversion.result c.charge_conversion.ensures.answer
