use Rattle.es_frames.proofs.StackLemmas.{set-behind}
use Rattle.es_frames.proofs.control_stack.set_value.Goals as goal

pub returns-in-Some-clause-value : goal.returns-in-Some-clause-value
returns-in-Some-clause-value c = set-behind c.args.values.now.items c.args.first c.args.place c.args.value
