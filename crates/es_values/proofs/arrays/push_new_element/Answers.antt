use Rattle.es_values.proofs.TurnLemmas.{new-none}
use Rattle.es_values.proofs.arrays.push_new_element.Goals as goal

pub returns-then-lacks : goal.returns-then-lacks
returns-then-lacks c = new-none c.args.properties.now c.args.place c.args.other c.args.added.now.items (c.lacks.ensures c.if-lacks.true)
