use Rattle.es_values.proofs.TurnLemmas.{change-none}
use Rattle.es_values.proofs.arrays.push_change.Goals as goal

pub returns-then-lacks : goal.returns-then-lacks
returns-then-lacks c = change-none c.args.count c.args.properties.now c.args.place c.args.changes.now.items (c.lacks.ensures c.if-lacks.true)
