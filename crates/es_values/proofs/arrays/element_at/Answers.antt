use Rattle.std.proofs.Common.{sym}
use Rattle.es_values.proofs.arrays.element_at.Goals as goal

pub returns-then-lacks : goal.returns-then-lacks
returns-then-lacks c = sym (c.lacks.ensures c.if-lacks.true)
