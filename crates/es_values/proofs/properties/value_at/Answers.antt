use Rattle.std.proofs.Common.{ap, sym}
use Rattle.std.specs.Prelude.{Option, unwrap_or}
use Rattle.es_values.specs.declared.values.Value.{Value}
use Rattle.es_values.specs.declared.values.Value.TheVariants.{Undefined}
use Rattle.es_values.proofs.properties.value_at.Goals as goal

pub returns-then-lacks : goal.returns-then-lacks
returns-then-lacks c = sym (ap (λ (o : Option Value). unwrap_or o Undefined) (c.lacks.ensures c.if-lacks.true))
