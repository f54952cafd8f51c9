use Rattle.std.proofs.Common.{sym}
use Rattle.es_shapes.specs.devices.Shapes.{shaped}
use Rattle.es_shapes.specs.Syntax.Expression.{Choice}
use Rattle.es_shapes.proofs.ShapeLemmas.{third-of_three}
use Rattle.es_shapes.proofs.expression_shapes.choice.Goals as goal

pub returns-in-Some-Some : goal.returns-in-Some-Some
unfolding shaped
returns-in-Some-Some c =
    sym (third-of_three Choice _ _ _ _ _ _ c.in-Some-Some.ensures c.in-Some-Some.ensures'.part)
