use Rattle.std.proofs.Common.{arith}
use Rattle.es_shapes.specs.devices.Shapes.{shaped}
use Rattle.es_shapes.specs.Syntax.{Expression}
use Rattle.es_shapes.specs.Syntax.Expression.{Member}
use Rattle.es_shapes.proofs.ShapeLemmas.{first-of_one}
use Rattle.es_shapes.proofs.expression_shapes.member.Goals as goal

pub returns-in_ok-share-in-Some-Name-Some : goal.returns-in_ok-share-in-Some-Name-Some
unfolding shaped
returns-in_ok-share-in-Some-Name-Some c =
    grind (
      arith,
      first-of_one (λ (base : Expression). Member base c.in-Some-Name-Some.name) _ _ _
          c.in-Some-Name-Some.ensures.part,
    )
