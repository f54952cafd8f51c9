use Rattle.std.proofs.Common.{arith, false}
use Rattle.es_shapes.specs.devices.Shapes.{shaped}
use Rattle.es_shapes.specs.Sources.{is_decrement, target_of}
use Rattle.es_shapes.specs.Syntax.{Expression}
use Rattle.es_shapes.specs.Syntax.Expression.{Stepped}
use Rattle.es_shapes.proofs.ShapeLemmas.{first-of_one}
use Rattle.es_shapes.proofs.expression_shapes.postfix.Goals as goal

pub returns-in-Some-Mark-Some : goal.returns-in-Some-Mark-Some
unfolding shaped
returns-in-Some-Mark-Some c =
    grind (
      arith,
      first-of_one (λ (operand : Expression).
          Stepped false (is_decrement c.in-Some-Mark-Some.mark) (target_of operand)) _ _ _
          c.in-Some-Mark-Some.ensures.part,
    )
