use Rattle.std.proofs.Common.{arith}
use Rattle.es_shapes.specs.Sources.{signed_by_mark, signed_by_word}
use Rattle.es_shapes.proofs.ShapeLemmas.{first-of_one}
use Rattle.es_shapes.proofs.expression_shapes.prefix.Goals as goal

pub returns-in-Some-Mark-Some : goal.returns-in-Some-Mark-Some
returns-in-Some-Mark-Some c =
    grind (
      arith,
      first-of_one (signed_by_mark c.in-Some-Mark-Some.mark) _ _ _ c.in-Some-Mark-Some.ensures.part,
      c.signed_by.ensures c.args.programs.now c.args.code,
    )

pub returns-in-Some-Word-Some : goal.returns-in-Some-Word-Some
returns-in-Some-Word-Some c =
    grind (
      arith,
      first-of_one (signed_by_word c.in-Some-Word-Some.word) _ _ _ c.in-Some-Word-Some.ensures.part,
      c.worded_by.ensures c.args.programs.now c.args.code,
    )
