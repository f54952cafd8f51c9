use Rattle.es_reader.specs.ExpressionFacts.{ExpressionFacts}
use Rattle.es_reader.proofs.HeadLemmas.{if-ok}
use Rattle.es_reader.proofs.LoopLemmas.{whole-told}
use Rattle.es_reader.proofs.reader.read_tokens.Goals as goal

pub returns-in-Ok-clause-whole : goal.returns-in-Ok-clause-whole
returns-in-Ok-clause-whole c =
    let ends = c.law_of_ends.ensures in
    let facts : ExpressionFacts = record { one = c.law_of_expressions.ensures; goes_on = ends.goes_on; first = ends.first; some = ends.some } in
    if-ok c.finish.result _ _
    (λ outcome o program is. let t = whole-told c.args.tokens.now _ outcome c.in-Ok.ensures.kept o program is in (t.0, t.1 facts, t.2, t.3))
    c.finish.ensures
