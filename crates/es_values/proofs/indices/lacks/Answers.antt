use Rattle.std.proofs.Common.{◌∙◌, sym}
use Rattle.es_values.proofs.IndexLemmas.{kept-absent, not-true}
use Rattle.es_values.proofs.indices.lacks.Goals as goal

pub returns-in-Some : goal.returns-in-Some
returns-in-Some c h properties are small =
    kept-absent c.law_of_decimals.ensures.number c.args.kept.now c.in-Some.indices.now c.args.index properties (sym c.in-Some.ensures.value) (sym c.contains.ensures ∙ not-true c.contains.result h) are small
