use Rattle.std.proofs.Common.{◌∙◌, sym}
use Rattle.es_values.proofs.IndexLemmas.{drained, kept-count}
use Rattle.es_values.proofs.indices.indices_from.Goals as goal

pub returns : goal.returns
returns c indices are =
    drained c.range.result c.count.result c.count.ensures.ran
    ∙ kept-count c.args.kept.now c.in_ok-indices.indices.now c.args.place c.range.result (sym c.in_ok-indices.ensures.value) (c.range.ensures.between tt) indices are
