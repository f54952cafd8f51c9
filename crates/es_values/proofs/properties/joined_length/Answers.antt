use Rattle.std.proofs.Common.{◌∙◌, ◌*◌, ◌-◌, ◌^◌, ap, sym}
use Rattle.std.specs.Prelude.{min}
use Rattle.es_values.proofs.JoinLemmas.{capped-length}
use Rattle.es_values.proofs.properties.joined_length.Goals as goal

pub returns : goal.returns
returns c text e =
    let count = c.args.count in
    capped-length c.args.properties.now text count c.from-separators.result c.saturating_mul.result c.elements_length.result c.saturating_add.result (c.from-separators.ensures ∙ c.saturating_sub.ensures)
    (c.saturating_mul.ensures ∙ ap (λ n. min (c.from-separators.result * n) (2 ^ 64 - 1)) (sym e)) c.elements_length.ensures c.saturating_add.ensures
