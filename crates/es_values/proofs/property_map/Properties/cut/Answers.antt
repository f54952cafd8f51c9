use Rattle.std.proofs.Common.{◌≡◌, ◌∙◌, arith, sym}
use Rattle.es_values.proofs.IndexLemmas.{cut-none}
use Rattle.es_values.proofs.property_map.Properties.cut.Goals as goal

pub loop-preserved : goal.loop-preserved
loop-preserved c = c.remove_last.ensures ∙ c.loop.invariant

pub returns-then-count_from-gt0 : goal.returns-then-count_from-gt0
returns-then-count_from-gt0 c = c.retain_below.ensures ∙ c.loop.invariant

pub returns-else-count_from-gt0 : goal.returns-else-count_from-gt0
returns-else-count_from-gt0 c =
    let none : c.count_from.result ≡ 0 = omega arith in
    sym (cut-none c.args.place c.loop.self (sym c.count_from.ensures ∙ none)) ∙ c.loop.invariant
