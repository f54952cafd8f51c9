use Rattle.std.proofs.Common.{ap, sym, ◌∙◌, ◌+◌, length}
use Rattle.es_values.proofs.DecimalLemmas.{decimal_digits-one, length-decimal_digits}
use Rattle.es_values.proofs.texts.+digit_count.Goals as goal

pub returns-then-number-lt10-clause-count : goal.returns-then-number-lt10-clause-count
returns-then-number-lt10-clause-count t c = sym (ap length (decimal_digits-one c.args.number c.if-number-lt10.true))

pub returns-else-number-lt10-clause-count : goal.returns-else-number-lt10-clause-count
returns-else-number-lt10-clause-count t c = ap (λ n. n + 1) c.digit_count.ensures.count ∙ length-decimal_digits c.args.number c.if-number-lt10.false
