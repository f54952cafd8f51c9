use Rattle.std.proofs.Common.{sym, ◌∙◌}
use Rattle.persistent_arrays.proofs.FieldLemmas.{zero-left, other-left}
use Rattle.persistent_arrays.proofs.reading.without_last_zeros.Goals as goal

pub zeros-preserved : goal.zeros-preserved
zeros-preserved c = zero-left c.in-Some.front.now c.in-Some.last.now c.zeros.left.now c.in-Some.ensures.cases.0 c.if-last-ne0.false ∙ c.zeros.invariant

pub returns-then-last-ne0 : goal.returns-then-last-ne0
returns-then-last-ne0 c = sym (other-left c.in-Some.front.now c.in-Some.last.now c.zeros.left.now c.in-Some.ensures.cases.0 c.if-last-ne0.true) ∙ c.zeros.invariant
