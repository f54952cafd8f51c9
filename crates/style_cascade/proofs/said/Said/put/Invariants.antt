use Rattle.style_cascade.proofs.SaidLemmas.{IsPut}
use Rattle.style_cascade.proofs.said.Said.put.Given as goal

abbrev pub invariant-properties : goal.invariant-properties
invariant-properties l = IsPut l.fn.self l.node.0 l.state l.fn.table l.table l.index
