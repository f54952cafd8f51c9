use Rattle.std.proofs.Common.{length}
use Rattle.es_expressions.specs.Standings.{held}
use Rattle.es_expressions.proofs.ClosingLemmas.{KeepsSettling}
use Rattle.es_expressions.proofs.closing.settle.Given as goal

abbrev pub invariant-forms : goal.invariant-forms
invariant-forms l = KeepsSettling (held l.fn.nodes l.fn.frames) l.fn.operand l.reach (held l.nodes l.frames) l.operand

abbrev pub decreases-forms : goal.decreases-forms
decreases-forms l = length l.frames
