use Rattle.std.proofs.Common.{length}
use Rattle.style_cascade.proofs.RowLemmas.{AreOffered}
use Rattle.style_cascade.proofs.rows.Row.offer_each.Given as goal

abbrev pub invariant-declarations : goal.invariant-declarations
invariant-declarations l = AreOffered l.state l.number l.specificity l.fn.declarations l.rest l.fn.self l.self

abbrev pub decreases-declarations : goal.decreases-declarations
decreases-declarations l = length l.rest
