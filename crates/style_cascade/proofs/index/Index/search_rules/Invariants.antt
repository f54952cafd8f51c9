use Rattle.std.proofs.Common.{length}
use Rattle.style_cascade.proofs.LookupLemmas.{IsWalked}
use Rattle.style_cascade.proofs.index.Index.search_rules.Given as goal

abbrev pub invariant-numbers : goal.invariant-numbers
invariant-numbers l = IsWalked l.fn.self.given.items l.fn.numbers l.rest l.specificity l.state l.fn.row l.row

abbrev pub decreases-numbers : goal.decreases-numbers
decreases-numbers l = length l.rest
