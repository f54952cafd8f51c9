use Rattle.std.proofs.Common.{length}
use Rattle.style_cascade.proofs.LookupLemmas.{IsListed}
use Rattle.style_cascade.proofs.index.Index.search_classes.Given as goal

abbrev pub invariant-classes : goal.invariant-classes
invariant-classes l = IsListed l.fn.self.numbers.names.keys l.fn.self.given.items l.fn.self.chains.chains l.fn.tag l.fn.classes l.rest l.fn.row l.row

abbrev pub decreases-classes : goal.decreases-classes
decreases-classes l = length l.rest
