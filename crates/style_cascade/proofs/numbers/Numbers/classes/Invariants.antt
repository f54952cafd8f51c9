use Rattle.std.proofs.Common.{length}
use Rattle.style_cascade.proofs.KeyLemmas.{AreListed}
use Rattle.style_cascade.proofs.numbers.Numbers.classes.Given as goal

abbrev pub invariant-classes : goal.invariant-classes
invariant-classes l = AreListed l.self.names.keys l.fn.classes l.rest l.numbers.keys

abbrev pub decreases-classes : goal.decreases-classes
decreases-classes l = length l.rest
