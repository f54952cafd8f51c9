use Rattle.std.proofs.Common.{length}
use Rattle.persistent_arrays.proofs.SpellingLemmas.{SpellsSoFar}
use Rattle.persistent_arrays.proofs.structures.Structure.read.Given as goal

abbrev pub invariant-kinds : goal.invariant-kinds
invariant-kinds l = SpellsSoFar l.text l.kinds.items l.left

abbrev pub decreases-kinds : goal.decreases-kinds
decreases-kinds l = length l.left
