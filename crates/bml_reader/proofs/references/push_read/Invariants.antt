use Rattle.std.proofs.Common.{◌≡◌, ◌++◌, length}
use Rattle.bml_reader.specs.References.{read_behind}
use Rattle.bml_reader.proofs.references.push_read.Given as goal

abbrev pub invariant-characters : goal.invariant-characters
invariant-characters l = l.out.items ++ read_behind 0 l.rest ≡ l.fn.out.items ++ read_behind 0 l.bytes

abbrev pub decreases-characters : goal.decreases-characters
decreases-characters l = length l.rest
