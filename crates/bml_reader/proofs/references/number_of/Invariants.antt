use Rattle.std.proofs.Common.{◌≡◌, ◌≤◌, length}
use Rattle.std.specs.Prelude.{min}
use Rattle.bml_reader.specs.References.{number_behind}
use Rattle.bml_reader.proofs.references.number_of.Given as goal

abbrev pub invariant-digits : goal.invariant-digits
invariant-digits l = (l.number ≤ 128) × (min 128 (number_behind l.base l.number l.rest) ≡ min 128 (number_behind l.base 0 l.digits))

abbrev pub decreases-digits : goal.decreases-digits
decreases-digits l = length l.rest
