use Rattle.std.proofs.Common.{◌≡◌, length}
use Rattle.std.specs.List.{list_any}
use Rattle.bml_bytes.specs.Words.{is_same}
use Rattle.style_cascade.proofs.subjects.has_class.Given as goal

abbrev pub invariant-classes : goal.invariant-classes
invariant-classes l = list_any (is_same l.name) l.rest ≡ list_any (is_same l.name) l.fn.classes

abbrev pub decreases-classes : goal.decreases-classes
decreases-classes l = length l.rest
