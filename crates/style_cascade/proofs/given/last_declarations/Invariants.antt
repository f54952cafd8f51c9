use Rattle.std.proofs.Common.{◌≡◌, length}
use Rattle.std.specs.Option.{option_or}
use Rattle.style_reader.specs.declared.properties.Property.{Property}
use Rattle.style_cascade.specs.Candidates.{last_value}
use Rattle.style_cascade.proofs.given.last_declarations.Given as goal

abbrev pub invariant-declarations : goal.invariant-declarations
invariant-declarations l = (property : Property) → option_or (last_value property l.found.items) (last_value property l.rest) ≡ last_value property l.fn.declarations

abbrev pub decreases-declarations : goal.decreases-declarations
decreases-declarations l = length l.rest
