use Rattle.std.proofs.Common.{◌≡◌, ◌⊎◌, true, length}
use Rattle.std.specs.Prelude.{is_some}
use Rattle.style_reader.specs.declared.properties.Property.{Property}
use Rattle.style_cascade.specs.Candidates.{last_value}
use Rattle.style_cascade.specs.devices.Chains.{GivesIn, IsGiving}
use Rattle.style_cascade.proofs.chains.adds.Given as goal

abbrev pub invariant-declarations : goal.invariant-declarations
invariant-declarations l = (property : Property) → IsGiving l.given l.number property → GivesIn l.given l.rules property ⊎ (is_some (last_value property l.rest) ≡ true)

abbrev pub decreases-declarations : goal.decreases-declarations
decreases-declarations l = length l.rest
