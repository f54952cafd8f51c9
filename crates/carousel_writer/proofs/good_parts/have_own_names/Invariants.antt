use Rattle.std.proofs.Common.{◌≡◌, length}
use Rattle.carousel_writer.specs.GoodParts.{have_own_names}
use Rattle.carousel_writer.proofs.good_parts.have_own_names.Given as goal

abbrev pub invariant-parts : goal.invariant-parts
invariant-parts l = have_own_names l.rest ≡ have_own_names l.parts

abbrev pub decreases-parts : goal.decreases-parts
decreases-parts l = length l.rest
