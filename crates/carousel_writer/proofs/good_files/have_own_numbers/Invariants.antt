use Rattle.std.proofs.Common.{◌≡◌, length}
use Rattle.carousel_writer.specs.GoodFiles.{have_own_numbers}
use Rattle.carousel_writer.proofs.good_files.have_own_numbers.Given as goal

abbrev pub invariant-modules : goal.invariant-modules
invariant-modules l = have_own_numbers l.rest ≡ have_own_numbers l.modules

abbrev pub decreases-modules : goal.decreases-modules
decreases-modules l = length l.rest
