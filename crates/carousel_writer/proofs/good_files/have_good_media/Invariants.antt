use Rattle.std.proofs.Common.{◌≡◌, length}
use Rattle.std.specs.List.{list_all}
use Rattle.carousel_writer.specs.GoodFiles.{has_good_media}
use Rattle.carousel_writer.proofs.good_files.have_good_media.Given as goal

abbrev pub invariant-modules : goal.invariant-modules
invariant-modules l = list_all has_good_media l.rest ≡ list_all has_good_media l.modules

abbrev pub decreases-modules : goal.decreases-modules
decreases-modules l = length l.rest
