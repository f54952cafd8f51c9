use Rattle.std.proofs.Common.{◌<◌, ◌^◌, length}
use Rattle.std.specs.List.{All}
use Rattle.carousel_writer.proofs.good_files.ids_have_type.Given as goal

abbrev pub invariant-modules : goal.invariant-modules
invariant-modules l = All (λ file. file.id < 2 ^ 16) l.rest → All (λ file. file.id < 2 ^ 16) l.modules

abbrev pub decreases-modules : goal.decreases-modules
decreases-modules l = length l.rest
