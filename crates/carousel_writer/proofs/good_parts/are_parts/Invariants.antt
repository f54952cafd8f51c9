use Rattle.std.proofs.Common.{◌≡◌, length}
use Rattle.std.specs.List.{list_all}
use Rattle.carousel_writer.specs.GoodParts.{is_part}
use Rattle.carousel_writer.proofs.good_parts.are_parts.Given as goal

abbrev pub invariant-parts : goal.invariant-parts
invariant-parts l = list_all (is_part l.word) l.rest ≡ list_all (is_part l.word) l.parts

abbrev pub decreases-parts : goal.decreases-parts
decreases-parts l = length l.rest
