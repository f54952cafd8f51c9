use Rattle.std.proofs.Common.{◌≡◌, ◌++◌, length, map}
use Rattle.carousel_writer.specs.Entities.{body_bytes, part_bytes}
use Rattle.carousel_writer.proofs.entities.push_body.Given as goal

abbrev pub invariant-parts : goal.invariant-parts
invariant-parts l = l.out.items ++ body_bytes l.boundary (map part_bytes l.rest) ≡ l.fn.out.items ++ body_bytes l.boundary (map part_bytes l.parts)

abbrev pub decreases-parts : goal.decreases-parts
decreases-parts l = length l.rest
