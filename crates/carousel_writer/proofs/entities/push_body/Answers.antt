use Rattle.std.proofs.Common.{◌++◌, ◌∙◌, sym, ap, map}
use Rattle.std.specs.Prelude.{codes as ascii}
use Rattle.carousel_writer.specs.Entities.{body_bytes, part_bytes}
use Rattle.carousel_writer.proofs.EntityAppends.{piece-pushed}
use Rattle.carousel_writer.proofs.entities.push_body.Goals as goal

pub parts-preserved : goal.parts-preserved
parts-preserved c =
    let h = c.in-Some.ensures.cases in
    piece-pushed c.parts.out.items c.push_body_part.new.out.items _ (ascii "--" ++ c.args.boundary.now) (part_bytes c.in-Some.first.now) (body_bytes c.args.boundary.now (map part_bytes c.in-Some.behind.now))
    c.in_ok-push_body_part.ensures (ap (λ rest. c.parts.out.items ++ body_bytes c.args.boundary.now (map part_bytes rest)) (sym h.0) ∙ c.parts.invariant)
