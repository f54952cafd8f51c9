use Rattle.std.proofs.Common.{◌++◌, ◌∷◌, ◌∙◌, ap}
use Rattle.std.specs.Prelude.{codes as ascii}
use Rattle.bml_bytes.specs.Codes.{bytes_of}
use Rattle.carousel_writer.proofs.GoodPartLaws.{boundary-itself}
use Rattle.carousel_writer.proofs.good_parts.dashed.Goals as goal

pub returns : goal.returns
returns c h =
    c.in_ok-push_bytes.ensures.ok
    ∙ (ap (λ l. l ++ bytes_of c.args.boundary.now) (c.in_ok-extend_from_slice.ensures.items ∙ ap (λ l. l ++ ascii "--") c.new-word.ensures.items)
    ∙ ap (λ l. 45 ∷ 45 ∷ l) (boundary-itself c.args.boundary.now h))
