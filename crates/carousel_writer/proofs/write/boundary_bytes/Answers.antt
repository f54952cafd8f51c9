use Rattle.std.proofs.Common.{◌++◌, ◌∙◌, ap}
use Rattle.bml_bytes.specs.Codes.{bytes_of}
use Rattle.carousel_writer.proofs.GoodPartLaws.{boundary-itself}
use Rattle.carousel_writer.proofs.write.boundary_bytes.Goals as goal

pub returns : goal.returns
returns c h = c.in_ok-push_bytes.ensures.ok ∙ (ap (λ l. l ++ bytes_of c.args.boundary.now) c.new-bytes.ensures.items ∙ boundary-itself c.args.boundary.now h)
