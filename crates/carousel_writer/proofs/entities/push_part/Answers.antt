use Rattle.std.specs.Prelude.{◌++◌, codes as ascii}
use Rattle.std.proofs.Common.{◌∙◌, ap}
use Rattle.bml_bytes.specs.Codes.{bytes_of}
use Rattle.carousel_writer.proofs.EntityAppends.{part-pushed}
use Rattle.carousel_writer.proofs.entities.push_part.Goals as goal

pub returns : goal.returns
returns c =
    part-pushed c.args.out.now.items _ _ _ _ (ascii "Content-Type: " ++ bytes_of c.args.part.now.media) (ascii "Content-Location: " ++ bytes_of c.args.part.now.name) c.args.part.now.bytes.items
    c.in_ok-push_header.ensures c.in_ok-push_header-2.ensures c.in_ok-extend_from_slice.ensures.items (c.in_ok-extend_from_slice-2.ensures.items ∙ ap (λ l. c.extend_from_slice.new.self.items ++ l) c.as_slice.ensures.value)
