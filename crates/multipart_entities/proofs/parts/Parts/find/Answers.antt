use Rattle.std.proofs.Common.{◌∙◌, ap}
use Rattle.multipart_entities.specs.Parts.{place_of}
use Rattle.multipart_entities.proofs.NameLemmas.{get-place_of}
use Rattle.multipart_entities.proofs.parts.Parts.find.Goals as goal

pub returns : goal.returns
returns c =
    let name = c.args.name.now in
    c.copied.ensures ∙ (c.get.ensures.value ∙ (get-place_of c.self.inside.places name ∙ ap (place_of name) c.self.view_is))
