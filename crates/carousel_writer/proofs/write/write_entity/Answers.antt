use Rattle.std.proofs.Common.{◌≡◌, true, ◌∙◌, ap, sym}
use Rattle.carousel_writer.specs.GoodParts.{are_good_parts}
use Rattle.carousel_writer.specs.Entities.{entity_bytes, media_read, parts_read}
use Rattle.carousel_writer.proofs.GoodPartLaws.{boundary-can}
use Rattle.carousel_writer.proofs.write.write_entity.Goals as goal

pub returns-clause-parts : goal.returns-clause-parts
returns-clause-parts c =
    let boundary = c.args.boundary.now in
    let parts = c.args.parts.now in
    let can : are_good_parts boundary parts ≡ true = sym c.in_ok-are_good_parts.ensures.good ∙ c.if-not-branch.false in
    let same = c.as_slice.ensures.value ∙ c.in_ok-bytes.ensures (boundary-can boundary parts can) in
    ap parts_read (c.in_ok-bytes_of_entity.ensures ∙ ap (λ b. entity_bytes b parts) same) ∙ c.law_of_entities.ensures.parts boundary parts can

pub returns-clause-media : goal.returns-clause-media
returns-clause-media c =
    let boundary = c.args.boundary.now in
    let parts = c.args.parts.now in
    let can : are_good_parts boundary parts ≡ true = sym c.in_ok-are_good_parts.ensures.good ∙ c.if-not-branch.false in
    let same = c.as_slice.ensures.value ∙ c.in_ok-bytes.ensures (boundary-can boundary parts can) in
    ap (media_read boundary) (c.in_ok-bytes_of_entity.ensures ∙ ap (λ b. entity_bytes b parts) same) ∙ c.law_of_entities.ensures.media boundary parts can
