use Rattle.std.proofs.Common.{◌≡◌, ◌≢◌, List, ℕ, Some, None, Ok, Err, Result, MatchResult, sym, ap, ◌∙◌, subst}
use Rattle.std.specs.Prelude.{option_map}
use Rattle.std.specs.Option.{option_copied}
use Rattle.multipart_entities.specs.declared.faults.EntityFault.{EntityFault}
use Rattle.multipart_entities.specs.declared.faults.EntityFault.TheVariants.{NoMemory}
use Rattle.multipart_entities.specs.declared.parts.Part.{Part}
use Rattle.multipart_entities.specs.Boundaries.{boundary_in}
use Rattle.multipart_entities.specs.HeadViews.{HeadValues, good_head, seen_head}
use Rattle.multipart_entities.specs.PartViews.{multipart_in}
use Rattle.multipart_entities.proofs.EntityLemmas.{entity-bad, entity-bounded, entity-only, entity-unbounded}
use Rattle.multipart_entities.proofs.entities.entity_parts.Goals as goal

pub returns-in_default-clause-parts : goal.returns-in_default-clause-parts
returns-in_default-clause-parts c = λ _. entity-bad c.args.bytes.now (sym c.read_head.ensures.head ∙ ap (option_map seen_head) c.in_default.is)

pub returns-in_default-multipart_media-clause-parts : goal.returns-in_default-multipart_media-clause-parts
returns-in_default-multipart_media-clause-parts c =
    let bytes : List ℕ = c.args.bytes.now in
    let head : HeadValues = seen_head c.in-Some.head in
    let good : good_head bytes ≡ Some head = sym c.read_head.ensures.head ∙ ap (option_map seen_head) c.in-Some.is in
    let none : multipart_in head.media ≡ None = sym c.multipart_media.ensures ∙ ap option_copied c.in_default-multipart_media.is in
    entity-only bytes head good none ∙ ap Ok (sym (c.in_ok-only_part.ensures {u = tt}).parts)

pub returns-in_default-boundary_in-clause-parts : goal.returns-in_default-boundary_in-clause-parts
returns-in_default-boundary_in-clause-parts c = λ _.
    let bytes : List ℕ = c.args.bytes.now in
    let head : HeadValues = seen_head c.in-Some.head in
    let media : List ℕ = c.in-Some-multipart_media.media.now in
    let good : good_head bytes ≡ Some head = sym c.read_head.ensures.head ∙ ap (option_map seen_head) c.in-Some.is in
    let several : multipart_in head.media ≡ Some media = sym c.multipart_media.ensures ∙ ap option_copied c.in-Some-multipart_media.is in
    entity-unbounded bytes head media good several (sym c.boundary_in.ensures ∙ ap option_copied c.in_default-boundary_in.is)

pub returns-clause-parts : goal.returns-clause-parts
returns-clause-parts c =
    let bytes : List ℕ = c.args.bytes.now in
    let head : HeadValues = seen_head c.in-Some.head in
    let media : List ℕ = c.in-Some-multipart_media.media.now in
    let boundary : List ℕ = c.in-Some-boundary_in.boundary.now in
    let good : good_head bytes ≡ Some head = sym c.read_head.ensures.head ∙ ap (option_map seen_head) c.in-Some.is in
    let several : multipart_in head.media ≡ Some media = sym c.multipart_media.ensures ∙ ap option_copied c.in-Some-multipart_media.is in
    let told : boundary_in media ≡ Some boundary = sym c.boundary_in.ensures ∙ ap option_copied c.in-Some-boundary_in.is in
    let IsTold : Result (List Part) EntityFault → Type 0 = λ x. MatchResult c.parts_between_delimiters.result (λ parts. x ≡ Ok parts) (λ fault. fault ≢ NoMemory → x ≡ Err fault) in
    subst IsTold (sym (entity-bounded bytes head media boundary good several told)) c.parts_between_delimiters.ensures.parts
