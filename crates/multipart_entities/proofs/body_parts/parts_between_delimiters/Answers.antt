use Rattle.std.proofs.Common.{List, ℕ, [], ◌∷◌, ◌++◌, All, sym, subst, arith}
use Rattle.std.proofs.lemmas.Bool.{not-true}
use Rattle.multipart_entities.specs.Boundaries.{Delimiter}
use Rattle.multipart_entities.specs.BoundaryViews.{delimiters_from, seen_delimiter}
use Rattle.multipart_entities.specs.PartViews.{IsWithin}
use Rattle.multipart_entities.specs.declared.parts.Part.{Part}
use Rattle.multipart_entities.proofs.BodyPartLemmas.{body_part_between, body_parts_of, reads-first, reads-next}
use Rattle.multipart_entities.proofs.body_parts.parts_between_delimiters.Goals as goal

pub body_parts-init : goal.body_parts-init
body_parts-init c =
    let boundary : List ℕ = c.args.boundary.now in
    let bytes : List ℕ = c.args.bytes.now in
    let one : Delimiter = seen_delimiter c.in-Some.delimiter in
    let is = c.in-Some.ensures {u = tt} in
    let within : All (IsWithin bytes) c.new-body_parts.result.parts = subst (λ (l : List Part). All (IsWithin bytes) l) (sym c.new-body_parts.ensures.parts) (λ k d h. absurd (omega arith)) in
    ([], reads-first (delimiters_from boundary bytes c.args.place) one (delimiters_from boundary bytes one.next) is.found, c.new-body_parts.ensures.stands bytes, within, omega (arith, is.next), is.inside)

pub body_parts-preserved : goal.body_parts-preserved
body_parts-preserved c =
    let boundary : List ℕ = c.args.boundary.now in
    let bytes : List ℕ = c.args.bytes.now in
    let one : Delimiter = seen_delimiter c.body_parts.delimiter in
    let two : Delimiter = seen_delimiter c.in-Some-next_delimiter.next in
    let i = c.body_parts.invariant in
    let is = c.in-Some-next_delimiter.ensures {u = tt} in
    let read = c.in_ok-read.ensures {u = tt} in (
      i.0 ++ body_part_between one two ∷ [],
      reads-next (body_parts_of (delimiters_from boundary bytes c.args.place)) i.0 one two (delimiters_from boundary bytes one.next) (delimiters_from boundary bytes two.next) i.1 (not-true one.last c.body_parts-test.true) is.found,
      read.stands (omega (arith, is.start)) i.0 i.2,
      read.inside i.3,
      omega (arith, is.next),
      is.inside,
    )
