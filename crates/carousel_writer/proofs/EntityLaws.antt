-- The written entity reads as its parts.
use Rattle.std.proofs.Common.{◌≡◌, ◌≢◌, ℕ, ◌+◌, ◌≤◌, Bool, true, false, cond, not, nat_eq, List, [], ◌∷◌, ◌++◌, length, drop, map, Some, Ok, Err, refl, ◌∙◌, ap, arith}
use Rattle.std.specs.Prelude.{filter, nat_lt, codes as ascii}
use Rattle.std.specs.List.{All, filter_map}
use Rattle.std.specs.Result.{result_map_both}
use Rattle.std.specs.Cmp.Lexicographic.{pointwise}
use Rattle.std.proofs.lemmas.Bool.Decides.{nat_tests}
use Rattle.std.proofs.lemmas.List.{length-map}
use Rattle.std.proofs.lemmas.List.Elements.{All-head, All-tail, All-map}
use Rattle.std.proofs.Math.Seq.{drop-append_seam}
use Rattle.multipart_entities.specs.declared.faults.EntityFault.TheVariants.{TooManyParts}
use Rattle.multipart_entities.specs.declared.parts.Part.{Part}
use Rattle.multipart_entities.specs.Entities.{BodyPart, body_parts, entity, part_between, parts_among, parts_by, parts_up_to, up_to_last}
use Rattle.multipart_entities.specs.Parts.{first_of_each, is_named, named_parts}
use Rattle.carousel_writer.specs.declared.files.FilePart.{FilePart}
use Rattle.carousel_writer.proofs.EntityForms.{CanBeBoundary, CanBePart, HaveOwnNames, IsClear, body_places, written_delimiters}
use Rattle.carousel_writer.specs.Entities.{body_bytes, entity_bytes, first_line, file_seen, media_in, media_read, part_bytes, part_seen, parts_read}
use Rattle.multipart_entities.specs.Boundaries.{placed_delimiters}
use Rattle.multipart_entities.specs.Lines.{line_then, without_blanks}
use Rattle.carousel_writer.proofs.EntityDelimiters.{clear-none, clear-other, delims-body}
use Rattle.carousel_writer.specs.devices.LawsBelow.{EntityLaws}
use Rattle.bml_bytes.specs.Codes.{bytes_of}
use Rattle.carousel_writer.proofs.BodyPlaces.{front-length, front-line, parts-places, places-count, up_to-all}
use Rattle.carousel_writer.proofs.PartHeads.{part_clear}
use Rattle.carousel_writer.proofs.EntityHead.{boundary-word, entity-is, entity_head, first-word}
use Rattle.carousel_writer.proofs.EntityParts.{Found, found-all, found_from}

-- ---- parts with names of their own

other-by : (t : Bool) → (t ≡ true → ⊥) → t ≡ false
other-by true h = absurd (h refl)
other-by false h = refl

unnamed : EntityLaws → (name other : List ℕ) → other ≢ name → pointwise nat_eq other name ≡ false
unnamed laws name other h = other-by (pointwise nat_eq other name) (λ t. h ((laws.same other name).0 t))

kept : EntityLaws → (boundary name : List ℕ) (place : ℕ) (parts : List FilePart) → All (λ other. other ≢ name) (map (λ (part : FilePart). part.name) parts) → filter (λ other. not (is_named name other)) (found_from boundary place parts) ≡ found_from boundary place parts
kept laws boundary name place [] h = refl
kept laws boundary name place (part ∷ parts) h =
    let start : ℕ = place + length (ascii "--" ++ boundary) + 2 in
    let names : List (List ℕ) = map (λ (part : FilePart). part.name) parts in
    let rest : List Part = filter (λ other. not (is_named name other)) (found_from boundary (start + length (part_bytes part) + 2) parts) in
    rw (unnamed laws name part.name (All-head (λ other. other ≢ name) part.name names h), kept laws boundary name (start + length (part_bytes part) + 2) parts (All-tail (λ other. other ≢ name) part.name names h)) refl

first-all : EntityLaws → (boundary : List ℕ) (place : ℕ) (parts : List FilePart) → HaveOwnNames (map (λ (part : FilePart). part.name) parts) → first_of_each (found_from boundary place parts) ≡ found_from boundary place parts
unfolding first_of_each
first-all laws boundary place [] h = refl
first-all laws boundary place (part ∷ parts) h =
    let start : ℕ = place + length (ascii "--" ++ boundary) + 2 in
    rw (first-all laws boundary (start + length (part_bytes part) + 2) parts h.1, kept laws boundary part.name (start + length (part_bytes part) + 2) parts h.0) refl

-- ---- the parts between the delimiters

few : (n : ℕ) → n ≤ 512 → nat_lt 512 n ≡ false
few n h = grind (arith, nat_tests)

among : (whole : List ℕ) (found : List BodyPart) → length found ≤ 512 → parts_among whole found ≡ Ok (filter_map (λ (one : BodyPart). part_between whole one.start one.end) found)
among whole found h = ap (λ t. cond t (Err TooManyParts) (Ok (filter_map (λ (one : BodyPart). part_between whole one.start one.end) found))) (few (length found) h)

by-is : EntityLaws → (boundary whole body : List ℕ) (place : ℕ) (parts : List FilePart) → drop place whole ≡ body → body ≡ body_bytes boundary (map part_bytes parts) → CanBeBoundary boundary → All (CanBePart boundary) parts → length parts ≤ 512 → Found boundary whole place parts
    → parts_by whole place (Some boundary) ≡ Ok (found_from boundary place parts)
by-is laws boundary whole body place parts d b can cans most found =
    let pieces : List (List ℕ) = map part_bytes parts in
    let clear : All (IsClear boundary) pieces = All-map (IsClear boundary) part_bytes parts (λ k q below. part_clear laws boundary _ (cans k q below)) in
    let count : length (body_places boundary place pieces) ≤ 512 = let e = places-count boundary place pieces in let f : length pieces ≡ length parts = length-map parts part_bytes in omega (arith, e, f, most) in
    ap (λ l. parts_up_to whole (up_to_last (placed_delimiters boundary place l))) (d ∙ b)
    ∙ (ap (λ l. parts_up_to whole (up_to_last l)) (delims-body laws boundary pieces place (boundary-word boundary can) clear)
    ∙ (ap (parts_up_to whole) (up_to-all boundary place pieces)
    ∙ (ap (parts_among whole) (parts-places boundary place pieces)
    ∙ (among whole (body_places boundary place pieces) count ∙ ap Ok found.parts_are))))

-- ---- the entity

abbrev pub parts_found : List ℕ → List FilePart → List Part
parts_found boundary parts = found_from boundary (entity_head boundary).size parts

record Placed (boundary whole body : List ℕ) : Type 0 where
  front : List ℕ
  is_it : whole ≡ front ++ body
  size : (entity_head boundary).size ≡ length front

placed : (boundary body : List ℕ) → Placed boundary (line_then (first_line boundary) (line_then [] body)) body
placed boundary body =
    let line : List ℕ = first_line boundary in
    let none : List ℕ = [] in
    let e : length (line_then line none) ≡ length none + length line + 2 = front-length none line in
    let f : length (line_then line none ++ line_then none none) ≡ length (line_then line none) + length none + 2 = front-length (line_then line none) none in
    record {
      front = line_then line none ++ line_then none none;
      is_it = front-line none line (line_then none body) ∙ front-line (line_then line none) none body;
      size = omega (arith, e, f);
    }

pub found-in : EntityLaws → (boundary : List ℕ) (parts : List FilePart) → All (CanBePart boundary) parts → Found boundary (entity_bytes boundary parts) (entity_head boundary).size parts
found-in laws boundary parts cans =
    let p = placed boundary (body_bytes boundary (map part_bytes parts)) in
    found-all laws boundary (entity_bytes boundary parts) p.front (entity_head boundary).size parts cans p.is_it p.size

pub entity-written : EntityLaws → (boundary : List ℕ) (parts : List FilePart) → CanBeBoundary boundary → All (CanBePart boundary) parts → length parts ≤ 512 → entity (entity_bytes boundary parts) ≡ Ok (parts_found boundary parts)
entity-written laws boundary parts can cans few =
    let body : List ℕ = body_bytes boundary (map part_bytes parts) in
    let p = placed boundary body in
    let behind : drop (entity_head boundary).size (entity_bytes boundary parts) ≡ body =
    ap (λ k. drop k (entity_bytes boundary parts)) p.size ∙ (ap (drop (length p.front)) p.is_it ∙ drop-append_seam p.front body) in
    entity-is laws boundary body can ∙ by-is laws boundary (entity_bytes boundary parts) body (entity_head boundary).size parts behind refl can cans few (found-in laws boundary parts cans)

pub parts-written : EntityLaws → (boundary : List ℕ) (parts : List FilePart) → CanBeBoundary boundary → All (CanBePart boundary) parts → length parts ≤ 512 → HaveOwnNames (map (λ (part : FilePart). part.name) parts)
    → parts_read (entity_bytes boundary parts) ≡ Ok (map file_seen parts)
parts-written laws boundary parts can cans few own =
    let bytes : List ℕ = entity_bytes boundary parts in
    let named : named_parts bytes ≡ Ok (parts_found boundary parts) =
    ap (result_map_both first_of_each (λ fault. fault)) (entity-written laws boundary parts can cans few) ∙ ap Ok (first-all laws boundary (entity_head boundary).size parts own) in
    ap (result_map_both (map (part_seen bytes)) (λ fault. fault)) named ∙ ap Ok ((found-in laws boundary parts cans).seen)

-- ---- the media types

-- the delimiter lines of the whole are those of its body
whole-delimiters : EntityLaws → (boundary : List ℕ) (parts : List FilePart) → CanBeBoundary boundary → All (CanBePart boundary) parts
    → placed_delimiters boundary 0 (entity_bytes boundary parts) ≡ written_delimiters boundary (entity_head boundary).size (map part_bytes parts)
whole-delimiters laws boundary parts can cans =
    let pieces : List (List ℕ) = map part_bytes parts in
    let line : List ℕ = first_line boundary in
    let none : List ℕ = [] in
    let body : List ℕ = body_bytes boundary pieces in
    let clear : All (IsClear boundary) pieces = All-map (IsClear boundary) part_bytes parts (λ k q below. part_clear laws boundary _ (cans k q below)) in
    let size : 0 + length line + 2 + length none + 2 ≡ (entity_head boundary).size = omega arith in
    laws.both boundary line (line_then none body) 0
    ∙ (ap (λ l. l ++ placed_delimiters boundary (0 + length line + 2) (line_then none body)) (clear-other laws boundary (ascii "ontent-Type: multipart/mixed; boundary=\"" ++ (boundary ++ 34 ∷ [])) (first-word boundary can) 0)
    ∙ (laws.both boundary none body (0 + length line + 2)
    ∙ (ap (λ l. l ++ placed_delimiters boundary (0 + length line + 2 + length none + 2) body) (clear-none laws boundary (0 + length line + 2))
    ∙ (ap (λ n. placed_delimiters boundary n body) size
    ∙ delims-body laws boundary pieces (entity_head boundary).size (boundary-word boundary can) clear))))

pub media-written : EntityLaws → (boundary : List ℕ) (parts : List FilePart) → CanBeBoundary boundary → All (CanBePart boundary) parts
    → media_read boundary (entity_bytes boundary parts) ≡ map (λ (part : FilePart). Some (without_blanks (bytes_of part.media))) parts
media-written laws boundary parts can cans =
    ap (λ l. map (media_in (entity_bytes boundary parts)) (body_parts l)) (whole-delimiters laws boundary parts can cans)
    ∙ (ap (map (media_in (entity_bytes boundary parts))) (parts-places boundary (entity_head boundary).size (map part_bytes parts))
    ∙ (found-in laws boundary parts cans).media)
