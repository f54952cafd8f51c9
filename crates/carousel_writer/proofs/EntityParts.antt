-- The parts of the entity are the parts given.
use Rattle.std.proofs.Common.{◌≡◌, ℕ, ◌+◌, List, [], ◌∷◌, ◌++◌, length, map, Some, refl, sym, ◌∙◌, ap, arith}
use Rattle.std.specs.Prelude.{option_and_then, codes as ascii}
use Rattle.std.specs.List.{All, cons_option, filter_map, slice_range}
use Rattle.std.proofs.lemmas.List.{append_assoc, length-append}
use Rattle.std.proofs.lemmas.List.Elements.{All-head, All-tail}
use Rattle.bml_bytes.specs.Codes.{bytes_of}
use Rattle.multipart_entities.specs.declared.parts.Part.{Part}
use Rattle.multipart_entities.specs.Lines.{lines_of, line_then, without_blanks}
use Rattle.carousel_writer.proofs.EntityForms.{CanBePart, body_places}
use Rattle.carousel_writer.specs.Entities.{body_bytes, file_seen, part_bytes, part_seen, media_in}
use Rattle.multipart_entities.specs.Heads.{head_in, media_of}
use Rattle.multipart_entities.specs.Entities.{BodyPart, part_behind, part_between}
use Rattle.carousel_writer.specs.declared.files.FilePart.{FilePart}
use Rattle.carousel_writer.proofs.BodyPlaces.{front-length, front-line, slice-at}
use Rattle.carousel_writer.proofs.PartHeads.{head_of, location_line, part_head, part_is, part_media, type_line}
use Rattle.carousel_writer.specs.devices.LawsBelow.{EntityLaws}

-- ---- one part

abbrev pub size_of : FilePart → ℕ
size_of part = (head_of (bytes_of part.media) (bytes_of part.name)).size

abbrev pub found_at : ℕ → FilePart → Part
found_at start part = record { name = part.name; start = start + size_of part; end = start + length (part_bytes part) }

between-is : EntityLaws → (boundary whole : List ℕ) (part : FilePart) (start end : ℕ) → CanBePart boundary part → slice_range whole start end ≡ part_bytes part → part_between whole start end ≡ Some (record { name = part.name; start = start + size_of part; end = end })
unfolding part_between
between-is laws boundary whole part start end can e = ap (λ l. part_behind start end (head_in (lines_of l))) e ∙ part_is laws boundary part can start end

media-is : EntityLaws → (boundary whole : List ℕ) (part : FilePart) (start end : ℕ) → CanBePart boundary part → slice_range whole start end ≡ part_bytes part → media_in whole (record { start = start; end = end }) ≡ Some (without_blanks (bytes_of part.media))
media-is laws boundary whole part start end can e =
    ap (λ l. option_and_then media_of (head_in (lines_of l))) e ∙ (ap (option_and_then media_of) (part_head laws boundary part can) ∙ part_media laws boundary part can)

-- the head's bytes
abbrev head_bytes : FilePart → List ℕ
head_bytes part = (line_then (type_line (bytes_of part.media)) [] ++ line_then (location_line (bytes_of part.name)) []) ++ line_then [] []

part-bytes : (part : FilePart) → part_bytes part ≡ head_bytes part ++ part.bytes.items
part-bytes part =
    let a = type_line (bytes_of part.media) in
    let b = location_line (bytes_of part.name) in
    let items = part.bytes.items in
    front-line [] a (line_then b (line_then [] items)) ∙ (front-line (line_then a []) b (line_then [] items) ∙ front-line (line_then a [] ++ line_then b []) [] items)

head-size : (part : FilePart) → length (head_bytes part) ≡ size_of part
head-size part =
    let a = type_line (bytes_of part.media) in
    let b = location_line (bytes_of part.name) in
    let e : length (line_then a []) ≡ length (let none : List ℕ = [] in none) + length a + 2 = front-length [] a in
    let f : length (line_then a [] ++ line_then b []) ≡ length (line_then a []) + length b + 2 = front-length (line_then a []) b in
    let g : length (head_bytes part) ≡ length (line_then a [] ++ line_then b []) + 0 + 2 = front-length (line_then a [] ++ line_then b []) [] in
    omega (arith, e, f, g)

-- the part's own bytes
own-slice : (front rest whole : List ℕ) (part : FilePart) (start : ℕ) → whole ≡ front ++ (part_bytes part ++ rest) → start ≡ length front → slice_range whole (start + size_of part) (start + length (part_bytes part)) ≡ part.bytes.items
own-slice front rest whole part start e f =
    let items = part.bytes.items in
    let apart : whole ≡ (front ++ head_bytes part) ++ (items ++ rest) =
    e ∙ (ap (λ l. front ++ (l ++ rest)) (part-bytes part) ∙ (ap (λ l. front ++ l) (append_assoc (head_bytes part) items rest) ∙ sym (append_assoc front (head_bytes part) (items ++ rest)))) in
    let n : length (front ++ head_bytes part) ≡ length front + length (head_bytes part) = length-append front (head_bytes part) in
    let m = head-size part in
    let k : length (part_bytes part) ≡ length (head_bytes part) + length items = ap length (part-bytes part) ∙ length-append (head_bytes part) items in
    ap (λ l. slice_range l (start + size_of part) (start + length (part_bytes part))) apart
    ∙ slice-at (front ++ head_bytes part) items rest (start + size_of part) (start + length (part_bytes part)) (omega (arith, n, m, f)) (omega (arith, n, m, f, k))

-- ---- all parts

abbrev pub found_from : List ℕ → ℕ → List FilePart → List Part
found_from boundary place [] = []
found_from boundary place (part ∷ parts) =
    found_at (place + length (ascii "--" ++ boundary) + 2) part ∷ found_from boundary (place + length (ascii "--" ++ boundary) + 2 + length (part_bytes part) + 2) parts

pub record Found (boundary whole : List ℕ) (place : ℕ) (parts : List FilePart) : Type 0 where
  pub parts_are : filter_map (λ (one : BodyPart). part_between whole one.start one.end) (body_places boundary place (map part_bytes parts)) ≡ found_from boundary place parts
  pub seen : map (part_seen whole) (found_from boundary place parts) ≡ map file_seen parts
  pub media : map (media_in whole) (body_places boundary place (map part_bytes parts)) ≡ map (λ (part : FilePart). Some (without_blanks (bytes_of part.media))) parts

found-cons : EntityLaws → (boundary whole front rest : List ℕ) (place : ℕ) (part : FilePart) (parts : List FilePart) → CanBePart boundary part → whole ≡ front ++ (part_bytes part ++ rest) → place + length (ascii "--" ++ boundary) + 2 ≡ length front
    → Found boundary whole (place + length (ascii "--" ++ boundary) + 2 + length (part_bytes part) + 2) parts → Found boundary whole place (part ∷ parts)
found-cons laws boundary whole front rest place part parts can e f h =
    let start : ℕ = place + length (ascii "--" ++ boundary) + 2 in
    let end : ℕ = start + length (part_bytes part) in
    let slice : slice_range whole start end ≡ part_bytes part =
    ap (λ l. slice_range l start end) e ∙ slice-at front (part_bytes part) rest start end f (ap (λ (k : ℕ). k + length (part_bytes part)) f) in
    record {
      parts_are =
          ap (λ o. cons_option o (filter_map (λ (one : BodyPart). part_between whole one.start one.end) (body_places boundary (end + 2) (map part_bytes parts)))) (between-is laws boundary whole part start end can slice)
          ∙ ap (λ l. found_at start part ∷ l) h.parts_are;
      seen =
          ap (λ (bytes : List ℕ). (part.name, bytes) ∷ map (part_seen whole) (found_from boundary (end + 2) parts)) (own-slice front rest whole part start e f)
          ∙ ap (λ l. file_seen part ∷ l) h.seen;
      media =
          ap (λ o. o ∷ map (media_in whole) (body_places boundary (end + 2) (map part_bytes parts))) (media-is laws boundary whole part start end can slice)
          ∙ ap (λ l. Some (without_blanks (bytes_of part.media)) ∷ l) h.media;
    }

pub found-all : EntityLaws → (boundary whole before : List ℕ) (place : ℕ) (parts : List FilePart) → All (CanBePart boundary) parts → whole ≡ before ++ body_bytes boundary (map part_bytes parts) → place ≡ length before → Found boundary whole place parts
found-all laws boundary whole before place [] can e f = record { parts_are = refl; seen = refl; media = refl }
found-all laws boundary whole before place (part ∷ parts) can e f =
    let line : List ℕ = ascii "--" ++ boundary in
    let body : List ℕ = body_bytes boundary (map part_bytes parts) in
    let end : List ℕ = 13 ∷ 10 ∷ [] in
    let front : List ℕ = before ++ line_then line [] in
    let first : whole ≡ front ++ line_then (part_bytes part) body = e ∙ front-line before line (line_then (part_bytes part) body) in
    let behind : List ℕ = front ++ line_then (part_bytes part) [] in
    let second : whole ≡ behind ++ body = first ∙ front-line front (part_bytes part) body in
    let n : length front ≡ length before + length line + 2 = front-length before line in
    let m : length behind ≡ length front + length (part_bytes part) + 2 = front-length front (part_bytes part) in
    found-cons laws boundary whole front (13 ∷ 10 ∷ body) place part parts (All-head (CanBePart boundary) part parts can) first (omega (arith, n, f))
    (found-all laws boundary whole behind (place + length line + 2 + length (part_bytes part) + 2) parts (All-tail (CanBePart boundary) part parts can) second (omega (arith, n, m, f)))
