-- The entity of some parts (MIME, RFC 2046, 5.1.1; the entities of ARIB STD-B24, volume 2), and what is read of it.
use Rattle.std.specs.Prelude.{ℕ, List, [], ◌∷◌, ◌++◌, map, Option, option_and_then, Result, codes as ascii}
use Rattle.std.specs.List.{slice_range}
use Rattle.std.specs.Result.{result_map_both}
use Rattle.bml_bytes.specs.Codes.{bytes_of}
use Rattle.multipart_entities.specs.declared.parts.Part.{Part}
use Rattle.multipart_entities.specs.declared.faults.EntityFault.{EntityFault}
use Rattle.multipart_entities.specs.Lines.{line_then, lines_of}
use Rattle.multipart_entities.specs.Heads.{head_in, media_of}
use Rattle.multipart_entities.specs.Boundaries.{placed_delimiters}
use Rattle.multipart_entities.specs.Entities.{BodyPart, body_parts}
use Rattle.multipart_entities.specs.Parts.{named_parts}
use Rattle.carousel_writer.specs.declared.files.FilePart.{FilePart}

-- ---- its bytes

-- a body part: its two header lines, the empty line and its bytes
abbrev pub part_bytes : FilePart → List ℕ
part_bytes part =
    line_then (ascii "Content-Type: " ++ bytes_of part.media)
    (line_then (ascii "Content-Location: " ++ bytes_of part.name) (line_then [] part.bytes.items))

-- each body part behind a delimiter line, and the last delimiter line, which is ended too
abbrev pub body_bytes : List ℕ → List (List ℕ) → List ℕ
body_bytes boundary [] = line_then (ascii "--" ++ (boundary ++ ascii "--")) []
body_bytes boundary (part ∷ parts) = line_then (ascii "--" ++ boundary) (line_then part (body_bytes boundary parts))

-- the one header line of the entity
abbrev pub first_line : List ℕ → List ℕ
first_line boundary = ascii "Content-Type: multipart/mixed; boundary=" ++ (34 ∷ (boundary ++ 34 ∷ []))

abbrev pub entity_bytes : List ℕ → List FilePart → List ℕ
entity_bytes boundary parts = line_then (first_line boundary) (line_then [] (body_bytes boundary (map part_bytes parts)))

-- ---- what is read of it

-- the name and the bytes of a part
abbrev pub part_seen : List ℕ → Part → List ℕ × List ℕ
part_seen bytes part = (part.name, slice_range bytes part.start part.end)

abbrev pub parts_read : List ℕ → Result (List (List ℕ × List ℕ)) EntityFault
parts_read bytes = result_map_both (map (part_seen bytes)) (λ fault. fault) (named_parts bytes)

abbrev pub file_seen : FilePart → List ℕ × List ℕ
file_seen part = (part.name, part.bytes.items)

-- the media type that the head of a body part tells, and that of each body part between the delimiter lines
abbrev pub media_in : List ℕ → BodyPart → Option (List ℕ)
media_in bytes body_part = option_and_then media_of (head_in (lines_of (slice_range bytes body_part.start body_part.end)))

abbrev pub media_read : List ℕ → List ℕ → List (Option (List ℕ))
media_read boundary bytes = map (media_in bytes) (body_parts (placed_delimiters boundary 0 bytes))
