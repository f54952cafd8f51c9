-- Which parts can be written as an entity (this project's own limits, so that the entity is read again as these parts).
use Rattle.std.specs.Prelude.{ℕ, ◌==◌, nat_le, Bool, true, not, ◌&&◌, ◌||◌, List, [], ◌∷◌, ◌++◌, length, is_none, codes as ascii}
use Rattle.std.specs.List.{list_all, list_any}
use Rattle.bml_bytes.specs.Codes.{bytes_of, codes}
use Rattle.bml_bytes.specs.Words.{is_same}
use Rattle.multipart_entities.specs.Lines.{behind_first}
use Rattle.multipart_entities.specs.Entities.{most_body_parts}
use Rattle.carousel_writer.specs.declared.files.FilePart.{FilePart}

-- ---- one part

-- the text is the codes of its own bytes
abbrev pub is_own : List ℕ → Bool
is_own text = is_same (codes (bytes_of text)) text

-- no code below 0x21, and no `/`
abbrev pub is_name_code : ℕ → Bool
is_name_code code = nat_le 0x21 code && not (code == 0x2F)

abbrev pub is_name : List ℕ → Bool
is_name name = nat_le 1 (length name) && (nat_le (length name) 64 && (list_all is_name_code name && is_own name))

abbrev pub is_media_code : ℕ → Bool
is_media_code code = nat_le 0x20 code

abbrev pub is_media : List ℕ → Bool
is_media media = list_all is_media_code media && is_own media

-- the word stands nowhere in the bytes
abbrev pub is_outside : List ℕ → List ℕ → Bool
is_outside word bytes = is_none (behind_first word bytes)

-- a part, where its bytes may not have this word
abbrev pub is_part : List ℕ → FilePart → Bool
is_part word part = is_name part.name && (is_media part.media && is_outside word part.bytes.items)

-- ---- all of them

-- a letter or a digit
abbrev pub is_boundary_code : ℕ → Bool
is_boundary_code code =
    (nat_le 0x30 code && nat_le code 0x39) || ((nat_le 0x41 code && nat_le code 0x5A) || (nat_le 0x61 code && nat_le code 0x7A))

abbrev pub is_boundary : List ℕ → Bool
is_boundary boundary = nat_le 1 (length boundary) && (nat_le (length boundary) 60 && list_all is_boundary_code boundary)

-- no two parts have one name
abbrev pub have_own_names : List FilePart → Bool
have_own_names [] = true
have_own_names (part ∷ parts) = not (list_any (λ other. is_same other.name part.name) parts) && have_own_names parts

-- the boundary and the number of parts are allowed, and no two parts have one name
abbrev pub is_good_list : List ℕ → List FilePart → Bool
is_good_list boundary parts =
    is_boundary boundary && (nat_le 1 (length parts) && (nat_le (length parts) most_body_parts && have_own_names parts))

-- and so is each part
abbrev pub are_good_parts : List ℕ → List FilePart → Bool
are_good_parts boundary parts = is_good_list boundary parts && list_all (is_part (ascii "--" ++ boundary)) parts
