-- Tokens: bytes, marks, and the sections that they make behind an open piece.
use Rattle.std.proofs.Common.{◌≡◌, ℕ, true, false, List, [], ◌∷◌, ◌++◌, take, drop, map, refl, sym, ap, append_assoc, Option, Some, None}
use Rattle.std.specs.List.{flat_map}
use Rattle.ts_sections.specs.Sections.{Token, Byte, Mark, bytes_to_mark, pieces, section_size, begins_whole, sections_of_piece}
use Rattle.ts_sections.specs.devices.Ahead.{Tokens, in_front, sections_of_open, sections_of_tokens, sections_from}
use Rattle.ts_sections.proofs.PieceLemmas.{sections_of_piece-whole}

pub bytes_to_mark-bytes : (bytes : List ℕ) (tokens : List Token) → bytes_to_mark (map Byte bytes ++ tokens) ≡ bytes ++ bytes_to_mark tokens
bytes_to_mark-bytes [] tokens = refl
bytes_to_mark-bytes (b ∷ bs) tokens = ap (λ x. b ∷ x) (bytes_to_mark-bytes bs tokens)

pub pieces-bytes : (bytes : List ℕ) (tokens : List Token) → pieces (map Byte bytes ++ tokens) ≡ pieces tokens
pieces-bytes [] tokens = refl
pieces-bytes (b ∷ bs) tokens = pieces-bytes bs tokens

pub in_front-twice : (first second : List Token) (behind : Tokens) → in_front true first (in_front true second behind) ≡ in_front true (first ++ second) behind
in_front-twice first second behind = ap (λ x. record { present = x; later = behind.later }) (sym (append_assoc first second behind.present))

-- bytes in front go on with the open piece
pub sections_from-bytes : (piece bytes : List ℕ) (behind : Tokens) → sections_from (Some piece) (in_front true (map Byte bytes) behind) ≡ sections_from (Some (piece ++ bytes)) behind
sections_from-bytes piece bytes behind =
    rw (bytes_to_mark-bytes bytes behind.present, pieces-bytes bytes behind.present, ← append_assoc piece bytes (bytes_to_mark behind.present)) refl

-- bytes in front of the next mark are unread where no piece is open
pub sections_from-unread : (bytes : List ℕ) (behind : Tokens) → sections_from None (in_front true (map Byte bytes) behind) ≡ sections_from None behind
sections_from-unread bytes behind = rw (pieces-bytes bytes behind.present) refl

-- a mark ends the open piece and begins another
pub sections_from-mark : (piece : Option (List ℕ)) (behind : Tokens) → sections_of_open piece [] ≡ [] → sections_from piece (in_front true (Mark ∷ []) behind) ≡ sections_from (Some []) behind
sections_from-mark piece behind e =
    rw e (append_assoc (sections_of_piece (bytes_to_mark behind.present)) (sections_of_tokens behind.present) (flat_map sections_of_tokens behind.later))

-- so does a new run
pub sections_from-run : (piece : Option (List ℕ)) (tokens : List Token) (behind : Tokens) → sections_of_open piece [] ≡ [] → sections_from piece (in_front false tokens behind) ≡ sections_from None (in_front true tokens behind)
sections_from-run piece tokens behind e = rw e refl

-- a whole section in the open piece is the first to give
pub sections_from-whole : (piece : List ℕ) (behind : Tokens) → begins_whole piece ≡ true → sections_from (Some piece) behind ≡ take (section_size piece) piece ∷ sections_from (Some (drop (section_size piece) piece)) behind
sections_from-whole piece behind h = rw (sections_of_piece-whole piece (bytes_to_mark behind.present) h) refl
