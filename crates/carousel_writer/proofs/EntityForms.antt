-- What is written in an entity, as the proofs speak of it.
use Rattle.std.proofs.Common.{◌≡◌, ◌≢◌, ℕ, ◌+◌, ◌≤◌, Bool, true, false, cond, List, [], ◌∷◌, ◌++◌, length, None, refl, ap, arith}
use Rattle.std.specs.Prelude.{◌&&◌, ◌==◌, codes as ascii}
use Rattle.std.specs.List.{All, onto_first}
use Rattle.bml_bytes.specs.Codes.{bytes_of, codes}
use Rattle.multipart_entities.specs.Lines.{behind_first, lines_of}
use Rattle.multipart_entities.specs.Boundaries.{Delimiter, delimiter_at, placed_delimiters}
use Rattle.multipart_entities.specs.Entities.{BodyPart}
use Rattle.carousel_writer.specs.declared.files.FilePart.{FilePart}

-- no line of it is a delimiter line
abbrev pub IsClear : List ℕ → List ℕ → Type 0
IsClear boundary bytes = (place : ℕ) → placed_delimiters boundary place bytes ≡ []

-- no controls
abbrev pub IsWord : List ℕ → Type 0
IsWord bytes = All (λ byte. 32 ≤ byte) bytes

pub word-line : (bytes : List ℕ) → IsWord bytes → All (λ byte. byte ≢ 13) bytes
word-line bytes h = λ k d b. let one = h k d b in λ e. absurd (omega (arith, one, e))

-- the delimiter lines that were written
abbrev pub written_delimiters : List ℕ → ℕ → List (List ℕ) → List Delimiter
written_delimiters boundary place [] =
    delimiter_at (record { place = place; line = ascii "--" ++ (boundary ++ ascii "--") }) true ∷ []
written_delimiters boundary place (piece ∷ pieces) =
    delimiter_at (record { place = place; line = ascii "--" ++ boundary }) false
    ∷ written_delimiters boundary (place + length (ascii "--" ++ boundary) + 2 + length piece + 2) pieces

-- where the body parts stand
abbrev pub body_places : List ℕ → ℕ → List (List ℕ) → List BodyPart
body_places boundary place [] = []
body_places boundary place (piece ∷ pieces) =
    record { start = place + length (ascii "--" ++ boundary) + 2; end = place + length (ascii "--" ++ boundary) + 2 + length piece }
    ∷ body_places boundary (place + length (ascii "--" ++ boundary) + 2 + length piece + 2) pieces

-- ---- what can be written

abbrev pub IsNameCode : ℕ → Type 0
IsNameCode code = (33 ≤ code) × (code ≢ 47)

pub record CanBePart (boundary : List ℕ) (part : FilePart) : Type 0 where
  pub media_own : codes (bytes_of part.media) ≡ part.media
  pub name_own : codes (bytes_of part.name) ≡ part.name
  pub media_word : IsWord part.media
  pub name_word : All IsNameCode part.name
  pub outside : behind_first (ascii "--" ++ boundary) part.bytes.items ≡ None

pub record CanBeBoundary (boundary : List ℕ) : Type 0 where
  pub some : boundary ≢ []
  pub letters : All (λ byte. 48 ≤ byte) boundary

-- each has another name than those behind it
abbrev pub HaveOwnNames : List (List ℕ) → Type 0
HaveOwnNames [] = Unit {0}
HaveOwnNames (name ∷ names) = All (λ other. other ≢ name) names × HaveOwnNames names

-- ---- there is a line

cons-by : (a : ℕ) (t : Bool) (l m : List (List ℕ)) → ((line : List ℕ) × (lines : List (List ℕ)) × (m ≡ line ∷ lines)) → (line : List ℕ) × (lines : List (List ℕ)) × (cond t ([] ∷ l) (onto_first a m) ≡ line ∷ lines)
cons-by a true l m h = ([], l, refl)
cons-by a false l m h = (a ∷ h.0, h.1, ap (onto_first a) h.2)

pub lines-cons : (bytes : List ℕ) → (line : List ℕ) × (lines : List (List ℕ)) × (lines_of bytes ≡ line ∷ lines)
unfolding lines_of
lines-cons [] = ([], [], refl)
lines-cons (a ∷ []) = (a ∷ [], [], refl)
lines-cons (a ∷ b ∷ bytes) = cons-by a ((a == 13) && (b == 10)) (lines_of bytes) (lines_of (b ∷ bytes)) (lines-cons (b ∷ bytes))
