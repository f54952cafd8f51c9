-- The delimiter lines of what was written.
use Rattle.std.proofs.Common.{◌≡◌, ℕ, ◌+◌, List, [], ◌∷◌, ◌++◌, length, None, refl, ◌∙◌, ap}
use Rattle.std.specs.Prelude.{false, true, codes as ascii}
use Rattle.std.specs.List.{All, cons_option, filter_map}
use Rattle.std.proofs.lemmas.List.Elements.{All-head, All-tail}
use Rattle.multipart_entities.specs.Lines.{Placed, behind_first, line_then, placed_from}
use Rattle.multipart_entities.specs.Boundaries.{delimiter_at, delimiter_of, placed_delimiters}
use Rattle.carousel_writer.specs.Entities.{body_bytes}
use Rattle.carousel_writer.specs.devices.LawsBelow.{EntityLaws}
use Rattle.carousel_writer.proofs.EntityForms.{IsClear, IsWord, word-line, written_delimiters}

-- ---- lines that are none

nowhere-none : (boundary : List ℕ) → behind_first (ascii "--" ++ boundary) [] ≡ None
unfolding behind_first
nowhere-none boundary = refl

pub clear-none : EntityLaws → (boundary : List ℕ) → IsClear boundary []
clear-none laws boundary place = laws.none boundary [] place (nowhere-none boundary)

other-of : (boundary line : List ℕ) (place : ℕ) → (let placed : Placed = record { place = place; line = 67 ∷ line } in delimiter_of boundary placed ≡ None)
unfolding delimiter_of
other-of boundary line place = refl

-- a line that begins with `C`
pub clear-other : EntityLaws → (boundary line : List ℕ) → IsWord (67 ∷ line) → IsClear boundary (67 ∷ line)
clear-other laws boundary line h place =
    ap (λ l. filter_map (delimiter_of boundary) (placed_from place l)) (laws.one (67 ∷ line) (word-line (67 ∷ line) h)) ∙ ap (λ o. cons_option o []) (other-of boundary line place)

-- two pieces
pub clear-both : EntityLaws → (boundary line rest : List ℕ) → IsClear boundary line → IsClear boundary rest → IsClear boundary (line_then line rest)
clear-both laws boundary line rest h k place =
    laws.both boundary line rest place ∙ ap (λ l. l ++ placed_delimiters boundary (place + length line + 2) rest) (h place) ∙ k (place + length line + 2)

-- ---- all of them

pub delims-body : EntityLaws → (boundary : List ℕ) (pieces : List (List ℕ)) (place : ℕ) → IsWord boundary → All (IsClear boundary) pieces → placed_delimiters boundary place (body_bytes boundary pieces) ≡ written_delimiters boundary place pieces
delims-body laws boundary [] place w h =
    let line : List ℕ = ascii "--" ++ (boundary ++ ascii "--") in
    laws.both boundary line [] place
    ∙ (ap (λ l. l ++ placed_delimiters boundary (place + length line + 2) []) (laws.last boundary place (word-line boundary w))
    ∙ ap (λ l. delimiter_at (record { place = place; line = line }) true ∷ l) (clear-none laws boundary (place + length line + 2)))
delims-body laws boundary (piece ∷ pieces) place w h =
    let line : List ℕ = ascii "--" ++ boundary in
    let start : ℕ = place + length line + 2 in
    let rest : List ℕ = body_bytes boundary pieces in
    laws.both boundary line (line_then piece rest) place
    ∙ (ap (λ l. l ++ placed_delimiters boundary start (line_then piece rest)) (laws.inner boundary place (word-line boundary w))
    ∙ ap (λ l. delimiter_at (record { place = place; line = line }) false ∷ l)
    (laws.both boundary piece rest start
    ∙ (ap (λ l. l ++ placed_delimiters boundary (start + length piece + 2) rest) (All-head (IsClear boundary) piece pieces h start)
    ∙ delims-body laws boundary pieces (start + length piece + 2) w (All-tail (IsClear boundary) piece pieces h))))
