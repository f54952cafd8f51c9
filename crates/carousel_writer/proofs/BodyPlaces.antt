-- Where the pieces stand.
use Rattle.std.proofs.Common.{◌≡◌, ℕ, ◌+◌, ◌-◌, false, List, [], ◌∷◌, ◌++◌, length, take, drop, Some, refl, sym, ◌∙◌, ap, arith}
use Rattle.std.specs.Prelude.{option_map, codes as ascii}
use Rattle.std.specs.List.{slice_range}
use Rattle.std.proofs.lemmas.List.{length-append, append_assoc}
use Rattle.std.proofs.Math.Seq.{take-append_seam, drop-append_seam}
use Rattle.multipart_entities.specs.Boundaries.{Delimiter, delimiter_at}
use Rattle.multipart_entities.specs.Lines.{line_then}
use Rattle.carousel_writer.proofs.EntityForms.{body_places, written_delimiters}
use Rattle.multipart_entities.specs.Entities.{body_parts, up_to_last}

pub up_to-all : (boundary : List ℕ) (place : ℕ) (pieces : List (List ℕ)) → up_to_last (written_delimiters boundary place pieces) ≡ Some (written_delimiters boundary place pieces)
up_to-all boundary place [] = refl
up_to-all boundary place (piece ∷ pieces) =
    ap (option_map (λ behind. delimiter_at (record { place = place; line = ascii "--" ++ boundary }) false ∷ behind)) (up_to-all boundary (place + length (ascii "--" ++ boundary) + 2 + length piece + 2) pieces)

first-two : (boundary : List ℕ) (one : Delimiter) (place end : ℕ) (pieces : List (List ℕ)) → place ≡ end + 2 → body_parts (one ∷ written_delimiters boundary place pieces) ≡ record { start = one.next; end = end } ∷ body_parts (written_delimiters boundary place pieces)
first-two boundary one place end [] e = let n : place - 2 ≡ end = omega (arith, e) in ap (λ k. record { start = one.next; end = k } ∷ []) n
first-two boundary one place end (piece ∷ pieces) e =
    let n : place - 2 ≡ end = omega (arith, e) in ap (λ k. record { start = one.next; end = k } ∷ body_parts (written_delimiters boundary place (piece ∷ pieces))) n

pub parts-places : (boundary : List ℕ) (place : ℕ) (pieces : List (List ℕ)) → body_parts (written_delimiters boundary place pieces) ≡ body_places boundary place pieces
parts-places boundary place [] = refl
parts-places boundary place (piece ∷ pieces) =
    let start : ℕ = place + length (ascii "--" ++ boundary) + 2 in
    first-two boundary (delimiter_at (record { place = place; line = ascii "--" ++ boundary }) false) (start + length piece + 2) (start + length piece) pieces refl
    ∙ ap (λ l. record { start = start; end = start + length piece } ∷ l) (parts-places boundary (start + length piece + 2) pieces)

pub places-count : (boundary : List ℕ) (place : ℕ) (pieces : List (List ℕ)) → length (body_places boundary place pieces) ≡ length pieces
places-count boundary place [] = refl
places-count boundary place (piece ∷ pieces) = let e = places-count boundary (place + length (ascii "--" ++ boundary) + 2 + length piece + 2) pieces in omega (arith, e)

-- what stands between
pub slice-at : (front middle rest : List ℕ) (start end : ℕ) → start ≡ length front → end ≡ length front + length middle → slice_range (front ++ (middle ++ rest)) start end ≡ middle
slice-at front middle rest start end e f =
    let n : end - start ≡ length middle = omega (arith, e, f) in
    ap (λ k. take (end - start) (drop k (front ++ (middle ++ rest)))) e
    ∙ (ap (take (end - start)) (drop-append_seam front (middle ++ rest))
    ∙ (ap (λ k. take k (middle ++ rest)) n ∙ take-append_seam middle rest))

-- a front with a line more
pub front-line : (front line rest : List ℕ) → front ++ line_then line rest ≡ (front ++ line_then line []) ++ rest
front-line front line rest = sym (append_assoc front (line_then line []) rest ∙ ap (λ l. front ++ l) (append_assoc line (13 ∷ 10 ∷ []) rest))

pub front-length : (front line : List ℕ) → length (front ++ line_then line []) ≡ length front + length line + 2
front-length front line =
    let end : List ℕ = 13 ∷ 10 ∷ [] in
    let e : length (front ++ line_then line []) ≡ length front + length (line_then line []) = length-append front (line_then line []) in
    let f : length (line_then line []) ≡ length line + length end = length-append line end in
    omega (arith, e, f)
