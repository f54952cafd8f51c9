-- The head of the entity gives its boundary back.
use Rattle.std.proofs.Common.{◌≡◌, ◌≢◌, ℕ, ◌+◌, ◌≤◌, true, false, cond, List, [], ◌∷◌, ◌++◌, length, Some, None, Err, refl, ◌∙◌, ap, arith}
use Rattle.std.specs.Prelude.{option_and_then, codes as ascii}
use Rattle.std.specs.List.{All, before_first}
use Rattle.std.proofs.lemmas.Bool.Decides.{nat_tests}
use Rattle.std.proofs.lemmas.List.Elements.{All-append}
use Rattle.multipart_entities.specs.declared.faults.EntityFault.{EntityFault}
use Rattle.multipart_entities.specs.Lines.{behind_first, lines_of, line_then}
use Rattle.multipart_entities.specs.Boundaries.{boundary_at, boundary_in, is_multipart, is_quote, unless_empty}
use Rattle.carousel_writer.proofs.EntityForms.{CanBeBoundary, IsWord, lines-cons, word-line}
use Rattle.carousel_writer.specs.devices.LawsBelow.{EntityLaws}
use Rattle.carousel_writer.specs.Entities.{first_line}
use Rattle.multipart_entities.specs.Heads.{Head, head_in, header, is_good, media_of}
use Rattle.multipart_entities.specs.Entities.{entity, parts_behind, parts_by, parts_of_media}
use Rattle.carousel_writer.proofs.HeaderValues.{any-append, before_first-append, value-quoted}
use Rattle.carousel_writer.proofs.PartHeads.{word-literal}

abbrev pub media_text : List ℕ → List ℕ
media_text boundary = ascii "multipart/mixed; boundary=" ++ (34 ∷ (boundary ++ 34 ∷ []))

abbrev pub entity_head : List ℕ → Head
entity_head boundary = record { lines = first_line boundary ∷ []; size = length (first_line boundary) + 2 + 2 }

head-by : (boundary : List ℕ) (all : List (List ℕ)) → ((line : List ℕ) × (lines : List (List ℕ)) × (all ≡ line ∷ lines)) → head_in (first_line boundary ∷ [] ∷ all) ≡ Some (entity_head boundary)
head-by boundary all h = ap (λ l. head_in (first_line boundary ∷ [] ∷ l)) h.2

media-is : (boundary : List ℕ) → media_of (entity_head boundary) ≡ Some (media_text boundary)
unfolding header
media-is boundary = ap Some (value-quoted 109 (ascii "ultipart/mixed; boundary=\"" ++ boundary) refl)

multipart : (boundary : List ℕ) → is_multipart (media_text boundary) ≡ true
unfolding is_multipart
multipart boundary = refl

-- ---- the boundary

not_quote : (b : ℕ) → 48 ≤ b → is_quote b ≡ false
not_quote b h = grind (arith, nat_tests)

some-is : (boundary : List ℕ) → boundary ≢ [] → unless_empty boundary ≡ Some boundary
some-is [] h = absurd (h refl)
some-is (b ∷ boundary) h = refl

at-is : (boundary : List ℕ) → All (λ b. 48 ≤ b) boundary → boundary_at (34 ∷ (boundary ++ 34 ∷ [])) ≡ boundary
at-is boundary h =
    ap (λ t. cond t (before_first is_quote (boundary ++ 34 ∷ [])) []) (any-append is_quote boundary 34 [] refl)
    ∙ before_first-append is_quote boundary 34 [] (λ k d b. not_quote _ (h k d b)) refl

found : (boundary : List ℕ) → behind_first (ascii "boundary=") (media_text boundary) ≡ Some (34 ∷ (boundary ++ 34 ∷ []))
unfolding behind_first
found boundary = refl

boundary-is : (boundary : List ℕ) → CanBeBoundary boundary → boundary_in (media_text boundary) ≡ Some boundary
unfolding boundary_in
boundary-is boundary can =
    ap (option_and_then (λ bytes. unless_empty (boundary_at bytes))) (found boundary)
    ∙ (ap unless_empty (at-is boundary can.letters) ∙ some-is boundary can.some)

-- ---- the entity

word : (boundary : List ℕ) → CanBeBoundary boundary → IsWord boundary
word boundary can = λ k d b. let h = can.letters k d b in omega (arith, h)

pub boundary-word : (boundary : List ℕ) → CanBeBoundary boundary → IsWord boundary
boundary-word = word

pub first-word : (boundary : List ℕ) → CanBeBoundary boundary → IsWord (first_line boundary)
first-word boundary can =
    All-append (λ b. 32 ≤ b) (ascii "Content-Type: multipart/mixed; boundary=\"") (boundary ++ 34 ∷ []) (word-literal (ascii "Content-Type: multipart/mixed; boundary=\"") refl)
    (All-append (λ b. 32 ≤ b) boundary (34 ∷ []) (word boundary can) (word-literal (34 ∷ []) refl))

entity-lines : EntityLaws → (boundary body : List ℕ) → CanBeBoundary boundary → lines_of (line_then (first_line boundary) (line_then [] body)) ≡ first_line boundary ∷ [] ∷ lines_of body
entity-lines laws boundary body can =
    laws.lines (first_line boundary) (line_then [] body)
    ∙ (ap (λ l. l ++ lines_of (line_then [] body)) (laws.one (first_line boundary) (word-line (first_line boundary) (first-word boundary can)))
    ∙ ap (λ l. first_line boundary ∷ l) (laws.lines [] body ∙ ap (λ l. l ++ lines_of body) (laws.one [] (λ k d b. absurd (omega (arith, b))))))

behind-by : (bytes : List ℕ) (head : Head) (media boundary : List ℕ) → is_good head ≡ true → media_of head ≡ Some media → is_multipart media ≡ true → boundary_in media ≡ Some boundary
    → parts_behind bytes (Some head) ≡ parts_by bytes head.size (Some boundary)
behind-by bytes head media boundary e f g h =
    ap (λ t. cond t (parts_of_media bytes head (media_of head)) (Err EntityFault.Malformed)) e
    ∙ (ap (parts_of_media bytes head) f
    ∙ (ap (λ t. cond t (parts_by bytes head.size (boundary_in media)) (parts_of_media bytes head None)) g
    ∙ ap (parts_by bytes head.size) h))

pub entity-is : EntityLaws → (boundary body : List ℕ) → CanBeBoundary boundary → entity (line_then (first_line boundary) (line_then [] body)) ≡ parts_by (line_then (first_line boundary) (line_then [] body)) (entity_head boundary).size (Some boundary)
unfolding entity
entity-is laws boundary body can =
    let bytes = line_then (first_line boundary) (line_then [] body) in
    ap (parts_behind bytes) (ap head_in (entity-lines laws boundary body can) ∙ head-by boundary (lines_of body) (lines-cons body))
    ∙ behind-by bytes (entity_head boundary) (media_text boundary) boundary refl (media-is boundary) (multipart boundary) (boundary-is boundary can)
