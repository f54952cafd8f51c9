-- What the packets of sections carry.
use Rattle.std.proofs.Common.{◌≡◌, ℕ, zero, suc, ◌+◌, ◌-◌, ◌*◌, ◌≤◌, true, false, not, ◌&&◌, if◌then◌else◌, List, [], ◌∷◌, ◌++◌, length, take, drop, map, replicate, refl, sym, ap, ◌∙◌, arith, length-append, length-drop}
use Rattle.std.proofs.lemmas.List.{take-append-drop, length-take-le, length-replicate}
use Rattle.std.proofs.lemmas.Bool.{le-leb}
use Rattle.std.proofs.lemmas.List.Concat.{flat_map-append}
use Rattle.std.proofs.lemmas.List.Elements.{All-nil, All-cons, All-head, All-tail, All-append}
use Rattle.std.specs.List.{flat_map, All}
use Rattle.ts_sections.specs.Sections.{Token, Byte, Mark, marked, pieces, pointer_fits, sections_of_piece}
use Rattle.section_writer.specs.Packets.{PacketContent, cut_contents, packet_count, stuffed, section_contents}
use Rattle.ts_sections.specs.Sending.{IsSection, marked_piece}
use Rattle.section_writer.specs.devices.LawsBelow.{Below}

-- what it carries as tokens
abbrev pub tokens_of_content : PacketContent → List Token
tokens_of_content content = if content.starts then marked content.payload else map Byte content.payload

map-append : (a b : List ℕ) → map Byte (a ++ b) ≡ map Byte a ++ map Byte b
map-append [] b = refl
map-append (x ∷ a) b = ap (λ t. Byte x ∷ t) (map-append a b)

-- all bytes that fit, where no unit starts
going_on : (count : ℕ) (bytes : List ℕ) → length bytes ≤ count * 184 → flat_map tokens_of_content (cut_contents false count bytes) ≡ map Byte bytes
going_on zero [] h = refl
going_on zero (b ∷ bs) h = absurd (omega arith)
going_on (suc more) bytes h =
    ap (λ t. map Byte (take 184 bytes) ++ t) (going_on more (drop 184 bytes) (omega (arith, length-drop 184 bytes)))
    ∙ sym (map-append (take 184 bytes) (drop 184 bytes))
    ∙ ap (map Byte) (take-append-drop 184 bytes)

starting : (bytes : List ℕ) → marked (0 ∷ bytes) ≡ Mark ∷ map Byte bytes
starting bytes = rw (le-leb 0 (length bytes) (omega arith)) refl

contents-carry : (count : ℕ) (bytes : List ℕ) → length bytes + 1 ≤ count * 184 → flat_map tokens_of_content (cut_contents true count (0 ∷ bytes)) ≡ Mark ∷ map Byte bytes
contents-carry zero bytes h = absurd (omega arith)
contents-carry (suc more) bytes h =
    ap (λ t. marked (0 ∷ take 183 bytes) ++ t) (going_on more (drop 183 bytes) (omega (arith, length-drop 183 bytes)))
    ∙ ap (λ t. t ++ map Byte (drop 183 bytes)) (starting (take 183 bytes))
    ∙ ap (λ t. Mark ∷ t) (sym (map-append (take 183 bytes) (drop 183 bytes)) ∙ ap (map Byte) (take-append-drop 183 bytes))

-- ---- all sections

pub fill : (section : List ℕ) → length (stuffed section) + 1 ≡ packet_count section * 184
fill section =
    let count = packet_count section in
    let more = packet_count section * 184 - (length section + 1) in
    let pad : List ℕ = replicate more 255 in
    let b : length pad ≡ more = length-replicate more 255 in
    omega (arith, length-append section pad, b)

section-carries : (section : List ℕ) → flat_map tokens_of_content (section_contents section) ≡ marked_piece (stuffed section)
section-carries section = contents-carry (packet_count section) (stuffed section) (omega (arith, fill section))

pub sections-carry : (sections : List (List ℕ)) → flat_map tokens_of_content (flat_map section_contents sections) ≡ flat_map marked_piece (map stuffed sections)
sections-carry [] = refl
sections-carry (s ∷ ss) =
    flat_map-append tokens_of_content (section_contents s) (flat_map section_contents ss)
    ∙ ap (λ x. x ++ flat_map tokens_of_content (flat_map section_contents ss)) (section-carries s)
    ∙ ap (λ x. marked_piece (stuffed s) ++ x) (sections-carry ss)

pieces-each : Below → (sections : List (List ℕ)) → All IsSection sections → flat_map sections_of_piece (map stuffed sections) ≡ sections
pieces-each laws [] h = refl
pieces-each laws (s ∷ ss) h =
    ap (λ x. x ++ flat_map sections_of_piece (map stuffed ss)) (laws.stuffing s (packet_count s * 184 - (length s + 1)) (All-head IsSection s ss h))
    ∙ ap (λ x. s ∷ x) (pieces-each laws ss (All-tail IsSection s ss h))

pub sections-in_contents : Below → (sections : List (List ℕ)) → All IsSection sections
    → flat_map sections_of_piece (pieces (flat_map tokens_of_content (flat_map section_contents sections))) ≡ sections
sections-in_contents laws sections h =
    ap (λ x. flat_map sections_of_piece (pieces x)) (sections-carry sections)
    ∙ ap (flat_map sections_of_piece) (laws.marks (map stuffed sections))
    ∙ pieces-each laws sections h

-- the content of a packet that goes on with the one before
pub record IsContent (content : PacketContent) : Type 0 where
  pub size : length content.payload ≡ 184
  pub pointer : (content.starts && not (pointer_fits content.payload)) ≡ false

contents-going_on : (count : ℕ) (bytes : List ℕ) → length bytes ≡ count * 184 → All IsContent (cut_contents false count bytes)
contents-going_on zero bytes h = All-nil IsContent
contents-going_on (suc more) bytes h =
    All-cons IsContent _ _ (record { size = length-take-le 184 bytes (omega arith); pointer = refl }) (contents-going_on more (drop 184 bytes) (omega (arith, length-drop 184 bytes)))

contents-starting : (count : ℕ) (bytes : List ℕ) → length bytes + 1 ≡ count * 184 → All IsContent (cut_contents true count (0 ∷ bytes))
contents-starting zero bytes h = absurd (omega arith)
contents-starting (suc more) bytes h =
    All-cons IsContent _ _ (record { size = length-take-le 184 (0 ∷ bytes) (omega arith); pointer = rw (le-leb 0 (length (take 183 bytes)) (omega arith)) refl }) (contents-going_on more (drop 183 bytes) (omega (arith, length-drop 183 bytes)))

pub section-sound : (section : List ℕ) → All IsContent (section_contents section)
section-sound section = contents-starting (packet_count section) (stuffed section) (fill section)

pub contents-sound : (sections : List (List ℕ)) → All IsContent (flat_map section_contents sections)
contents-sound [] = All-nil IsContent
contents-sound (s ∷ ss) = All-append IsContent (section_contents s) (flat_map section_contents ss) (section-sound s) (contents-sound ss)
