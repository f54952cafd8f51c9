-- What is read of packets and sections as a sender lays them out.
use Rattle.std.proofs.Common.{◌≡◌, ℕ, zero, suc, ◌+◌, ◌%◌, true, false, not, List, [], ◌∷◌, ◌++◌, length, take, drop, map, replicate, refl, ap, ◌∙◌, arith, append-nil}
use Rattle.std.proofs.lemmas.Bool.{and_parts, eqb-true, false_from_ne_true}
use Rattle.std.proofs.lemmas.List.{take_all, drop_all}
use Rattle.std.proofs.lemmas.List.Elements.{All-head, All-tail}
use Rattle.std.proofs.lemmas.Slice.Eq.{bytes_eq-Decides}
use Rattle.std.specs.List.{All, flat_map}
use Rattle.std.specs.Str.{bytes_eq}
use Rattle.ts_packets.specs.Packet.{is_readable, counter_of}
use Rattle.ts_sections.specs.Sections.{Byte, bytes_to_mark, follows, onto_first_run, pieces, pieces_of_run, pointer_passes, readable_packets, runs, section_size, sections, sections_of_piece, unrepeated, without_repeats}
use Rattle.ts_sections.specs.Sending.{FollowEachOther, IsSection, marked_piece}
use Rattle.ts_sections.proofs.PieceLemmas.{sections_of_piece-stuffing, sections_of_piece-whole, sections_of_piece-none}
use Rattle.ts_sections.proofs.TokenLemmas.{bytes_to_mark-bytes, pieces-bytes}

-- ---- one run

abbrev IsRead : List ℕ → Type 0
IsRead packet = is_readable packet ≡ true

-- a packet doesn't follow itself: its counter would be one more
not_itself : (packet : List ℕ) → follows packet packet ≡ true → ⊥
not_itself packet h = let e = eqb-true (counter_of packet) ((counter_of packet + 1) % 16) (and_parts _ (not (pointer_passes packet)) h).0 in omega (arith, e)

not_repeated : (before packet : List ℕ) → follows before packet ≡ true → bytes_eq before packet ≡ false
not_repeated before packet h = false_from_ne_true _ (λ t. let e : before ≡ packet = (bytes_eq-Decides before packet).0 t in not_itself packet (rw e at h))

readable-all : (packets : List (List ℕ)) → All IsRead packets → readable_packets packets ≡ packets
readable-all [] h = refl
readable-all (packet ∷ packets) h = rw (All-head IsRead packet packets h) (ap (λ x. packet ∷ x) (readable-all packets (All-tail IsRead packet packets h)))

unrepeated-all : (before : List ℕ) (packets : List (List ℕ)) → FollowEachOther (before ∷ packets) → unrepeated before packets ≡ packets
unrepeated-all before [] h = refl
unrepeated-all before (packet ∷ packets) (f, h) = rw (not_repeated before packet f) (ap (λ x. packet ∷ x) (unrepeated-all packet packets h))

runs-one : (before : List ℕ) (packets : List (List ℕ)) → FollowEachOther (before ∷ packets) → runs (before ∷ packets) ≡ (before ∷ packets) ∷ []
runs-one before [] h = refl
runs-one before (packet ∷ packets) (f, h) = rw f (ap (onto_first_run before) (runs-one packet packets h))

pub one_run : (packets : List (List ℕ)) → All IsRead packets → FollowEachOther packets → sections packets ≡ flat_map sections_of_piece (pieces_of_run packets)
one_run [] r h = refl
one_run (packet ∷ packets) r h =
    ap (λ x. flat_map sections_of_piece (flat_map pieces_of_run (runs (without_repeats x)))) (readable-all (packet ∷ packets) r)
    ∙ ap (λ x. flat_map sections_of_piece (flat_map pieces_of_run (runs (packet ∷ x)))) (unrepeated-all packet packets h)
    ∙ ap (λ x. flat_map sections_of_piece (flat_map pieces_of_run x)) (runs-one packet packets h)
    ∙ ap (flat_map sections_of_piece) (append-nil (pieces_of_run (packet ∷ packets)))

-- ---- pieces

to_mark-none : (list : List (List ℕ)) → bytes_to_mark (flat_map marked_piece list) ≡ []
to_mark-none [] = refl
to_mark-none (piece ∷ list) = refl

pub pieces-marked : (list : List (List ℕ)) → pieces (flat_map marked_piece list) ≡ list
pieces-marked [] = refl
pieces-marked (piece ∷ list) =
    ap (λ x. x ∷ pieces (map Byte piece ++ flat_map marked_piece list)) (bytes_to_mark-bytes piece (flat_map marked_piece list) ∙ ap (λ x. piece ++ x) (to_mark-none list) ∙ append-nil piece)
    ∙ ap (λ x. piece ∷ x) (pieces-bytes piece (flat_map marked_piece list) ∙ pieces-marked list)

-- ---- a section and stuffing

stuffing-none : (count : ℕ) → sections_of_piece (replicate count 255) ≡ []
stuffing-none zero = sections_of_piece-none [] refl
stuffing-none (suc count) = sections_of_piece-stuffing (replicate (suc count) 255) refl

pub before_stuffing : (section : List ℕ) (count : ℕ) → IsSection section → sections_of_piece (section ++ replicate count 255) ≡ section ∷ []
before_stuffing section count h =
    let taken : take (section_size section) section ≡ section = ap (λ n. take n section) h.all ∙ take_all (length section) section (omega arith) in
    let left : drop (section_size section) section ≡ [] = ap (λ n. drop n section) h.all ∙ drop_all (length section) section (omega arith) in
    sections_of_piece-whole section (replicate count 255) h.begins ∙ rw (taken, left) (ap (λ x. section ∷ x) (stuffing-none count))
