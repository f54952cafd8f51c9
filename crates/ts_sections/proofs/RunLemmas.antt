-- The recursion over packets, with what they carry in the present run and in later ones, gives the sections.
use Rattle.std.proofs.Common.{◌≡◌, ℕ, Bool, true, false, List, [], ◌∷◌, ◌++◌, map, refl, ap, ◌∙◌, Some, None}
use Rattle.std.proofs.lemmas.List.Concat.{flat_map-append}
use Rattle.std.specs.List.{flat_map}
use Rattle.std.specs.Str.{bytes_eq}
use Rattle.ts_packets.specs.Packet.{is_readable}
use Rattle.ts_sections.specs.Sections.{Token, readable_packets, unrepeated, tokens_of_packet, follows, onto_first_run, runs, pieces_of_run, sections_of_piece, sections}
use Rattle.ts_sections.specs.devices.Ahead.{Tokens, in_front, tokens_behind, sections_of_tokens, sections_from}

-- the joined payloads of a run
abbrev joined : List (List ℕ) → List Token
joined run = flat_map tokens_of_packet run

-- tokens in front of the first of these runs
abbrev onto_first : List Token → List (List Token) → List (List Token)
onto_first tokens [] = (tokens ++ []) ∷ []
onto_first tokens (run ∷ later) = (tokens ++ run) ∷ later

joined-onto_first_run : (packet : List ℕ) (rs : List (List (List ℕ))) → map joined (onto_first_run packet rs) ≡ onto_first (tokens_of_packet packet) (map joined rs)
joined-onto_first_run packet [] = refl
joined-onto_first_run packet (run ∷ later) = refl

-- the runs of `before` and what comes behind it, as tokens
abbrev Agrees : List ℕ → List (List ℕ) → Tokens → Type 0
Agrees before packets behind =
    map joined (runs (before ∷ unrepeated before (readable_packets packets))) ≡ (tokens_of_packet before ++ behind.present) ∷ behind.later

-- one more packet behind `before`
Agrees-more : (follow : Bool) (before packet : List ℕ) (packets : List (List ℕ)) (behind : Tokens) → follows before packet ≡ follow → Agrees packet packets behind
    → map joined (runs (before ∷ packet ∷ unrepeated packet (readable_packets packets))) ≡ (tokens_of_packet before ++ (in_front follow (tokens_of_packet packet) behind).present) ∷ (in_front follow (tokens_of_packet packet) behind).later
Agrees-more true before packet packets behind e h =
    rw e (joined-onto_first_run before (runs (packet ∷ unrepeated packet (readable_packets packets))) ∙ ap (onto_first (tokens_of_packet before)) h)
Agrees-more false before packet packets behind e h = rw e (ap (λ x. (tokens_of_packet before ++ []) ∷ x) h)

Agrees-step : (readable repeated : Bool) (before packet : List ℕ) (packets : List (List ℕ)) → is_readable packet ≡ readable → bytes_eq before packet ≡ repeated
    → Agrees before packets (tokens_behind (Some before) packets) → Agrees packet packets (tokens_behind (Some packet) packets)
    → Agrees before (packet ∷ packets) (tokens_behind (Some before) (packet ∷ packets))
Agrees-step false repeated before packet packets r s here there = rw r here
Agrees-step true true before packet packets r s here there = rw (r, s) here
Agrees-step true false before packet packets r s here there =
    rw (r, s) (Agrees-more (follows before packet) before packet packets (tokens_behind (Some packet) packets) refl there)

Agrees-all : (before : List ℕ) (packets : List (List ℕ)) → Agrees before packets (tokens_behind (Some before) packets)
Agrees-all before [] = refl
Agrees-all before (packet ∷ packets) =
    Agrees-step (is_readable packet) (bytes_eq before packet) before packet packets refl refl (Agrees-all before packets) (Agrees-all packet packets)

flat_map-pieces : (rs : List (List (List ℕ))) → flat_map sections_of_piece (flat_map pieces_of_run rs) ≡ flat_map sections_of_tokens (map joined rs)
flat_map-pieces [] = refl
flat_map-pieces (run ∷ rs) =
    flat_map-append sections_of_piece (pieces_of_run run) (flat_map pieces_of_run rs) ∙ ap (λ x. flat_map sections_of_piece (pieces_of_run run) ++ x) (flat_map-pieces rs)

-- the sections of all packets are those that are ahead where none was read yet
abbrev AreAhead : List (List ℕ) → Type 0
AreAhead packets = sections packets ≡ sections_from None (in_front true [] (tokens_behind None packets))

AreAhead-step : (readable : Bool) (packet : List ℕ) (packets : List (List ℕ)) → is_readable packet ≡ readable → AreAhead packets → AreAhead (packet ∷ packets)
AreAhead-step false packet packets r h = rw r h
AreAhead-step true packet packets r h =
    rw r (flat_map-pieces (runs (packet ∷ unrepeated packet (readable_packets packets))) ∙ ap (flat_map sections_of_tokens) (Agrees-all packet packets))

pub sections-ahead : (packets : List (List ℕ)) → AreAhead packets
sections-ahead [] = refl
sections-ahead (packet ∷ packets) = AreAhead-step (is_readable packet) packet packets refl (sections-ahead packets)
