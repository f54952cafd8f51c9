-- The stream of sections.
use Rattle.std.proofs.Common.{◌≡◌, ℕ, ◌+◌, ◌%◌, ◌<◌, true, false, not, List, [], ◌∷◌, ◌++◌, refl, sym, ap, ◌∙◌, arith}
use Rattle.std.proofs.lemmas.Bool.{and_from, eq-eqb}
use Rattle.std.proofs.lemmas.List.Elements.{All-nil, All-cons, All-head, All-tail}
use Rattle.std.specs.List.{flat_map, All}
use Rattle.ts_packets.specs.Packet.{IsPacket, counter_of, is_readable}
use Rattle.ts_sections.specs.Sections.{tokens_of_packet, pointer_passes, follows, pieces, sections_of_piece, sections}
use Rattle.section_writer.specs.Packets.{PacketContent, packet_bytes, packets_from, section_contents, stream_packets}
use Rattle.ts_sections.specs.Sending.{FollowEachOther, IsSection}
use Rattle.section_writer.proofs.PacketFields.{IsPacket-written, counter-written, starts-written, payload-written, readable-written}
use Rattle.section_writer.specs.devices.LawsBelow.{Below}
use Rattle.section_writer.proofs.ContentLaws.{tokens_of_content, IsContent, contents-sound, sections-in_contents}

packet-tokens : (pid counter : ℕ) (content : PacketContent) → pid < 8192 → tokens_of_packet (packet_bytes pid counter content) ≡ tokens_of_content content
packet-tokens pid counter content h = rw (starts-written pid counter content h, payload-written pid counter content) refl

pub tokens-packets_from : (pid counter : ℕ) (contents : List PacketContent) → pid < 8192 → flat_map tokens_of_packet (packets_from pid counter contents) ≡ flat_map tokens_of_content contents
tokens-packets_from pid counter [] h = refl
tokens-packets_from pid counter (content ∷ contents) h =
    ap (λ x. x ++ flat_map tokens_of_packet (packets_from pid (counter + 1) contents)) (packet-tokens pid counter content h)
    ∙ ap (λ x. tokens_of_content content ++ x) (tokens-packets_from pid (counter + 1) contents h)

fits-written : (pid counter : ℕ) (content : PacketContent) → pid < 8192 → IsContent content → pointer_passes (packet_bytes pid counter content) ≡ false
fits-written pid counter content h sound = rw (starts-written pid counter content h, payload-written pid counter content) sound.pointer

next-follows : (pid counter : ℕ) (before content : PacketContent) → pid < 8192 → IsContent content → follows (packet_bytes pid counter before) (packet_bytes pid (counter + 1) content) ≡ true
next-follows pid counter before content h sound =
    let fits = fits-written pid (counter + 1) content h sound in
    let e : (counter + 1) % 16 ≡ (counter % 16 + 1) % 16 = omega arith in
    and_from _ _ (eq-eqb (counter_of (packet_bytes pid (counter + 1) content)) ((counter_of (packet_bytes pid counter before) + 1) % 16) (counter-written pid (counter + 1) content ∙ e ∙ ap (λ n. (n + 1) % 16) (sym (counter-written pid counter before)))) (ap not fits)

packets_from-readable : (pid counter : ℕ) (contents : List PacketContent) → pid < 8192 → All (λ packet. is_readable packet ≡ true) (packets_from pid counter contents)
packets_from-readable pid counter [] h = All-nil (λ packet. is_readable packet ≡ true)
packets_from-readable pid counter (content ∷ contents) h =
    All-cons (λ packet. is_readable packet ≡ true) (packet_bytes pid counter content) (packets_from pid (counter + 1) contents) (readable-written pid counter content h) (packets_from-readable pid (counter + 1) contents h)

packets_from-follow : (pid counter : ℕ) (contents : List PacketContent) → pid < 8192 → All IsContent contents → FollowEachOther (packets_from pid counter contents)
packets_from-follow pid counter [] h sound = tt
packets_from-follow pid counter (content ∷ []) h sound = tt
packets_from-follow pid counter (before ∷ content ∷ contents) h sound =
    let rest = All-tail IsContent before (content ∷ contents) sound in
    (next-follows pid counter before content h (All-head IsContent content contents rest), packets_from-follow pid (counter + 1) (content ∷ contents) h rest)

-- the sections of the stream are those sent
pub stream-sections : Below → (pid : ℕ) (sent : List (List ℕ)) → pid < 8192 → All IsSection sent → sections (stream_packets pid sent) ≡ sent
stream-sections laws pid sent h each =
    laws.one_run (stream_packets pid sent) (packets_from-readable pid 0 (flat_map section_contents sent) h) (packets_from-follow pid 0 (flat_map section_contents sent) h (contents-sound sent))
    ∙ ap (λ x. flat_map sections_of_piece (pieces x)) (tokens-packets_from pid 0 (flat_map section_contents sent) h)
    ∙ sections-in_contents laws sent each

pub packets_from-packets : (pid counter : ℕ) (contents : List PacketContent) → All IsContent contents → All IsPacket (packets_from pid counter contents)
packets_from-packets pid counter [] sound = All-nil IsPacket
packets_from-packets pid counter (content ∷ contents) sound =
    let here = All-head IsContent content contents sound in
    All-cons IsPacket _ _ (IsPacket-written pid counter content here.size) (packets_from-packets pid (counter + 1) contents (All-tail IsContent content contents sound))

-- and its packets are packets
pub stream-packets : (pid : ℕ) (sent : List (List ℕ)) → All IsPacket (stream_packets pid sent)
stream-packets pid sent = packets_from-packets pid 0 (flat_map section_contents sent) (contents-sound sent)
