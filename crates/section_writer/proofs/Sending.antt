-- A section behind others, where all packets are of one PID.
use Rattle.std.proofs.Common.{◌≡◌, ℕ, suc, ◌+◌, ◌%◌, true, List, [], ◌∷◌, ◌++◌, length, sym, ap, refl, ◌∙◌, arith, append-nil, length-append}
use Rattle.std.specs.List.{flat_map}
use Rattle.std.proofs.lemmas.List.Concat.{flat_map-append}
use Rattle.section_writer.specs.Packets.{PacketContent, packet_bytes, packets_from, section_contents, packet_count, stuffed, laid, stream_packets}
use Rattle.section_writer.specs.Received.{IsStreamOf}
use Rattle.section_writer.specs.devices.Appending.{Appends}
use Rattle.section_writer.proofs.Pushing.{packets_from-same, length-cut}

packets_from-append : (pid counter : ℕ) (a b : List PacketContent) → packets_from pid counter (a ++ b) ≡ packets_from pid counter a ++ packets_from pid (counter + length a) b
packets_from-append pid counter [] b = let e : counter ≡ counter + 0 = omega arith in ap (λ n. packets_from pid n b) e
packets_from-append pid counter (content ∷ a) b =
    let e : (counter + 1) + length a ≡ counter + suc (length a) = omega arith in
    ap (λ x. packet_bytes pid counter content ∷ x) (packets_from-append pid (counter + 1) a b ∙ ap (λ n. packets_from pid (counter + 1) a ++ packets_from pid n b) e)

length-packets_from : (pid counter : ℕ) (contents : List PacketContent) → length (packets_from pid counter contents) ≡ length contents
length-packets_from pid counter [] = refl
length-packets_from pid counter (content ∷ contents) = ap suc (length-packets_from pid (counter + 1) contents)

pub length-section_contents : (section : List ℕ) → length (section_contents section) ≡ packet_count section
length-section_contents section = length-cut true (packet_count section) (0 ∷ stuffed section)

-- the packets of one section more, where the counter goes on from those before
pub stream-more : (pid counter : ℕ) (sent : List (List ℕ)) (section : List ℕ) → counter ≡ length (stream_packets pid sent) % 16
    → stream_packets pid (sent ++ section ∷ []) ≡ stream_packets pid sent ++ packets_from pid counter (section_contents section)
stream-more pid counter sent section h =
    let before = flat_map section_contents sent in
    let own = section_contents section in
    let count = length-packets_from pid 0 before in
    ap (packets_from pid 0) (flat_map-append section_contents sent (section ∷ []) ∙ ap (λ x. before ++ x) (append-nil own))
    ∙ packets_from-append pid 0 before own
    ∙ ap (λ x. packets_from pid 0 before ++ x) (packets_from-same pid (0 + length before) counter own (omega (arith, h, count)))

pub counter-more : (pid counter next : ℕ) (sent : List (List ℕ)) (section : List ℕ) → counter ≡ length (stream_packets pid sent) % 16 → next ≡ (counter + length (section_contents section)) % 16
    → next ≡ length (stream_packets pid (sent ++ section ∷ [])) % 16
counter-more pid counter next sent section h n =
    omega (arith, h, n, ap length (stream-more pid counter sent section h), length-append (stream_packets pid sent) (packets_from pid counter (section_contents section)), length-packets_from pid counter (section_contents section))

pub alone : (old new : List ℕ) (pid counter next : ℕ) (section : List ℕ) → Appends old new pid counter (section_contents section) next
    → (sent : List (List ℕ)) → IsStreamOf old pid counter sent → IsStreamOf new pid next (sent ++ section ∷ [])
alone old new pid counter next section h sent s = record {
  bytes_are =
      h.bytes ∙ ap (λ x. x ++ laid (packets_from pid counter (section_contents section))) s.bytes_are
      ∙ sym (ap laid (stream-more pid counter sent section s.next) ∙ flat_map-append (λ packet. packet) (stream_packets pid sent) (packets_from pid counter (section_contents section)));
  next = counter-more pid counter next sent section s.next h.counter_is;
}
