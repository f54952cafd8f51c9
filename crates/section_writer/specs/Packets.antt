-- How sections are laid out in packets of one PID (ISO/IEC 13818-1, 2.4.3 and 2.4.4): each begins a packet, and its last
-- packet is filled up with stuffing. The packets have no adaptation field, aren't scrambled, and have priority 0.
use Rattle.std.specs.Prelude.{ℕ, zero, suc, ◌+◌, ◌-◌, ◌*◌, ◌/◌, ◌%◌, Bool, true, false, List, [], ◌∷◌, ◌++◌, length, take, drop, replicate, if◌then◌else◌}
use Rattle.std.specs.List.{flat_map}

-- what a packet carries: whether a unit starts in it (payload_unit_start_indicator), and its payload
pub record PacketContent : Type 0 where
  pub starts : Bool
  pub payload : List ℕ

-- the packet: sync byte, payload_unit_start_indicator and PID, adaptation_field_control 1 (payload alone) and
-- continuity_counter, and the payload (2.4.3.2)
abbrev pub packet_bytes : ℕ → ℕ → PacketContent → List ℕ
packet_bytes pid counter content =
    0x47 ∷ ((if content.starts then 0x40 else 0) + pid / 256) ∷ pid % 256 ∷ (0x10 + counter % 16) ∷ content.payload

-- packets that carry these one after another; the counter goes on by one from each to the next
abbrev pub packets_from : ℕ → ℕ → List PacketContent → List (List ℕ)
packets_from pid counter [] = []
packets_from pid counter (content ∷ contents) = packet_bytes pid counter content ∷ packets_from pid (counter + 1) contents

-- bytes cut into so many payloads of 184 bytes; a unit starts in the first of them, if in any
abbrev pub cut_contents : Bool → ℕ → List ℕ → List PacketContent
cut_contents starts zero bytes = []
cut_contents starts (suc more) bytes = record { starts = starts; payload = take 184 bytes } ∷ cut_contents false more (drop 184 bytes)

-- how many packets a section takes, with its pointer_field: as few as it fits in
abbrev pub packet_count : List ℕ → ℕ
packet_count section = (length section + 184) / 184

-- the section, and 0xFF behind it to the end of its last packet
abbrev pub stuffed : List ℕ → List ℕ
stuffed section = section ++ replicate (packet_count section * 184 - (length section + 1)) 0xFF

-- what the packets of a section carry: pointer_field 0, and the section with its stuffing (2.4.4.1)
abbrev pub section_contents : List ℕ → List PacketContent
section_contents section = cut_contents true (packet_count section) (0 ∷ stuffed section)

-- the packets of some sections: each in packets of its own, with counters going on from 0
abbrev pub stream_packets : ℕ → List (List ℕ) → List (List ℕ)
stream_packets pid sections = packets_from pid 0 (flat_map section_contents sections)

-- packets laid end to end
abbrev pub laid : List (List ℕ) → List ℕ
laid packets = flat_map (λ packet. packet) packets

abbrev pub stream_bytes : ℕ → List (List ℕ) → List ℕ
stream_bytes pid sections = laid (stream_packets pid sections)
