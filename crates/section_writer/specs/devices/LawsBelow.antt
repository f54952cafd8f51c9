-- A device of the proofs: the laws of the crates below on which they stand, as one record. (This project's own.)
use Rattle.std.specs.Prelude.{◌≡◌, ℕ, true, List, [], ◌∷◌, ◌++◌, replicate}
use Rattle.std.specs.List.{All, flat_map}
use Rattle.std.specs.Int.{w32, to_be_bytes}
use Rattle.ts_packets.specs.Packet.{IsPacket, is_readable}
use Rattle.ts_packets.specs.Packets.{packets_of}
use Rattle.ts_sections.specs.Crc.{remainder_of}
use Rattle.ts_sections.specs.Sections.{pieces, pieces_of_run, sections, sections_of_piece}
use Rattle.ts_sections.specs.Sending.{FollowEachOther, IsSection, marked_piece}

-- what is read of packets and of sections
pub record Below : Type 0 where
  pub cut : (bytes : List ℕ) → All IsPacket (packets_of bytes)
  pub apart : (packets : List (List ℕ)) → All IsPacket packets → packets_of (flat_map (λ packet. packet) packets) ≡ packets
  pub one_run : (packets : List (List ℕ)) → All (λ packet. is_readable packet ≡ true) packets → FollowEachOther packets → sections packets ≡ flat_map sections_of_piece (pieces_of_run packets)
  pub marks : (list : List (List ℕ)) → pieces (flat_map marked_piece list) ≡ list
  pub stuffing : (section : List ℕ) (count : ℕ) → IsSection section → sections_of_piece (section ++ replicate count 0xFF) ≡ section ∷ []
  pub crc : (bytes : List ℕ) → remainder_of (bytes ++ to_be_bytes w32 (remainder_of bytes)) ≡ 0
