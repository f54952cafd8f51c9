use Rattle.std.proofs.Common.{◌≡◌, List, ℕ, subst, sym, ◌∙◌, arith}
use Rattle.std.proofs.lemmas.List.{take_all}
use Rattle.std.specs.Array.{IsFirstChunk}
use Rattle.ts_packets.specs.Packet.{IsPacket}
use Rattle.ts_packets.proofs.packet.Packet.from_bytes.Goals as goal

same : (bytes front : List ℕ) → IsPacket bytes → IsFirstChunk bytes front 188 → front ≡ bytes
same bytes front packet first = first.same ∙ take_all 188 bytes (omega (arith, packet.size))

pub invariant_of-result : goal.invariant_of-result
invariant_of-result c =
    subst IsPacket (sym (same _ _ c.requires.packet (rw c.unwrap.ensures at c.first_chunk.ensures.cases))) c.requires.packet

pub returns : goal.returns
returns c = same _ _ c.requires.packet (rw c.unwrap.ensures at c.first_chunk.ensures.cases)
