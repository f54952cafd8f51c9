-- Laws of the fields of a packet.
use Rattle.std.proofs.Common.{◌≡◌, ℕ, ◌/◌, List, length, take, drop, get_or, bit_and, Some, sym, ◌∙◌, ap, arith}
use Rattle.std.proofs.lemmas.Nat.{and_mask}
use Rattle.std.proofs.lemmas.Bool.{cond-true, eq-eqb}
use Rattle.std.proofs.lemmas.List.{length-drop, take_all}
use Rattle.ts_packets.specs.Packet.{payload_of}

-- with control 1 the payload is all behind the header
pub payload_of-whole : (packet : List ℕ) → length packet ≡ 188 → bit_and (get_or packet 3 0 / 16) 3 ≡ 1 → Some (take 184 (drop 4 packet)) ≡ payload_of packet
payload_of-whole packet size control =
    ap Some (take_all 184 (drop 4 packet) (omega (arith, length-drop 4 packet)))
    ∙ sym (cond-true _ _ _ (eq-eqb _ _ (sym (and_mask (get_or packet 3 0 / 16) 2) ∙ control)))
