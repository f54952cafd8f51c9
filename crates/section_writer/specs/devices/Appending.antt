-- A device of the proofs: what the writing calls append. (This project's own.)
use Rattle.std.specs.Prelude.{◌≡◌, ℕ, ◌+◌, ◌%◌, List, ◌++◌, length}
use Rattle.section_writer.specs.Packets.{PacketContent, laid, packets_from}

-- packets with these contents were appended, and this is the next counter
pub record Appends (old new : List ℕ) (pid counter : ℕ) (contents : List PacketContent) (next : ℕ) : Type 0 where
  pub bytes : new ≡ old ++ laid (packets_from pid counter contents)
  pub counter_is : next ≡ (counter + length contents) % 16
