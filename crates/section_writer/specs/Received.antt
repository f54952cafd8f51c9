-- What is received of a stream on one PID (ISO/IEC 13818-1, 2.4.3 and 2.4.4), in the words of the crates that read it.
use Rattle.std.specs.Prelude.{◌≡◌, ◌==◌, ◌%◌, ℕ, List, filter, length}
use Rattle.ts_packets.specs.Packet.{pid_of}
use Rattle.ts_packets.specs.Packets.{packets_of}
use Rattle.ts_sections.specs.Sections.{sections}
use Rattle.section_writer.specs.Packets.{laid, stream_bytes, stream_packets}

-- the packets of a PID, and the sections that they carry
abbrev pub packets_on : ℕ → List (List ℕ) → List (List ℕ)
packets_on pid packets = filter (λ packet. pid_of packet == pid) packets

abbrev pub sections_on : ℕ → List ℕ → List (List ℕ)
sections_on pid bytes = sections (packets_on pid (packets_of bytes))

-- the bytes are packets laid end to end, and nothing else
abbrev pub IsCutWhole : List ℕ → Type 0
IsCutWhole bytes = laid (packets_of bytes) ≡ bytes

-- the bytes are the packets of these sections on this PID, and nothing else; and this is the counter that comes next
pub record IsStreamOf (bytes : List ℕ) (pid counter : ℕ) (sent : List (List ℕ)) : Type 0 where
  pub bytes_are : bytes ≡ stream_bytes pid sent
  pub next : counter ≡ length (stream_packets pid sent) % 16

-- the bytes are packets, whatever their PIDs; on this one they carry these sections, each in packets of its own with
-- counters from 0 on; and this is the counter that comes next
pub record Carries (bytes : List ℕ) (pid counter : ℕ) (sent : List (List ℕ)) : Type 0 where
  pub whole : IsCutWhole bytes
  pub packets : packets_on pid (packets_of bytes) ≡ stream_packets pid sent
  pub next : counter ≡ length (stream_packets pid sent) % 16
