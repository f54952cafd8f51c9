-- The fields of a packet that is written.
use Rattle.std.proofs.Common.{◌≡◌, ℕ, ◌+◌, ◌/◌, ◌%◌, ◌<◌, Bool, true, false, List, length, refl, arith, Some}
use Rattle.ts_packets.specs.Packet.{IsPacket, pid_of, counter_of, payload_of, starts_unit, is_readable}
use Rattle.section_writer.specs.Packets.{PacketContent, packet_bytes}

pub IsPacket-written : (pid counter : ℕ) (content : PacketContent) → length content.payload ≡ 184 → IsPacket (packet_bytes pid counter content)
IsPacket-written pid counter content size = record { size = omega (arith, size); sync = refl }

control : (c : ℕ) → (16 + c % 16) / 16 % 4 ≡ 1
control c = omega arith

scrambling : (c : ℕ) → (16 + c % 16) / 64 % 4 ≡ 0
scrambling c = omega arith

low : (c : ℕ) → (16 + c % 16) / 1 % 16 ≡ c % 16
low c = omega arith

pub counter-written : (pid counter : ℕ) (content : PacketContent) → counter_of (packet_bytes pid counter content) ≡ counter % 16
counter-written pid counter content = low counter

top : (s p : ℕ) → s < 65 → p < 32 → (s + p) / 128 % 2 ≡ 0
top s p h k = omega arith

starts-is : (pid counter : ℕ) (starts : Bool) (bytes : List ℕ) → pid < 8192 → starts_unit (packet_bytes pid counter (record { starts = starts; payload = bytes })) ≡ starts
starts-is pid counter true bytes h = let e : (64 + pid / 256) / 64 % 2 ≡ 1 = omega arith in rw e refl
starts-is pid counter false bytes h = let e : (0 + pid / 256) / 64 % 2 ≡ 0 = omega arith in rw e refl

pub starts-written : (pid counter : ℕ) (content : PacketContent) → pid < 8192 → starts_unit (packet_bytes pid counter content) ≡ content.starts
starts-written pid counter content h = starts-is pid counter content.starts content.payload h

pub payload-written : (pid counter : ℕ) (content : PacketContent) → payload_of (packet_bytes pid counter content) ≡ Some content.payload
payload-written pid counter content = rw (control counter) refl

readable-is : (pid counter : ℕ) (starts : Bool) (bytes : List ℕ) → pid < 8192 → is_readable (packet_bytes pid counter (record { starts = starts; payload = bytes })) ≡ true
readable-is pid counter true bytes h = let e : (64 + pid / 256) / 128 % 2 ≡ 0 = omega arith in rw (e, scrambling counter, control counter) refl
readable-is pid counter false bytes h = let e : (0 + pid / 256) / 128 % 2 ≡ 0 = omega arith in rw (e, scrambling counter, control counter) refl

pub readable-written : (pid counter : ℕ) (content : PacketContent) → pid < 8192 → is_readable (packet_bytes pid counter content) ≡ true
readable-written pid counter content h = readable-is pid counter content.starts content.payload h

pid-is : (pid counter : ℕ) (starts : Bool) (bytes : List ℕ) → pid < 8192 → pid_of (packet_bytes pid counter (record { starts = starts; payload = bytes })) ≡ pid
pid-is pid counter true bytes h = omega arith
pid-is pid counter false bytes h = omega arith

pub pid-written : (pid counter : ℕ) (content : PacketContent) → pid < 8192 → pid_of (packet_bytes pid counter content) ≡ pid
pid-written pid counter content h = pid-is pid counter content.starts content.payload h
